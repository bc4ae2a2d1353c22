-- What a commit leaves in the journal.
use Rattle.std.proofs.Common.{◌≡◌, ℕ, ◌+◌, ◌≤◌, List, [], ◌∷◌, ◌++◌, length, All, ap, sym, ◌∙◌, subst, arith}
use Rattle.std.proofs.lemmas.List.{length-map}
use Rattle.std.specs.declared.result.Result.{Result}
use Rattle.alarm_machine.specs.declared.states.OrderFault.{OrderFault}
use Rattle.alarm_machine.specs.Alarms.{PlainAlarm}
use Rattle.journal_core.specs.declared.row.Row.{Row}
use Rattle.journal_core.specs.Rows.{PlainLog, after_entry, after_entries, last_moment}
use Rattle.journal_core.specs.declared.row.Entry.TheVariants as entry
use Rattle.engine_system.specs.Plants.{PlainPlant}
use Rattle.engine_system.specs.Names.{globals_of}
use Rattle.engine_system.specs.Event.{Event}
use Rattle.engine_system.specs.Event.TheVariants as event
use Rattle.alarm_orders.specs.declared.order.Order.{Order}
use Rattle.engine_system.specs.declared.state.Effect.{Effect}
use Rattle.alarm_bank.specs.Moves.{changes_from}
use Rattle.journal_core.specs.Rows.{change_entry}
use Rattle.engine_system.specs.System.{System, system, after_event, ordered}
use Rattle.engine.specs.Lawful.{IsTaken}
use Rattle.engine_system.specs.Reports.{PlainReport}
use Rattle.engine.specs.Journal.{IsJournal, named_change, named_order, refusal_of, one_or_none, change_entries, added_entries, row_plants, scan_entries, order_entries}
use Rattle.engine.specs.RowNames.{HaveNames}
use Rattle.engine.proofs.Names.{event_names, names_reload}
use Rattle.engine_system.specs.Orders.{alarms_by, changed_by}
use Rattle.engine.proofs.OrderRows.{order_changes}
use Rattle.engine.specs.Engines.{PlainEngine, PlainPreparedReload, Fits, FitsOrder, FitsReload, state_of}
use Rattle.engine_system.specs.States.{PlainState, PlainPrepared, PlainPreparedOrder, after_effect, IsState, IsReport}
use Rattle.alarm_delays.specs.Delays.{PlainDelays}
use Rattle.engine_system.proofs.Images.{taken_when}
use Rattle.engine_system.proofs.Systems.{system_next}
use Rattle.engine.proofs.Journals.{as_many_rows, reload_journal, scan_journal, order_journal, until_after, last_below, room_after, length-scan_entries, few_order_entries}

-- a scan leaves the state of the history with it
pub scan_state : (e : PlainEngine) (p : PlainPrepared) (k : PlainState) → Fits e p → IsState (state_of e) k → IsState (system e.plant (e.history ++ p.event ∷ [])) (after_effect p.effect k)
scan_state e p k fits held = subst (λ (s : System). IsState s (after_effect p.effect k)) (sym (system_next e.plant e.history p.event)) (fits.effect_is k held)

-- and the same plant
pub scan_present : (e : PlainEngine) (p : PlainPrepared) (now : PlainPlant) → Fits e p → (state_of e).plant ≡ now → (system e.plant (e.history ++ p.event ∷ [])).plant ≡ now
scan_present e p now fits own =
    ap (λ (s : System). s.plant) (system_next e.plant e.history p.event) ∙ ap (λ (x : Event). (after_event (state_of e) x).plant) fits.event_is ∙ own

-- and the journal of that history
pub scan_committed : (e : PlainEngine) (p : PlainPrepared) (log : PlainLog) → Fits e p → IsJournal e.plant e.history log.rows → IsJournal e.plant (e.history ++ p.event ∷ []) (after_entries p.report.moment log (scan_entries p.report)).rows
scan_committed e p log fits held =
    subst (λ (x : Event). IsJournal e.plant (e.history ++ x ∷ []) (after_entries p.report.moment log (scan_entries p.report)).rows) (sym fits.event_is)
    (scan_journal e.plant e.history fits.image p.report.moment p.report log (subst (λ (x : Event). IsReport (state_of e) x p.report) fits.event_is fits.report_is) held)

-- with the names of its rows
pub scan_names : (e : PlainEngine) (p : PlainPrepared) (now : PlainPlant) (names : List (List ℕ)) (log : PlainLog) → Fits e p → (state_of e).plant ≡ now → IsJournal e.plant e.history log.rows → HaveNames (row_plants e.plant e.history) log.rows names now
    → HaveNames (row_plants e.plant (e.history ++ p.event ∷ [])) (after_entries p.report.moment log (scan_entries p.report)).rows names now
scan_names e p now names log fits own held have = event_names e.plant e.history p.event now names p.report.moment log (scan_entries p.report) own held (scan_committed e p log fits held) have

-- its moment isn't before that of the last scan
scan_forward : (e : PlainEngine) (p : PlainPrepared) (k : PlainState) → Fits e p → IsState (state_of e) k → k.moment ≤ p.report.moment
scan_forward e p k fits held =
    let sys = state_of e in
    let taken : IsTaken sys (event.Scan fits.image p.report.moment) = subst (IsTaken sys) fits.event_is fits.taken in
    let found = taken_when (globals_of sys.plant) sys.moment sys.events taken.0 p.report.moment p.report.moment fits.image taken.1 in
    omega (arith, held.moment_is, found.forward)

-- and is that of the state that it leaves
moment_after : (e : PlainEngine) (p : PlainPrepared) (k : PlainState) → Fits e p → IsState (state_of e) k → p.effect.moment ≡ p.report.moment
moment_after e p k fits held =
    (fits.effect_is k held).moment_is ∙ ap (λ (x : Event). (after_event (state_of e) x).moment) fits.event_is

-- so the delays go on to it
pub scan_later : (e : PlainEngine) (p : PlainPrepared) (k : PlainState) → Fits e p → IsState (state_of e) k → k.delays.last ≤ p.effect.moment
scan_later e p k fits held =
    let last : k.delays.last ≡ (state_of e).moment = ap (λ (d : PlainDelays). d.last) held.delays_are in
    omega (arith, last, held.moment_is, scan_forward e p k fits held, moment_after e p k fits held)

pub scan_until : (e : PlainEngine) (p : PlainPrepared) (k : PlainState) (log : PlainLog) → Fits e p → IsState (state_of e) k → All (λ row. row.moment ≤ k.moment) log.rows
    → All (λ row. row.moment ≤ p.effect.moment) (after_entries p.report.moment log (scan_entries p.report)).rows
scan_until e p k log fits held until =
    subst (λ m. All (λ (row : Row). row.moment ≤ m) (after_entries p.report.moment log (scan_entries p.report)).rows) (sym (moment_after e p k fits held))
    (until_after k.moment p.report.moment log (scan_entries p.report) (scan_forward e p k fits held) until)

-- so its rows are in order
pub scan_in_order : (e : PlainEngine) (p : PlainPrepared) (k : PlainState) (rows : List Row) → Fits e p → IsState (state_of e) k → All (λ row. row.moment ≤ k.moment) rows → last_moment rows ≤ p.report.moment
scan_in_order e p k rows fits held until =
    let last = last_below k.moment rows until in
    let forward = scan_forward e p k fits held in
    omega (arith, last, forward)

-- an order leaves the same plant
pub order_present : (e : PlainEngine) (p : PlainPreparedOrder) (now : PlainPlant) → (state_of e).plant ≡ now → (system e.plant (e.history ++ event.Order p.console p.order ∷ [])).plant ≡ now
order_present e p now own = ap (λ (s : System). s.plant) (system_next e.plant e.history (event.Order p.console p.order)) ∙ own

-- and the journal of that history
pub order_committed : (e : PlainEngine) (p : PlainPreparedOrder) (k : PlainState) (log : PlainLog) → IsState (state_of e) k → FitsOrder e p → IsJournal e.plant e.history log.rows
    → IsJournal e.plant (e.history ++ event.Order p.console p.order ∷ []) (after_entries k.moment log (order_entries p.console p.order p.done k.alarms)).rows
order_committed e p k log held fits journal =
    let sys = state_of e in
    let done = ordered sys p.console p.order in
    let rows : ℕ → Result Effect OrderFault → List PlainAlarm → List Row = λ m d a. (after_entries m log (order_entries p.console p.order d a)).rows in
    let same : rows k.moment p.done k.alarms ≡ rows sys.moment done sys.alarms =
    ap (λ m. rows m p.done k.alarms) held.moment_is ∙ ap (λ d. rows sys.moment d k.alarms) fits.done_is ∙ ap (rows sys.moment done) held.alarms_are in
    subst (IsJournal e.plant (e.history ++ event.Order p.console p.order ∷ [])) (sym same) (order_journal e.plant e.history p.console p.order log journal)

-- with the names of its rows
pub order_names : (e : PlainEngine) (p : PlainPreparedOrder) (k : PlainState) (now : PlainPlant) (names : List (List ℕ)) (log : PlainLog) → IsState (state_of e) k → FitsOrder e p → (state_of e).plant ≡ now → IsJournal e.plant e.history log.rows
    → HaveNames (row_plants e.plant e.history) log.rows names now → HaveNames (row_plants e.plant (e.history ++ event.Order p.console p.order ∷ [])) (after_entries k.moment log (order_entries p.console p.order p.done k.alarms)).rows names now
order_names e p k now names log state fits own held have =
    event_names e.plant e.history (event.Order p.console p.order) now names k.moment log (order_entries p.console p.order p.done k.alarms) own held (order_committed e p k log state fits held) have

pub order_until : (m : ℕ) (log : PlainLog) (console : ℕ) (order : Order) (done : Result Effect OrderFault) (alarms : List PlainAlarm) → All (λ row. row.moment ≤ m) log.rows
    → All (λ row. row.moment ≤ m) (after_entries m log (order_entries console order done alarms)).rows
order_until m log console order done alarms until = until_after m m log (order_entries console order done alarms) (omega arith) until

-- rows that are added take their room
pub scan_room : (moment : ℕ) (log : PlainLog) (r : PlainReport) → length r.faults + length r.changes ≤ log.room → (after_entries moment log (scan_entries r)).room + (length r.faults + length r.changes) ≡ log.room
scan_room moment log r there =
    let left = room_after moment log (scan_entries r) in
    let many = length-scan_entries r in
    omega (arith, there, left, many)

-- as many entries as an order adds by names
order_many : (plant : PlainPlant) (console : ℕ) (order : Order) (done : Result Effect OrderFault) (alarms : List PlainAlarm)
    → length (order_entries console order done alarms) ≡ length (named_order plant console order.verb order.target (refusal_of done) ∷ change_entries plant (changes_from 0 alarms (alarms_by done alarms)))
order_many plant console order done alarms =
    let ours = length-map (one_or_none (changed_by done alarms)) change_entry in
    let theirs = length-map (changes_from 0 alarms (alarms_by done alarms)) (named_change plant) in
    let same = ap length (order_changes done alarms) in
    omega (arith, ours, theirs, same)

pub order_room : (e : PlainEngine) (p : PlainPreparedOrder) (k : PlainState) (log : PlainLog) → IsState (state_of e) k → FitsOrder e p → 2 ≤ log.room
    → (after_entries k.moment log (order_entries p.console p.order p.done k.alarms)).room + length (added_entries (state_of e) (event.Order p.console p.order)) ≡ log.room
order_room e p k log held fits there =
    let sys = state_of e in
    let done = ordered sys p.console p.order in
    let left = room_after k.moment log (order_entries p.console p.order p.done k.alarms) in
    let few = few_order_entries p.console p.order p.done k.alarms in
    let same : length (order_entries p.console p.order p.done k.alarms) ≡ length (order_entries p.console p.order done sys.alarms) = λ i. length (order_entries p.console p.order (fits.done_is i) (held.alarms_are i)) in
    let many : length (order_entries p.console p.order done sys.alarms) ≡ length (added_entries sys (event.Order p.console p.order)) = order_many sys.plant p.console p.order done sys.alarms in
    omega (arith, left, few, same, many, there)

-- a reload leaves its plant
pub reload_present : (e : PlainEngine) (new : PlainPlant) → (system e.plant (e.history ++ event.Reload new ∷ [])).plant ≡ new
reload_present e new = ap (λ (s : System). s.plant) (system_next e.plant e.history (event.Reload new))

-- and the state of the history with it
pub reload_state : (e : PlainEngine) (p : PlainPreparedReload) → FitsReload e p → IsState (system e.plant (e.history ++ event.Reload p.plant ∷ [])) p.state
reload_state e p fits = subst (λ (s : System). IsState s p.state) (sym (system_next e.plant e.history (event.Reload p.plant))) fits.state_is

-- and its journal
pub reload_committed : (e : PlainEngine) (p : PlainPreparedReload) (log : PlainLog) (moment : ℕ) → moment ≡ (state_of e).moment → FitsReload e p → IsJournal e.plant e.history log.rows
    → IsJournal e.plant (e.history ++ event.Reload p.plant ∷ []) (after_entry moment log (entry.Reload p.kept p.fresh)).rows
reload_committed e p log moment at fits journal =
    subst (λ m. IsJournal e.plant (e.history ++ event.Reload p.plant ∷ []) (after_entry m log (entry.Reload p.kept p.fresh)).rows) (sym at)
    (reload_journal e.plant e.history p.plant p.kept p.fresh log fits.told journal)

pub reload_until : (e : PlainEngine) (p : PlainPreparedReload) (k : PlainState) (log : PlainLog) (moment : ℕ) → moment ≡ (state_of e).moment → IsState (state_of e) k → FitsReload e p → All (λ row. row.moment ≤ k.moment) log.rows
    → All (λ row. row.moment ≤ p.state.moment) (after_entry moment log (entry.Reload p.kept p.fresh)).rows
reload_until e p k log moment at held fits until =
    let same : moment ≡ p.state.moment = at ∙ sym fits.state_is.moment_is in
    subst (λ m. All (λ (row : Row). row.moment ≤ m) (after_entry moment log (entry.Reload p.kept p.fresh)).rows) same
    (until_after k.moment moment log (entry.Reload p.kept p.fresh ∷ []) (omega (arith, at, held.moment_is)) until)

-- and the names of its rows, where those of all rows before it are kept
pub reload_names : (e : PlainEngine) (p : PlainPreparedReload) (now : PlainPlant) (names : List (List ℕ)) (log : PlainLog) (moment : ℕ) → moment ≡ (state_of e).moment → FitsReload e p → (state_of e).plant ≡ now → IsJournal e.plant e.history log.rows → e.named ≡ length names
    → HaveNames (row_plants e.plant e.history) log.rows names now → HaveNames (row_plants e.plant (e.history ++ event.Reload p.plant ∷ [])) (after_entry moment log (entry.Reload p.kept p.fresh)).rows names p.plant
reload_names e p now names log moment at fits own held counted have =
    let many = as_many_rows e.plant e.history log.rows held in
    names_reload (row_plants e.plant (e.history ++ event.Reload p.plant ∷ [])) log.rows (length log.rows + 1) moment p.kept p.fresh names now p.plant (omega (arith, many, counted, fits.named))
    (event_names e.plant e.history (event.Reload p.plant) now names moment log (entry.Reload p.kept p.fresh ∷ []) own held (reload_committed e p log moment at fits held) have)
