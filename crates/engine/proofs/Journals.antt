-- The journal goes on by the rows of one event.
use Rattle.std.proofs.Common.{◌≡◌, ℕ, suc, ◌+◌, ◌-◌, ◌<◌, ◌≤◌, List, [], ◌∷◌, ◌++◌, length, map, replicate, zero, All, fold, refl, ap, sym, ◌∙◌, subst, append_assoc, append-nil, length-append, arith, Option, Some, None}
use Rattle.std.specs.declared.result.Result.{Result}
use Rattle.std.specs.Prelude.{slice_get}
use Rattle.std.proofs.lemmas.Option.{same_Some}
use Rattle.std.proofs.lemmas.List.{map-append, length-map}
use Rattle.std.proofs.lemmas.List.Elements.{All-nil, All-cons, All-head, All-tail, All-push, All-weaker, All-append, All-map}
use Rattle.plant_types.specs.declared.values.Place.{Place}
use Rattle.plant_types.specs.declared.values.Trap.{Trap}
use Rattle.plant_types.specs.declared.values.Value.{Value}
use Rattle.alarm_machine.specs.declared.states.OrderFault.{OrderFault}
use Rattle.alarm_machine.specs.Alarms.{PlainAlarm}
use Rattle.engine_system.specs.declared.state.Effect.{Effect}
use Rattle.alarm_machine.specs.Codes.{PlainChange}
use Rattle.engine_system.specs.VmLogicRuns.{place_spot}
use Rattle.journal_core.specs.declared.row.Entry.{Entry}
use Rattle.journal_core.specs.declared.row.Entry.TheVariants as entry
use Rattle.journal_core.specs.declared.row.Row.{Row}
use Rattle.journal_core.specs.Rows.{PlainLog, after_entry, after_entries, fault_entry, change_entry, last_moment}
use Rattle.engine_system.specs.Plants.{PlainPlant}
use Rattle.engine_system.specs.Event.{Event}
use Rattle.engine_system.specs.Event.TheVariants as event
use Rattle.alarm_orders.specs.declared.order.Order.{Order}
use Rattle.engine_system.specs.Orders.{changed_by}
use Rattle.engine_system.specs.Reports.{PlainReport}
use Rattle.engine_system.specs.States.{IsReport}
use Rattle.alarm_bank.specs.Moves.{changes_from}
use Rattle.engine_system.specs.System.{System, system, opening_system, after_event, ordered}
use Rattle.engine_system.proofs.Systems.{system_alarms, system_faulted, changes_within, numbers_more}
use Rattle.engine.proofs.OrderRows.{order_changes, order_named}
use Rattle.engine.specs.Journal.{NamedEntry, FaultAt, ReloadOf, named_change, named_order, named_entry, named_row, fault_entries, change_entries, added_entries, refusal_of, one_or_none, scan_entries, order_entries, rows_from, added_rows, journal_from, journal_of, plants_from, row_plants, named_rows, AreNamed, IsNamed, IsJournal}
use Rattle.engine.specs.Engines.{TellsReload}

length-rows_from : (n moment : ℕ) (entries : List NamedEntry) → length (rows_from n moment entries) ≡ length entries
length-rows_from n moment [] = refl
length-rows_from n moment (entry ∷ entries) = ap suc (length-rows_from (n + 1) moment entries)

journal_more : (n : ℕ) (sys : System) (history : List Event) (e : Event)
    → journal_from n sys (history ++ e ∷ []) ≡ journal_from n sys history ++ added_rows (n + length (journal_from n sys history)) (fold after_event sys history) e
journal_more n sys [] e = append-nil (added_rows n sys e) ∙ ap (λ m. added_rows m sys e) (let h : n ≡ n + 0 = omega arith in h)
journal_more n sys (d ∷ history) e =
    let rows = added_rows n sys d in
    let m = n + length (added_entries sys d) in
    let later = journal_from m (after_event sys d) history in
    let last = fold after_event (after_event sys d) history in
    let long = length-rows_from n (after_event sys d).moment (added_entries sys d) in
    let both = length-append rows later in
    let same : m + length later ≡ n + length (rows ++ later) = omega (arith, long, both) in
    ap (λ l. rows ++ l) (journal_more m (after_event sys d) history e)
    ∙ ap (λ k. rows ++ (later ++ added_rows k last e)) same
    ∙ sym (append_assoc rows later (added_rows (n + length (rows ++ later)) last e))

-- one more event adds its rows
pub journal_next : (plant : PlainPlant) (history : List Event) (e : Event) → journal_of plant (history ++ e ∷ []) ≡ journal_of plant history ++ added_rows (length (journal_of plant history) + 1) (system plant history) e
unfolding journal_of system
journal_next plant history e =
    let rows = journal_from 1 (opening_system plant) history in
    let now = fold after_event (opening_system plant) history in
    let same : 1 + length rows ≡ length rows + 1 = omega arith in
    journal_more 1 (opening_system plant) history e ∙ ap (λ n. rows ++ added_rows n now e) same

pub journal_none : (plant : PlainPlant) → journal_of plant [] ≡ []
unfolding journal_of
journal_none plant = refl

-- ---- the rows of a log, by names
abbrev row_for : ℕ → PlainLog → Entry → Row
row_for moment log entry = record { number = length log.rows + 1; moment = moment; entry = entry }

-- one row more, and its plant
named_push : (plants : List PlainPlant) (rows : List Row) (plant : PlainPlant) (row : Row) → length plants ≡ length rows → named_rows (plants ++ plant ∷ []) (rows ++ row ∷ []) ≡ named_rows plants rows ++ named_row plant row ∷ []
named_push [] [] plant row many = refl
named_push [] (r ∷ rows) plant row many = absurd (omega (arith, many))
named_push (p ∷ plants) [] plant row many = absurd (omega (arith, many))
named_push (p ∷ plants) (r ∷ rows) plant row many = ap (λ l. named_row p r ∷ l) (named_push plants rows plant row (omega (arith, many)))

pub named_after : (plants : List PlainPlant) (plant : PlainPlant) (moment : ℕ) (log : PlainLog) (entries : List Entry) → length plants ≡ length log.rows
    → named_rows (plants ++ replicate (length entries) plant) (after_entries moment log entries).rows ≡ named_rows plants log.rows ++ rows_from (length log.rows + 1) moment (map (named_entry plant) entries)
named_after plants plant moment log [] many = ap (λ (l : List PlainPlant). named_rows l log.rows) (append-nil plants) ∙ sym (append-nil (named_rows plants log.rows))
named_after plants plant moment log (entry ∷ entries) many =
    let rest = map (named_entry plant) entries in
    let row = row_for moment log entry in
    let more = replicate (length entries) plant in
    let then = after_entries moment (after_entry moment log entry) entries in
    let long : length (log.rows ++ row ∷ []) + 1 ≡ length log.rows + 1 + 1 = ap (λ k. k + 1) (length-append log.rows (row ∷ [])) in
    let both : length (plants ++ plant ∷ []) ≡ length (log.rows ++ row ∷ []) = length-append plants (plant ∷ []) ∙ ap (λ k. k + 1) many ∙ sym (length-append log.rows (row ∷ [])) in
    ap (λ (l : List PlainPlant). named_rows l then.rows) (sym (append_assoc plants (plant ∷ []) more))
    ∙ named_after (plants ++ plant ∷ []) plant moment (after_entry moment log entry) entries both
    ∙ ap (λ k. named_rows (plants ++ plant ∷ []) (log.rows ++ row ∷ []) ++ rows_from k moment rest) long
    ∙ ap (λ l. l ++ rows_from (length log.rows + 1 + 1) moment rest) (named_push plants log.rows plant row many)
    ∙ append_assoc (named_rows plants log.rows) (named_row plant row ∷ []) (rows_from (length log.rows + 1 + 1) moment rest)

-- each plant has what its row names, also of rows that are added
named_both : (plants : List PlainPlant) (rows : List Row) (plant : PlainPlant) (row : Row) → AreNamed plants rows → IsNamed plant row.entry → AreNamed (plants ++ plant ∷ []) (rows ++ row ∷ [])
named_both [] [] plant row all one = (one, tt)
named_both [] (r ∷ rows) plant row all one = absurd all
named_both (p ∷ plants) [] plant row all one = absurd all
named_both (p ∷ plants) (r ∷ rows) plant row all one = (all.0, named_both plants rows plant row all.1 one)

named_more : (plants : List PlainPlant) (plant : PlainPlant) (moment : ℕ) (log : PlainLog) (entries : List Entry) → AreNamed plants log.rows → All (IsNamed plant) entries
    → AreNamed (plants ++ replicate (length entries) plant) (after_entries moment log entries).rows
named_more plants plant moment log [] all new = subst (λ (l : List PlainPlant). AreNamed l log.rows) (sym (append-nil plants)) all
named_more plants plant moment log (entry ∷ entries) all new =
    let then = after_entries moment (after_entry moment log entry) entries in
    subst (λ (l : List PlainPlant). AreNamed l then.rows) (append_assoc plants (plant ∷ []) (replicate (length entries) plant))
    (named_more (plants ++ plant ∷ []) plant moment (after_entry moment log entry) entries
    (named_both plants log.rows plant (row_for moment log entry) all (All-head (IsNamed plant) entry entries new)) (All-tail (IsNamed plant) entry entries new))

-- as many plants as rows
pub as_many_plants : (plants : List PlainPlant) (rows : List Row) → AreNamed plants rows → length plants ≡ length rows
as_many_plants [] [] all = refl
as_many_plants [] (r ∷ rows) all = absurd all
as_many_plants (p ∷ plants) [] all = absurd all
as_many_plants (p ∷ plants) (r ∷ rows) all = ap suc (as_many_plants plants rows all.1)

-- the plants of the rows that one more event adds
plants_more : (sys : System) (history : List Event) (e : Event)
    → plants_from sys (history ++ e ∷ []) ≡ plants_from sys history ++ replicate (length (added_entries (fold after_event sys history) e)) (fold after_event sys history).plant
plants_more sys [] e = append-nil (replicate (length (added_entries sys e)) sys.plant)
plants_more sys (d ∷ history) e =
    let here = replicate (length (added_entries sys d)) sys.plant in
    let last = fold after_event (after_event sys d) history in
    ap (λ (l : List PlainPlant). here ++ l) (plants_more (after_event sys d) history e)
    ∙ sym (append_assoc here (plants_from (after_event sys d) history) (replicate (length (added_entries last e)) last.plant))

pub plants_next : (plant : PlainPlant) (history : List Event) (e : Event)
    → row_plants plant (history ++ e ∷ []) ≡ row_plants plant history ++ replicate (length (added_entries (system plant history) e)) (system plant history).plant
unfolding row_plants system
plants_next plant history e = plants_more (opening_system plant) history e

pub plants_none : (plant : PlainPlant) → row_plants plant [] ≡ []
unfolding row_plants
plants_none plant = refl

-- entries that are added one after the other
pub after_both : (moment : ℕ) (log : PlainLog) (xs ys : List Entry) → after_entries moment (after_entries moment log xs) ys ≡ after_entries moment log (xs ++ ys)
after_both moment log [] ys = refl
after_both moment log (x ∷ xs) ys = after_both moment (after_entry moment log x) xs ys

-- what holds of each row of a log and of each that is added
pub all_after : (P : Row → Type 0) (moment : ℕ) (log : PlainLog) (entries : List Entry) → All P log.rows → ((n : ℕ) → All (λ entry. P (record { number = n; moment = moment; entry = entry })) entries) → All P (after_entries moment log entries).rows
all_after P moment log [] held new = held
all_after P moment log (entry ∷ entries) held new =
    all_after P moment (after_entry moment log entry) entries
    (All-push P log.rows (row_for moment log entry) held (All-head (λ (x : Entry). P (record { number = length log.rows + 1; moment = moment; entry = x })) entry entries (new (length log.rows + 1))))
    (λ n. All-tail (λ (x : Entry). P (record { number = n; moment = moment; entry = x })) entry entries (new n))

pub room_after : (moment : ℕ) (log : PlainLog) (entries : List Entry) → (after_entries moment log entries).room ≡ log.room - length entries
room_after moment log [] = omega arith
room_after moment log (entry ∷ entries) = let h = room_after moment (after_entry moment log entry) entries in omega (arith, h)

-- the last row's moment is among those of all rows
pub last_below : (m : ℕ) (rows : List Row) → All (λ row. row.moment ≤ m) rows → last_moment rows ≤ m
last_below m [] all = omega arith
last_below m (row ∷ []) all = All-head (λ (r : Row). r.moment ≤ m) row [] all
last_below m (row ∷ next ∷ rows) all = last_below m (next ∷ rows) (All-tail (λ (r : Row). r.moment ≤ m) row (next ∷ rows) all)

-- rows that are added are not later than their own moment
last_of_more : (rows : List Row) (row : Row) → last_moment (rows ++ row ∷ []) ≡ row.moment
last_of_more [] row = refl
last_of_more (first ∷ []) row = refl
last_of_more (first ∷ next ∷ rows) row = last_of_more (next ∷ rows) row

pub last_pushed : (moment : ℕ) (log new : PlainLog) (entry : Entry) → new ≡ after_entry moment log entry → last_moment new.rows ≤ moment
last_pushed moment log new entry is =
    let last = ap (λ (l : PlainLog). last_moment l.rows) is ∙ last_of_more log.rows (row_for moment log entry) in
    omega (arith, last)

pub last_after : (moment : ℕ) (log : PlainLog) (entries : List Entry) → last_moment log.rows ≤ moment → last_moment (after_entries moment log entries).rows ≤ moment
last_after moment log [] late = late
last_after moment log (entry ∷ entries) late = last_after moment (after_entry moment log entry) entries (last_pushed moment log (after_entry moment log entry) entry refl)

-- after the faults of a scan there is room for its changes
pub faults_room : (moment : ℕ) (log new : PlainLog) (faults : List (Place × Trap)) (n : ℕ) → new ≡ after_entries moment log (map fault_entry faults) → length faults + n ≤ log.room → n ≤ new.room
faults_room moment log new faults n is there =
    let left = ap (λ (l : PlainLog). l.room) is ∙ room_after moment log (map fault_entry faults) in
    let many = length-map faults fault_entry in
    omega (arith, left, many, there)

-- the entries of a scan's report, by names
pub faults_named : (plant : PlainPlant) (faults : List (Place × Trap)) → map (named_entry plant) (map fault_entry faults) ≡ fault_entries (map (λ (f : Place × Trap). (place_spot plant.source f.0, f.1)) faults)
faults_named plant [] = refl
faults_named plant (f ∷ fs) = ap (λ l. FaultAt (place_spot plant.source f.0) f.1 ∷ l) (faults_named plant fs)

pub changes_named : (plant : PlainPlant) (changes : List (ℕ × PlainChange)) → map (named_entry plant) (map change_entry changes) ≡ change_entries plant changes
changes_named plant [] = refl
changes_named plant (c ∷ cs) = ap (λ l. named_change plant c ∷ l) (changes_named plant cs)

-- as many rows by names as rows
named_many : (plants : List PlainPlant) (rows : List Row) → length plants ≡ length rows → length (named_rows plants rows) ≡ length rows
named_many [] [] many = refl
named_many [] (r ∷ rows) many = absurd (omega (arith, many))
named_many (p ∷ plants) [] many = absurd (omega (arith, many))
named_many (p ∷ plants) (r ∷ rows) many = ap suc (named_many plants rows (omega (arith, many)))

pub as_many_rows : (plant : PlainPlant) (history : List Event) (rows : List Row) → IsJournal plant history rows → length rows ≡ length (journal_of plant history)
as_many_rows plant history rows held =
    let plants = row_plants plant history in
    sym (named_many plants rows (as_many_plants plants rows held.named)) ∙ ap length held.rows_are

-- the plants of the rows after one more event, by its entries
pub after_plants : (plant : PlainPlant) (history : List Event) (e : Event) (entries : List Entry) → map (named_entry (system plant history).plant) entries ≡ added_entries (system plant history) e
    → row_plants plant (history ++ e ∷ []) ≡ row_plants plant history ++ replicate (length entries) (system plant history).plant
after_plants plant history e entries are =
    let here = (system plant history).plant in
    let many : length (added_entries (system plant history) e) ≡ length entries = ap length (sym are) ∙ length-map entries (named_entry here) in
    plants_next plant history e ∙ ap (λ n. row_plants plant history ++ replicate n here) many

-- ---- a journal goes on, by entries that the system's plant names
journal_on : (plant : PlainPlant) (history : List Event) (e : Event) (moment : ℕ) (log : PlainLog) (entries : List Entry) → moment ≡ (after_event (system plant history) e).moment
    → map (named_entry (system plant history).plant) entries ≡ added_entries (system plant history) e → All (IsNamed (system plant history).plant) entries → IsJournal plant history log.rows → IsJournal plant (history ++ e ∷ []) (after_entries moment log entries).rows
journal_on plant history e moment log entries at are within held =
    let sys = system plant history in
    let here = sys.plant in
    let plants = row_plants plant history in
    let journal = journal_of plant history in
    let then = (after_entries moment log entries).rows in
    let many = as_many_plants plants log.rows held.named in
    let long : length log.rows + 1 ≡ length journal + 1 = ap (λ k. k + 1) (as_many_rows plant history log.rows held) in
    let next = after_plants plant history e entries are in
    record {
      rows_are = ap (λ (l : List PlainPlant). named_rows l then) next
          ∙ named_after plants here moment log entries many
          ∙ ap (λ l. l ++ rows_from (length log.rows + 1) moment (map (named_entry here) entries)) held.rows_are
          ∙ ap (λ n. journal ++ rows_from n moment (map (named_entry here) entries)) long
          ∙ ap (λ es. journal ++ rows_from (length journal + 1) moment es) are
          ∙ ap (λ m. journal ++ rows_from (length journal + 1) m (added_entries sys e)) at
          ∙ sym (journal_next plant history e);
      named = subst (λ (l : List PlainPlant). AreNamed l then) (sym next) (named_more plants here moment log entries held.named within);
    }

-- by the rows of a scan
pub scan_journal : (plant : PlainPlant) (history : List Event) (image : List (ℕ × Value)) (t : ℕ) (r : PlainReport) (log : PlainLog) → IsReport (system plant history) (event.Scan image t) r → IsJournal plant history log.rows
    → IsJournal plant (history ++ event.Scan image t ∷ []) (after_entries r.moment log (scan_entries r)).rows
scan_journal plant history image t r log report held =
    let here = (system plant history).plant in
    let P = IsNamed here in
    let faults = faults_named here r.faults ∙ ap fault_entries report.faults_are in
    let changes = changes_named here r.changes ∙ ap (change_entries here) report.changes_are in
    journal_on plant history (event.Scan image t) r.moment log (scan_entries r) report.moment_is
    (map-append (named_entry here) (map fault_entry r.faults) (map change_entry r.changes) ∙ (λ i. faults i ++ changes i))
    (All-append P (map fault_entry r.faults) (map change_entry r.changes) (All-map P fault_entry r.faults report.faults_within) (All-map P change_entry r.changes report.changes_within))
    held

-- by those of an order
pub order_journal : (plant : PlainPlant) (history : List Event) (console : ℕ) (order : Order) (log : PlainLog) → IsJournal plant history log.rows
    → IsJournal plant (history ++ event.Order console order ∷ []) (after_entries (system plant history).moment log (order_entries console order (ordered (system plant history) console order) (system plant history).alarms)).rows
order_journal plant history console order log held =
    let sys = system plant history in
    let done = ordered sys console order in
    let changes = changes_from 0 sys.alarms (after_event sys (event.Order console order)).alarms in
    let are : changes ≡ one_or_none (changed_by done sys.alarms) = order_changes done sys.alarms in
    let many = system_alarms plant history in
    let few : All (λ (c : ℕ × PlainChange). c.0 < length sys.plant.alarms) changes = numbers_more changes (0 + length sys.alarms) (length sys.plant.alarms) (omega (arith, many)) (changes_within 0 sys.alarms (after_event sys (event.Order console order)).alarms) in
    let P = IsNamed sys.plant in
    journal_on plant history (event.Order console order) sys.moment log (order_entries console order done sys.alarms) refl
    (ap (λ l. named_order sys.plant console order.verb order.target (refusal_of done) ∷ l) (changes_named sys.plant (one_or_none (changed_by done sys.alarms)) ∙ ap (change_entries sys.plant) (sym are)))
    (All-cons P (entry.Order console order.verb order.target (refusal_of done)) (map change_entry (one_or_none (changed_by done sys.alarms)))
    (order_named sys.plant sys.alarms sys.faulted sys.moment sys.reloads console order (system_faulted plant history))
    (All-map P change_entry (one_or_none (changed_by done sys.alarms)) (subst (All (λ (c : ℕ × PlainChange). c.0 < length sys.plant.alarms)) are few)))
    held

-- by that of a reload
pub reload_journal : (plant : PlainPlant) (history : List Event) (new : PlainPlant) (kept fresh : ℕ) (log : PlainLog) → TellsReload (system plant history) new kept fresh → IsJournal plant history log.rows
    → IsJournal plant (history ++ event.Reload new ∷ []) (after_entries (system plant history).moment log (entry.Reload kept fresh ∷ [])).rows
reload_journal plant history new kept fresh log told held =
    let here = (system plant history).plant in
    journal_on plant history (event.Reload new) (system plant history).moment log (entry.Reload kept fresh ∷ []) refl
    (λ i. ReloadOf (told.kept_is i) (told.fresh_is i) ∷ []) (All-cons (IsNamed here) (entry.Reload kept fresh) [] tt (All-nil (IsNamed here))) held

-- the rows of a history without events
pub journal_empty : (plant : PlainPlant) → IsJournal plant [] []
journal_empty plant = record {
  rows_are = ap (λ (l : List PlainPlant). named_rows l []) (plants_none plant) ∙ sym (journal_none plant);
  named = subst (λ (l : List PlainPlant). AreNamed l []) (sym (plants_none plant)) tt;
}

-- no row is later than the last scan
each : (P : Entry → Type 0) (xs : List Entry) → ((x : Entry) → P x) → All P xs
each P [] h = All-nil P
each P (x ∷ xs) h = All-cons P x xs (h x) (each P xs h)

pub until_after : (m n : ℕ) (log : PlainLog) (entries : List Entry) → m ≤ n → All (λ row. row.moment ≤ m) log.rows → All (λ row. row.moment ≤ n) (after_entries n log entries).rows
until_after m n log entries later all =
    all_after (λ (row : Row). row.moment ≤ n) n log entries (All-weaker (λ (row : Row). row.moment ≤ m) (λ (row : Row). row.moment ≤ n) (λ row before. omega (arith, before, later)) log.rows all)
    (λ k. each (λ x. n ≤ n) entries (λ x. omega arith))

-- how many rows an event adds
pub length-scan_entries : (r : PlainReport) → length (scan_entries r) ≡ length r.faults + length r.changes
length-scan_entries r =
    let sum = length-append (map fault_entry r.faults) (map change_entry r.changes) in
    let a = length-map r.faults fault_entry in
    let b = length-map r.changes change_entry in
    omega (arith, sum, a, b)

few_one_or_none : {A : Type 0} (o : Option A) → length (one_or_none o) ≤ 1
few_one_or_none None = omega arith
few_one_or_none (Some a) = omega arith

pub few_order_entries : (console : ℕ) (order : Order) (done : Result Effect OrderFault) (alarms : List PlainAlarm) → length (order_entries console order done alarms) ≤ 2
few_order_entries console order done alarms =
    let few = few_one_or_none (changed_by done alarms) in
    let same = length-map (one_or_none (changed_by done alarms)) change_entry in
    omega (arith, few, same)

-- the row of a number is that of the journal, by the names of its plant
pub get_named : (plants : List PlainPlant) (rows : List Row) (k : ℕ) (row : Row) → AreNamed plants rows → slice_get rows k ≡ Some row
    → (plant : PlainPlant) × (slice_get plants k ≡ Some plant) × (slice_get (named_rows plants rows) k ≡ Some (named_row plant row)) × IsNamed plant row.entry
get_named [] [] k row all at = absurd (cc (at))
get_named [] (r ∷ rows) k row all at = absurd all
get_named (p ∷ plants) [] k row all at = absurd all
get_named (p ∷ plants) (r ∷ rows) zero row all at =
    let same : r ≡ row = same_Some r row at in
    (p, refl, ap (λ (x : Row). Some (named_row p x)) same, subst (λ (x : Row). IsNamed p x.entry) same all.0)
get_named (p ∷ plants) (r ∷ rows) (suc k) row all at = get_named plants rows k row all.1 at

pub row_at : (plant : PlainPlant) (history : List Event) (rows : List Row) (k : ℕ) (row : Row) → IsJournal plant history rows → slice_get rows k ≡ Some row
    → (own : PlainPlant) × (slice_get (row_plants plant history) k ≡ Some own) × (slice_get (journal_of plant history) k ≡ Some (named_row own row)) × IsNamed own row.entry
row_at plant history rows k row held at =
    let got = get_named (row_plants plant history) rows k row held.named at in
    (got.0, got.1, ap (λ l. slice_get l k) (sym held.rows_are) ∙ got.2, got.3)
