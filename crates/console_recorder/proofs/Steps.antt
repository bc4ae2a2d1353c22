-- A board goes on with a history: the next entry may come, and after it the board's alarms are the system's.
use Rattle.std.proofs.Common.{◌≡◌, suc, true, List, [], ◌∷◌, ◌++◌, length, fold, Ok, Err, IfOk, refl, ap, sym, ◌∙◌}
use Rattle.std.specs.declared.result.Result.{Result}
use Rattle.engine.specs.Event.{Event}
use Rattle.engine.specs.Event.TheVariants as event
use Rattle.engine.specs.Plants.{PlainPlant}
use Rattle.engine.specs.Names.{globals_of}
use Rattle.engine.specs.System.{System, system, opening_system, after_event}
use Rattle.alarm_bank.specs.Banks.{PlainBank}
use Rattle.alarm_bank.specs.Reloads.{PlainAnnunciator}
use Rattle.engine.proofs.Images.{taken_when}
use Rattle.engine.proofs.FoundReload.{reload_found}
use Rattle.engine.proofs.Systems.{HasAlarms, alarms_there, system_next, system_none}
use Rattle.engine.specs.Lawful.{IsTaken}
use Rattle.console_boards.specs.declared.entry.BoardEntry.{BoardEntry}
use Rattle.console_boards.specs.declared.picture.Picture.{Picture}
use Rattle.console_boards.specs.declared.writer.BoardWriter.{BoardWriter}
use Rattle.console_boards.specs.Stories.{shown}
use Rattle.console_boards.specs.Replies.{after, allows, panel_after_entry}
use Rattle.console_boards.specs.declared.board.Board.{Board}
use Rattle.console_boards.specs.Readers.{published, laid, story_of}
use Rattle.console_boards.proofs.Takes.{shown_more}
use Rattle.console_recorder.specs.Entries.{entry_of, entries_from, entries_of, bank_of, panel_of, counted_consoles, picture_of}
use Rattle.console_recorder.specs.Showing.{HasAlarmsOf, HasHistory}
use Rattle.console_recorder.proofs.Orders.{ordered_takes}
use Rattle.console_recorder.proofs.Reloads.{panel_reloaded, reload_allowed}
use Rattle.console_recorder.proofs.Scans.{scan_after}

entries_more : (s : System) (es : List Event) (e : Event) → entries_from s (es ++ e ∷ []) ≡ entries_from s es ++ entry_of (fold after_event s es) e ∷ []
entries_more s [] e = refl
entries_more s (x ∷ es) e = ap (λ (l : List BoardEntry). entry_of s x ∷ l) (entries_more (after_event s x) es e)

pub history_more : (plant : PlainPlant) (history : List Event) (e : Event) → entries_of plant (history ++ e ∷ []) ≡ entries_of plant history ++ entry_of (system plant history) e ∷ []
unfolding entries_of system
history_more plant history e = entries_more (opening_system plant) history e

length_from : (s : System) (es : List Event) → length (entries_from s es) ≡ length es
length_from s [] = refl
length_from s (e ∷ es) = ap suc (length_from (after_event s e) es)

-- an entry for each event
pub length_of : (plant : PlainPlant) (history : List Event) → length (entries_of plant history) ≡ length history
unfolding entries_of
length_of plant history = length_from (opening_system plant) history

next_allowed : (sys : System) (e : Event) → HasAlarms sys → IsTaken sys e → allows (picture_of sys) (entry_of sys e) ≡ true
next_allowed sys (event.Scan image t) each h = refl
next_allowed sys (event.Order console order) each h = (ordered_takes (bank_of sys) sys.plant sys.faulted sys.reloads console order).may
next_allowed sys (event.Reload new) each h = reload_allowed sys new each.0 h.1

-- other alarms in the places of a board
abbrev in_places : PlainBank → PlainAnnunciator
in_places bank = record { bank = bank; places = 20000 }

placed : {b c : PlainBank} → b ≡ c → in_places b ≡ in_places c
placed h = ap in_places h

panel_after : (sys : System) (e : Event) → HasAlarms sys → IsTaken sys e → panel_after_entry (panel_of sys) (entry_of sys e) ≡ panel_of (after_event sys e)
panel_after sys (event.Scan image t) each h = placed (scan_after sys image t each (taken_when (globals_of sys.plant) sys.moment sys.events h.0 t t image h.1).in_range)
panel_after sys (event.Order console order) each h = placed (ordered_takes (bank_of sys) sys.plant sys.faulted sys.reloads console order).after
panel_after sys (event.Reload new) each h = panel_reloaded sys new

-- no event changes the consoles
same_consoles : (sys : System) (e : Event) → IsTaken sys e → counted_consoles (after_event sys e).plant.consoles ≡ counted_consoles sys.plant.consoles
same_consoles sys (event.Scan image t) h = refl
same_consoles sys (event.Order console order) h = refl
same_consoles sys (event.Reload new) h = (reload_found sys.plant sys.events new h.0).numbers

next_after : (sys : System) (e : Event) → HasAlarms sys → IsTaken sys e → after (picture_of sys) (entry_of sys e) ≡ picture_of (after_event sys e)
next_after sys e each h = λ i. record { panel = panel_after sys e each h i; consoles = sym (same_consoles sys e h) i }

-- the entry of an event may come after the history before it
pub next_may : (plant : PlainPlant) (history : List Event) (e : Event) (x : BoardEntry) → IsTaken (system plant history) e → HasAlarmsOf plant history → x ≡ entry_of (system plant history) e
    → allows (shown after (picture_of (opening_system plant)) (entries_of plant history)) x ≡ true
next_may plant history e x taken alarms is =
    ap (λ (p : Picture). allows p x) alarms ∙ (ap (λ (y : BoardEntry). allows (picture_of (system plant history)) y) is ∙ next_allowed (system plant history) e (alarms_there plant history) taken)

-- and after it the alarms are the system's
pub alarms_next : (plant : PlainPlant) (history : List Event) (e : Event) → IsTaken (system plant history) e → HasAlarmsOf plant history → HasAlarmsOf plant (history ++ e ∷ [])
alarms_next plant history e taken alarms =
    let sys = system plant history in
    let opening = picture_of (opening_system plant) in
    let es = entries_of plant history in
    let x = entry_of sys e in
    ap (λ (l : List BoardEntry). shown after opening l) (history_more plant history e)
    ∙ (shown_more after opening es x ∙ (ap (λ (p : Picture). after p x) alarms ∙ (next_after sys e (alarms_there plant history) taken ∙ ap picture_of (sym (system_next plant history e)))))

-- before the first event there is none
pub no_entries : (plant : PlainPlant) → entries_of plant [] ≡ []
unfolding entries_of
no_entries plant = refl

-- a writer that was made of a board before the first entry has the history without events
pub all_open : {E : Type 0} (r : Result BoardWriter E) (plant : PlainPlant) (first : Board) → first.opening.value ≡ picture_of (opening_system plant) → first.list ≡ []
    → IfOk r (λ w. (published w ≡ story_of first) × (laid w ≡ story_of first)) → IfOk r (HasHistory plant [])
all_open (Ok w) plant first picture none h =
    let opening = picture_of (opening_system plant) in record {
      laid_is = h.1 ∙ ((λ i. (picture i, none i)) ∙ ap (λ (l : List BoardEntry). (opening, l)) (sym (no_entries plant)));
      alarms = ap (λ (l : List BoardEntry). shown after opening l) (no_entries plant) ∙ ap picture_of (sym (system_none plant));
    }
all_open (Err e) plant first picture none h = tt
