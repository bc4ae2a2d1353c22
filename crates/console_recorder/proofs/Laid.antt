-- The entry that is laid by is that of the event that was made ready.
use Rattle.std.proofs.Common.{◌≡◌, true, List, [], ◌∷◌, ◌++◌, Result, Ok, Err, MatchResult, ap, sym, ◌∙◌}
use Rattle.alarm_machine.specs.Alarms.{PlainAlarm}
use Rattle.alarm_bank.specs.declared.event.BankEvent.{BankEvent}
use Rattle.alarm_bank.specs.Moves.{put_all}
use Rattle.engine.specs.Event.{Event}
use Rattle.engine.specs.Event.TheVariants as event
use Rattle.engine.specs.Plants.{PlainPlant}
use Rattle.engine.specs.Reply.{Reply}
use Rattle.engine.specs.States.{PlainPrepared, PlainPreparedOrder}
use Rattle.engine.specs.System.{system, opening_system, after_event, after_scan_event}
use Rattle.engine.proofs.Systems.{alarms_there}
use Rattle.engine.specs.Engines.{PlainEngine, state_of, Fits, FitsOrder, LeavesAlarms}
use Rattle.console_boards.specs.declared.entry.BoardEntry.{BoardEntry}
use Rattle.console_boards.specs.declared.entry.BoardEntry.TheVariants as entry
use Rattle.console_boards.specs.declared.picture.Picture.{Picture}
use Rattle.console_boards.specs.declared.writer.BoardWriter.{BoardWriter}
use Rattle.engine.specs.Lawful.{IsTaken}
use Rattle.console_boards.specs.Stories.{Story, shown}
use Rattle.console_boards.specs.Replies.{after, allows}
use Rattle.console_boards.specs.Readers.{laid}
use Rattle.console_recorder.specs.Entries.{board_reply, picture_of, entry_of, entries_of}
use Rattle.console_recorder.specs.Showing.{HasHistory}
use Rattle.console_recorder.proofs.Scans.{given_to, given_after}
use Rattle.console_recorder.proofs.Steps.{history_more, next_may, alarms_next}

pub scan_entry : (e : PlainEngine) (p : PlainPrepared) (alarms : List PlainAlarm) → Fits e p → LeavesAlarms e p → alarms ≡ (state_of e).alarms
    → entry.Scan (given_to p.report.moment (put_all alarms p.effect.moved)) ≡ entry_of (state_of e) p.event
scan_entry e p alarms fits leaves same =
    let sys = state_of e in
    let t = p.report.moment in
    let left : put_all alarms p.effect.moved ≡ (after_scan_event sys fits.image t).alarms =
    ap (λ (l : List PlainAlarm). put_all l p.effect.moved) same ∙ leaves ∙ ap (λ (x : Event). (after_event sys x).alarms) fits.event_is in
    ap (λ (l : List PlainAlarm). entry.Scan (given_to t l)) left
    ∙ ap (λ (b : BankEvent). entry.Scan b) (given_after sys fits.image t (alarms_there e.plant e.history))
    ∙ ap (λ (x : Event). entry_of sys x) (sym fits.event_is)

pub order_entry : (e : PlainEngine) (p : PlainPreparedOrder) → FitsOrder e p → entry.Order p.console (record { order = p.order; reply = board_reply p.reply }) ≡ entry_of (state_of e) (event.Order p.console p.order)
order_entry e p fits = ap (λ (r : Reply). entry.Order p.console (record { order = p.order; reply = board_reply r })) fits.reply_is

-- the entry of the next event may be laid by
pub may_come : (plant : PlainPlant) (history : List Event) (e : Event) (board : BoardWriter) (x : BoardEntry) → IsTaken (system plant history) e → HasHistory plant history board → x ≡ entry_of (system plant history) e
    → allows (shown after (laid board).0 (laid board).1) x ≡ true
may_come plant history e board x taken has is = ap (λ (s : Story Picture BoardEntry). allows (shown after s.0 s.1) x) has.laid_is ∙ next_may plant history e x taken has.alarms is

has_next : (plant : PlainPlant) (history : List Event) (e : Event) (old new : BoardWriter) (x : BoardEntry) → HasHistory plant history old → IsTaken (system plant history) e
    → x ≡ entry_of (system plant history) e → laid new ≡ ((laid old).0, (laid old).1 ++ x ∷ []) → HasHistory plant (history ++ e ∷ []) new
has_next plant history e old new x has taken is more =
    let opening = picture_of (opening_system plant) in record {
      laid_is = more ∙ (ap (λ (s : Story Picture BoardEntry). (s.0, s.1 ++ x ∷ [])) has.laid_is
          ∙ (ap (λ (y : BoardEntry). (opening, entries_of plant history ++ y ∷ [])) is ∙ ap (λ (l : List BoardEntry). (opening, l)) (sym (history_more plant history e))));
      alarms = alarms_next plant history e taken has.alarms;
    }

-- the entry of the next event was laid by, or nothing was
pub laid_or_not : {T F : Type 0} (r : Result T F) (plant : PlainPlant) (history : List Event) (e : Event) (old new : BoardWriter) (x : BoardEntry) → HasHistory plant history old → IsTaken (system plant history) e
    → x ≡ entry_of (system plant history) e → MatchResult r (λ _. laid new ≡ ((laid old).0, (laid old).1 ++ x ∷ [])) (λ _. laid new ≡ laid old)
    → MatchResult r (λ _. HasHistory plant (history ++ e ∷ []) new) (λ _. HasHistory plant history new)
laid_or_not (Ok t) plant history e old new x has taken is h = has_next plant history e old new x has taken is h
laid_or_not (Err f) plant history e old new x has taken is h = record { laid_is = h ∙ has.laid_is; alarms = has.alarms }
