use Rattle.std.proofs.Common.{◌≡◌, ℕ, List, ap, ◌∙◌}
use Rattle.alarm_machine.specs.Alarms.{PlainAlarm}
use Rattle.alarm_bank.specs.declared.event.BankEvent.{BankEvent}
use Rattle.alarm_bank.specs.Moves.{put_all}
use Rattle.engine.specs.States.{PlainPrepared}
use Rattle.engine.specs.Engines.{state_of}
use Rattle.console_boards.specs.declared.entry.BoardEntry.{BoardEntry}
use Rattle.console_boards.specs.declared.entry.BoardEntry.TheVariants as entry
use Rattle.console_boards.specs.Replies.{is_scan}
use Rattle.console_recorder.specs.Entries.{entry_of}
use Rattle.console_recorder.proofs.Laid.{scan_entry, laid_or_not}
use Rattle.console_recorder.proofs.Scans.{given_to}
use Rattle.console_recorder.proofs.laying.lay_scan.Goals as goal

pub returns-clause-laid : goal.returns-clause-laid
returns-clause-laid c =
    let e = c.args.engine.now in
    let p = c.args.prepared.now in
    let alarms = c.alarms.result.now in
    let told : ℕ → List (ℕ × PlainAlarm) → BoardEntry = λ t moved. entry.Scan (given_to t (put_all alarms moved)) in
    let made : entry.Scan c.in_ok-given.given ≡ entry_of (state_of e) p.event =
    ap (λ (x : BankEvent). entry.Scan x) c.in_ok-given.ensures
    ∙ (ap (told _) c.as_slice-moved.ensures.value
    ∙ (ap (λ s. told s.report.moment s.effect.moved) (c.scan.view_is ∙ c.deref-scan.ensures)
    ∙ (ap (λ (q : PlainPrepared). told q.report.moment q.effect.moved) c.prepared.view_is
    ∙ scan_entry e p alarms c.requires.fits c.leaves_alarms.ensures c.alarms.ensures))) in
    laid_or_not c.lay.result e.plant e.history p.event c.args.board.now c.lay.new.self (entry.Scan c.in_ok-given.given) c.requires.has c.requires.fits.taken made c.lay.ensures.laid

pub lay-requires : goal.lay-requires
lay-requires c = record { may_come = ap (λ (x : BankEvent). is_scan x) c.in_ok-given.ensures }
