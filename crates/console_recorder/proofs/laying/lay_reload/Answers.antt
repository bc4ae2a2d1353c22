use Rattle.std.proofs.Common.{◌≡◌, List, ap, ◌∙◌}
use Rattle.alarm_bank.specs.declared.rows.NewAlarm.{NewAlarm}
use Rattle.engine.specs.Event.TheVariants as event
use Rattle.engine.specs.Plants.{PlainPlant}
use Rattle.engine.specs.Reloads.{news_of}
use Rattle.engine.specs.Engines.{state_of}
use Rattle.console_boards.specs.declared.entry.BoardEntry.TheVariants as entry
use Rattle.console_recorder.specs.Entries.{entry_of}
use Rattle.console_recorder.proofs.Laid.{may_come, laid_or_not}
use Rattle.console_recorder.proofs.laying.lay_reload.Goals as goal

pub lay-requires : goal.lay-requires
lay-requires c =
    let e = c.args.engine.now in
    let new = c.args.new.now in
    let made : entry.Reload c.from_vec.result ≡ entry_of (state_of e) (event.Reload new) =
    ap (λ (l : List NewAlarm). entry.Reload l) (c.from_vec.ensures ∙ c.in_ok-news.ensures ∙ ap (λ (x : PlainPlant). news_of x new) c.plant.ensures) in
    record { may_come = may_come e.plant e.history (event.Reload new) c.args.board.now (entry.Reload c.from_vec.result) c.requires.taken c.requires.has made }

pub returns-clause-laid : goal.returns-clause-laid
returns-clause-laid c =
    let e = c.args.engine.now in
    let new = c.args.new.now in
    let made : entry.Reload c.from_vec.result ≡ entry_of (state_of e) (event.Reload new) =
    ap (λ (l : List NewAlarm). entry.Reload l) (c.from_vec.ensures ∙ c.in_ok-news.ensures ∙ ap (λ (x : PlainPlant). news_of x new) c.plant.ensures) in
    laid_or_not c.lay.result e.plant e.history (event.Reload new) c.args.board.now c.lay.new.self (entry.Reload c.from_vec.result) c.requires.has c.requires.taken made c.lay.ensures.laid
