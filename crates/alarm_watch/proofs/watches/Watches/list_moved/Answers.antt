use Rattle.std.proofs.Common.{◌≡◌, ◌∙◌, inl, inr}
use Rattle.std.proofs.lemmas.Bool.{cases_Bool}
use Rattle.logic_cells.specs.Cells.{value_at}
use Rattle.alarm_watch.specs.Watched.{watched_conditions, watched_suppressions}
use Rattle.alarm_watch.proofs.WatchLaws.{none_unmarked, raw_stays, stays_raw}
use Rattle.alarm_watch.proofs.watches.Watches.list_moved.Goals as goal

pub list_moved-requires-clause-unmarked : goal.list_moved-requires-clause-unmarked
list_moved-requires-clause-unmarked c =
    let last = c.args.last.now in
    let watches : c.as_slice-watches.result.now ≡ c.args.self.now = c.as_slice-watches.ensures.value ∙ c.self.view_is in
    let now = value_at c.args.now.now in
    rw watches (elim (cases_Bool last.follows) [
      | inl follows ↦ stays_raw c.mark_all_unless.new.marks c.mark.new.marks (watched_conditions now c.args.self.now) (watched_suppressions now c.args.self.now) last.delays.now last.bank.now.alarms c.mark_all_unless.ensures.kept
          (raw_stays c.args.self.now last.delays.now last.bank.now.alarms (value_at last.cells.now) now c.mark.new.marks c.requires.each (c.requires.follow follows) c.mark.ensures.conditions c.mark.ensures.suppressions)
      | inr not_so ↦ none_unmarked c.mark_all_unless.new.marks (watched_conditions now c.args.self.now) (watched_suppressions now c.args.self.now) last.delays.now last.bank.now.alarms (c.mark_all_unless.ensures.all not_so)
    ])

pub list_plain-requires-clause-unmarked : goal.list_plain-requires-clause-unmarked
list_plain-requires-clause-unmarked c =
    let last = c.args.last.now in
    let watches : c.as_slice-watches.result.now ≡ c.args.self.now = c.as_slice-watches.ensures.value ∙ c.self.view_is in
    let now = value_at c.args.now.now in
    rw watches (elim (cases_Bool last.follows) [
      | inl follows ↦ stays_raw c.mark_all_unless.new.marks c.mark.new.marks (watched_conditions now c.args.self.now) (watched_suppressions now c.args.self.now) last.delays.now last.bank.now.alarms c.mark_all_unless.ensures.kept
          (raw_stays c.args.self.now last.delays.now last.bank.now.alarms (value_at last.cells.now) now c.mark.new.marks c.requires.each (c.requires.follow follows) c.mark.ensures.conditions c.mark.ensures.suppressions)
      | inr not_so ↦ none_unmarked c.mark_all_unless.new.marks (watched_conditions now c.args.self.now) (watched_suppressions now c.args.self.now) last.delays.now last.bank.now.alarms (c.mark_all_unless.ensures.all not_so)
    ])
