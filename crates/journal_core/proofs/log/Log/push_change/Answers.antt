use Rattle.std.proofs.Common.{ap, ◌∙◌, ◌-◌}
use Rattle.journal_core.specs.Rows.{after_entry, change_entry}
use Rattle.journal_core.specs.Kept.{rows_in}
use Rattle.journal_core.proofs.KeptLaws.{change_seen, change_kept, log_of}
use Rattle.journal_core.proofs.log.Log.push_change.Goals as goal

pub invariant_of-self : goal.invariant_of-self
invariant_of-self c =
    let some = rw (← c.self.view_is) at c.requires.room in
    let late = rw (← c.self.view_is) at c.requires.in_order in
    rw (c.push_reserved.ensures.items, c.push_reserved.ensures.capacity)
    (change_kept c.self.inside.rows.items c.self.inside.apart.items c.self.inside.room _ _ c.args.moment c.args.alarm c.in-Some.word c.args.change c.in-Some.ensures.row c.self.invariant some late)

pub returns-in-Some : goal.returns-in-Some
returns-in-Some c =
    let apart = c.self.inside.apart.items in
    let left = c.self.inside.room - 1 in
    ap (λ words. log_of (rows_in apart words) left) c.push_reserved.ensures.items
    ∙ ap (λ rows. log_of rows left) (change_seen apart c.self.inside.rows.items c.args.moment c.args.alarm c.in-Some.word c.args.change c.in-Some.ensures.row)
    ∙ ap (λ l. after_entry c.args.moment l (change_entry (c.args.alarm, c.args.change))) c.self.view_is
