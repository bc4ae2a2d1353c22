use Rattle.std.proofs.Common.{ℕ, ◌+◌, ◌-◌, true, false, arith, sym, ◌∙◌, refl}
use Rattle.try_desks.specs.Shifts.{is_counted}
use Rattle.try_desks.proofs.Tellings.{counted_more}
use Rattle.journal_core.specs.declared.row.Row.{Row}
use Rattle.try_desks.proofs.counts.count.Goals as goal
use Rattle.try_desks.proofs.counts.count.Goals.{then-is_counted, else-is_counted}

pub loop-before-preserved : goal.loop-before-preserved
loop-before-preserved c =
    let rows = c.args.log.now.rows in let row = c.row.result in let i = c.loop-before.before in
    let counts = λ (r : Row). is_counted c.args.orders r.entry in let before = c.loop-before.invariant in
    elim c.if-is_counted.branch [
      | then-is_counted w ↦
          (counted_more counts rows i (i + 1 - 1) c.loop-before.counted c.if-is_counted.counted row true c.row.ensures (omega arith) (sym c.is_counted.ensures ∙ w.if-is_counted.true) before.0 w.counted-is, omega (arith, before.1, w.counted-is))
      | else-is_counted w ↦
          (counted_more counts rows i (i + 1 - 1) c.loop-before.counted c.if-is_counted.counted row false c.row.ensures (omega arith) (sym c.is_counted.ensures ∙ w.if-is_counted.false) before.0 w.counted-is, omega (arith, before.1, w.counted-is))
    ]
