use Rattle.std.proofs.Common.{get_or, take, arith}
use Rattle.std.proofs.lemmas.List.{take_more}
use Rattle.level_runs.proofs.Globals.{globals_more, globals_past}
use Rattle.level_runs.proofs.planning.globals_among.Goals as goal
use Rattle.level_runs.proofs.planning.globals_among.Goals.{then-slot-globals+in_ok-push, else-slot-globals}

pub loop-slot-preserved : goal.loop-slot-preserved
loop-slot-preserved c =
    let slots = c.args.slots.now in
    let index = c.loop-slot.slot-index in
    let within = c.loop-slot-test.true in
    elim c.if-slot-globals.branch [
      | then-slot-globals+in_ok-push w ↦ rw (take_more slots index 0 within, w.extents-is, w.in_ok-push.ensures.items) (globals_more c.args.globals (take index slots) c.loop-slot.extents.items (get_or slots index 0) (omega (arith, w.if-slot-globals.true)) c.loop-slot.invariant)
      | else-slot-globals w ↦ rw (take_more slots index 0 within, w.extents-is) (globals_past c.args.globals (take index slots) c.loop-slot.extents.items (get_or slots index 0) (λ below. omega (arith, w.if-slot-globals.false, below)) c.loop-slot.invariant)
    ]
