use Rattle.std.proofs.Common.{◌<◌, List, refl, length, sym, subst, arith}
use Rattle.alarm_machine.specs.Alarms.{PlainAlarm}
use Rattle.alarm_bank.specs.Moves.{AreMovesOf}
use Rattle.alarm_bank.proofs.MoveLaws.{moves_first, move_more, moves_listed}
use Rattle.alarm_bank.proofs.bank.parallel.moves_of.Goals as goal

pub loop-at-init : goal.loop-at-init
loop-at-init c = record { moved = rw c.new-moves.ensures.moved (moves_first _ _ _ _); changes = rw (c.new-moves.ensures.moved, c.new-moves.ensures.changes) refl }

pub loop-at-preserved : goal.loop-at-preserved
loop-at-preserved c =
    let within : c.loop-at.at < length c.args.alarms.now = omega arith in
    let more = move_more c.loop-at.at _ _ _ _ _ _ _ _ within c.requires.conds c.requires.sups c.in_ok-add_move.ensures c.loop-at.invariant.moved c.loop-at.invariant.changes in
    record { moved = more.moves; changes = more.changes }

pub returns : goal.returns
returns c =
    subst (λ (new : List PlainAlarm). AreMovesOf c.args.alarms.now new c.loop-at.moves.moved.items c.loop-at.moves.changes.items) (sym c.requires.next)
    (moves_listed c.loop-at.at _ _ _ _ _ _ (omega arith) c.loop-at.invariant.moved c.loop-at.invariant.changes)
