use Rattle.std.proofs.Common.{◌<◌, ◌≤◌, length, arith, ap, refl}
use Rattle.alarm_bank.specs.Banks.{PlainBank}
use Rattle.alarm_bank.proofs.MoveLaws.{moves_first, move_more, moves_listed}
use Rattle.alarm_bank.proofs.bank.Bank.list_moved.Goals as goal

pub loop-at-init : goal.loop-at-init
loop-at-init g c = record { moved = rw c.clear.ensures.items (moves_first _ _ _ _); changes = rw (c.clear.ensures.items, c.clear-2.ensures.items) refl }

pub loop-at-preserved : goal.loop-at-preserved
loop-at-preserved g c =
    let within : c.loop-at.at < length c.args.self.now.alarms = omega (arith, ap (λ (b : PlainBank). length b.alarms) c.self.view_is) in
    let more = move_more c.loop-at.at _ _ _ _ _ _ _ _ within c.requires.conditions c.requires.suppressions c.in_ok-list_move.ensures c.loop-at.invariant.moved c.loop-at.invariant.changes in
    record { moved = more.moves; changes = more.changes }

pub returns : goal.returns
returns g c =
    let end : length c.args.self.now.alarms ≤ c.loop-at.at = omega (arith, ap (λ (b : PlainBank). length b.alarms) c.self.view_is) in
    moves_listed c.loop-at.at _ _ _ _ _ _ end c.loop-at.invariant.moved c.loop-at.invariant.changes
