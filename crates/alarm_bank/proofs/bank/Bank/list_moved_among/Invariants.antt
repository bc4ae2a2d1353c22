use Rattle.std.proofs.Common.{◌*◌, min, length}
use Rattle.alarm_bank.specs.Moves.{AreMovesBefore}
use Rattle.alarm_bank.proofs.bank.Bank.list_moved_among.Given as goal

-- the words before one are listed
abbrev pub invariant-loop-index : goal.invariant-loop-index
invariant-loop-index g l = AreMovesBefore (min (l.index * 64) (length l.self.alarms)) (g.S.Signals.conditions l.signals) (g.S.Signals.suppressions l.signals) l.moment l.self.alarms l.moves
