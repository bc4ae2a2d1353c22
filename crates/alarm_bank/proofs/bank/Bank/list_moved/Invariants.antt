use Rattle.alarm_bank.specs.Moves.{AreMovesBefore}
use Rattle.alarm_bank.proofs.bank.Bank.list_moved.Given as goal

abbrev pub invariant-loop-at : goal.invariant-loop-at
invariant-loop-at g l = AreMovesBefore l.at (g.S.Signals.conditions l.signals) (g.S.Signals.suppressions l.signals) l.moment l.self.alarms l.moves
