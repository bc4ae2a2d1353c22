use Rattle.alarm_bank.specs.Moves.{AreMovesBefore}
use Rattle.alarm_bank.proofs.bank.parallel.moves_of.Given as goal

abbrev pub invariant-loop-at : goal.invariant-loop-at
invariant-loop-at l = AreMovesBefore l.at l.given.conds.now l.given.sups.now l.given.moment l.alarms l.moves
