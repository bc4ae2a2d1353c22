use Rattle.std.proofs.Common.{◌≡◌, drop}
use Rattle.engine_system.specs.Reloads.{numbers_of, same_numbers}
use Rattle.engine_system.proofs.reloads.same_numbers.Given as goal

abbrev pub invariant-loop-at : goal.invariant-loop-at
invariant-loop-at l = same_numbers (numbers_of l.old) (numbers_of l.new) ≡ same_numbers (numbers_of (drop l.at l.old)) (numbers_of (drop l.at l.new))
