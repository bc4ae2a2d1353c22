use Rattle.std.proofs.Common.{◌≡◌, Bool, false, replicate}
use Rattle.logic_carry.proofs.marks.no_marks.Given as goal

abbrev pub invariant-loop-number : goal.invariant-loop-number
invariant-loop-number l = l.marks.items ≡ replicate {A = Bool} l.number false
