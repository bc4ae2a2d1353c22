use Rattle.std.proofs.Common.{◌≤◌, length}
use Rattle.logic_carry.specs.Keeping.{AreCarried}
use Rattle.logic_carry.proofs.copies.carried_clocks.Given as goal

-- those so far have what was carried to them
abbrev pub invariant-loop-number : goal.invariant-loop-number
invariant-loop-number l = record { so_far : AreCarried l.before l.here l.kept l.number l.after.items; within : l.number ≤ length l.here }
