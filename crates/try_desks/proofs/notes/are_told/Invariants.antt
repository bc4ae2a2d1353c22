use Rattle.std.proofs.Common.{◌≡◌, ◌≤◌, take, map, length}
use Rattle.try_desks.specs.Shifts.{tellings, told}
use Rattle.try_desks.proofs.notes.are_told.Given as goal

abbrev pub invariant-loop-number : goal.invariant-loop-number
invariant-loop-number l = (tellings l.fn.console (take l.number l.log.rows) ≡ take l.before (map told l.notes)) × (l.before ≤ length l.notes)
