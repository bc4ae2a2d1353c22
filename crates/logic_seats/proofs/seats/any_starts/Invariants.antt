use Rattle.std.proofs.Common.{◌≡◌, drop}
use Rattle.logic_seats.specs.Seats.{any_starts}
use Rattle.logic_seats.proofs.seats.any_starts.Given as goal

abbrev pub invariant-loop-instance : goal.invariant-loop-instance
invariant-loop-instance l = any_starts l.table (drop l.instance-index l.list) ≡ any_starts l.table l.list
