use Rattle.std.proofs.Common.{◌≡◌, take}
use Rattle.logic_walk.proofs.copy.copy_seats.Given as goal

abbrev pub invariant-loop-seat : goal.invariant-loop-seat
invariant-loop-seat l = l.copies.items ≡ take l.seat-index l.seats
