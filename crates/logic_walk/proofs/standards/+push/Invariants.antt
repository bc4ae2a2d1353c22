use Rattle.std.proofs.Common.{◌≡◌, drop, ◌+◌, ◌*◌, ◌++◌}
use Rattle.logic_walk.specs.Standards.{seats_standards, frame_standards}
use Rattle.logic_walk.proofs.standards.+push.Given as goal

-- what is left to list from here ends as all that is listed from the start
abbrev pub invariant-push_seats-loop-seat : goal.invariant-push_seats-loop-seat
invariant-push_seats-loop-seat l =
    l.standards.items ++ seats_standards (frame_standards l.frames l.limit) (drop l.seat-index l.seats) ≡ l.initial.standards.items ++ seats_standards (frame_standards l.frames l.limit) l.seats

-- a frame has instances of those before it alone
abbrev pub decreases-push_within : goal.decreases-push_within
decreases-push_within l = 2 * l.limit

abbrev pub decreases-push_seats : goal.decreases-push_seats
decreases-push_seats l = 2 * l.limit + 1
