use Rattle.std.proofs.Common.{◌≡◌, drop, ◌+◌, ◌*◌}
use Rattle.logic_walk.specs.Starts.{frame_begun, seats_begun}
use Rattle.logic_walk.proofs.starts.+start.Given as goal

-- what is left to assign from here gives what all gives from the start
abbrev pub invariant-start_seats-loop-seat : goal.invariant-start_seats-loop-seat
invariant-start_seats-loop-seat l =
    seats_begun (frame_begun l.globals l.frames l.limit) (drop l.seat-index l.seats) l.base l.cells ≡ seats_begun (frame_begun l.globals l.frames l.limit) l.seats l.base l.initial.cells

-- a frame has instances of those before it alone
abbrev pub decreases-start_within : goal.decreases-start_within
decreases-start_within l = 2 * l.limit

abbrev pub decreases-start_seats : goal.decreases-start_seats
decreases-start_seats l = 2 * l.limit + 1
