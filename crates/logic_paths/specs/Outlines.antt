-- The instances of frames, without their statements.
use Rattle.std.specs.Prelude.{◌≡◌, List, map}
use Rattle.logic_walk.specs.declared.frame.Seat.{Seat}
use Rattle.logic_walk.specs.declared.frame.Frame.{Frame}
use Rattle.logic_paths.specs.declared.outlines.Outline.{Outline}

-- the instances of a frame, in order
abbrev pub seats_of : Frame → List Seat
seats_of frame = frame.seats.items

-- the instances that an outline has
abbrev pub seats_in : Outline → List Seat
seats_in outline = outline.seats.items

-- each outline has the instances of its frame
abbrev pub AreOutlines : List Frame → List Outline → Type 0
AreOutlines frames outlines = map seats_in outlines ≡ map seats_of frames
