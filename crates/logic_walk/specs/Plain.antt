-- Frames without where they are in memory.
use Rattle.std.specs.Prelude.{ℕ, Bool, List}
use Rattle.st_tree.specs.Plain.{PlainBody}
use Rattle.st_tree.specs.View.{view_body}
use Rattle.logic_walk.specs.declared.frame.Seat.{Seat}
use Rattle.logic_walk.specs.declared.frame.Frame.{Frame}

-- a frame's instances, the statements that assign its initial values, its body, and its marks
pub record PlainFrame : Type 0 where
  pub seats : List Seat
  pub starts : PlainBody ℕ
  pub body : PlainBody ℕ
  pub has_starts : Bool
  pub clocks : ℕ

-- the plain frame of a frame
abbrev pub view_frame : Frame → PlainFrame
view_frame frame = record { seats = frame.seats.items; starts = view_body frame.starts.items; body = view_body frame.body.items; has_starts = frame.has_starts; clocks = frame.clocks }
