-- Frames whose constants are folded.
use Rattle.std.specs.Prelude.{◌≡◌, List, map}
use Rattle.logic_walk.specs.declared.frame.Frame.{Frame}
use Rattle.logic_walk.specs.Plain.{PlainFrame, view_frame}
use Rattle.const_fold.specs.Folding.{folded_body}

-- a frame with the constants of its body folded, and all else as it is
abbrev pub folded_frame : PlainFrame → PlainFrame
folded_frame frame = record { seats = frame.seats; starts = frame.starts; body = folded_body frame.body; has_starts = frame.has_starts; clocks = frame.clocks }

-- frames are others, in the same order, with the constants of their bodies folded
abbrev pub AreFolded : (frames folded : List Frame) → Type 0
AreFolded frames folded = map view_frame folded ≡ map (λ (frame : Frame). folded_frame (view_frame frame)) frames
