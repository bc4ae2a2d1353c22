use Rattle.std.proofs.Common.{◌≡◌, take, map}
use Rattle.logic_paths.specs.Outlines.{seats_of, seats_in}
use Rattle.logic_paths.proofs.outlines.outlines_of.Given as goal

abbrev pub invariant-loop-frame : goal.invariant-loop-frame
invariant-loop-frame l = map seats_in l.outlines.items ≡ map seats_of (take l.frame-index l.frames)
