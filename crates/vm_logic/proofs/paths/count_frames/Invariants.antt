use Rattle.vm_logic.specs.Bases.{ArePathsCounted}
use Rattle.vm_logic.proofs.paths.count_frames.Given as goal

abbrev pub invariant-loop-frame : goal.invariant-loop-frame
invariant-loop-frame l = ArePathsCounted l.frames l.frame-index l.counts.items
