use Rattle.vm_sizes.specs.Counts.{AreFirst}
use Rattle.vm_sizes.proofs.counts.count_frames.Given as goal

-- the first frames are counted
abbrev pub invariant-loop-frame : goal.invariant-loop-frame
invariant-loop-frame l = AreFirst l.frames l.frame-index l.table.items
