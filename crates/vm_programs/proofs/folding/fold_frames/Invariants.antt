use Rattle.vm_programs.specs.Folded.{AreFolded}
use Rattle.vm_programs.proofs.folding.fold_frames.Given as goal

abbrev pub invariant-loop-frame : goal.invariant-loop-frame
invariant-loop-frame l = AreFolded l.yielded l.folded.items
