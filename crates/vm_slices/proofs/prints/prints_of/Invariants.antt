use Rattle.std.proofs.Common.{take}
use Rattle.vm_slices.specs.Prints.{ArePrintsOf}
use Rattle.vm_slices.proofs.prints.prints_of.Given as goal

abbrev pub invariant-loop-instr : goal.invariant-loop-instr
invariant-loop-instr l = ArePrintsOf (take l.instr-index l.instrs) l.fn.places l.prints
