use Rattle.std.specs.Prelude.{pos, []}
use Rattle.acc_vm.specs.Codes.{fuel_of}
use Rattle.vm_slices.proofs.Runs.{renamed_runs}
use Rattle.vm_slices.proofs.laws.renamed_code_ends_alike.Goals as goal

pub returns : goal.returns
returns c = λ t names code f g values clocks cells small. renamed_runs t code.stack names code.instrs code.places f g (fuel_of code) 0 (pos 0) [] cells small
