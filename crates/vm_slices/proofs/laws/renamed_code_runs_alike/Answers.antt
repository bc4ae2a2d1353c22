use Rattle.vm_slices.proofs.Runs.{renamed_runs}
use Rattle.vm_slices.proofs.laws.renamed_code_runs_alike.Goals as goal

pub returns : goal.returns
returns c = renamed_runs
