use Rattle.st_tree.proofs.RenamingLaws.{renamed_runs}
use Rattle.st_tree.proofs.laws.renamed_body_does_same.Goals as goal

pub returns : goal.returns
returns g c = renamed_runs
