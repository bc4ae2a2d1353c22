use Rattle.std.specs.Prelude.{◌≡◌, true}
use Rattle.st_tree.specs.Mapping.{identity, all_known}
use Rattle.st_tree.proofs.AnyValueLaws.{kept_lawful}
use Rattle.st_tree.proofs.RenamingLaws.{identity_lawful}
use Rattle.st_tree.proofs.copy.CopiesPass.laws.Goals as goal

pub returns : goal.returns
returns g c = λ case. kept_lawful all_known identity case.space case.space (λ a b. a ≡ b) (identity_lawful case.space) case.context (λ w. case.holds w ≡ true) case.kept
