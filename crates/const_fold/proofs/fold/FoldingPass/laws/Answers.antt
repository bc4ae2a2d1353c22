use Rattle.std.specs.Prelude.{◌≡◌, true}
use Rattle.st_tree.specs.Mapping.{all_known}
use Rattle.st_tree.proofs.AnyValueLaws.{kept_lawful}
use Rattle.const_fold.specs.Folding.{folding}
use Rattle.const_fold.proofs.OutcomeLaws.{folding_lawful}
use Rattle.const_fold.proofs.fold.FoldingPass.laws.Goals as goal

pub returns : goal.returns
returns g c = λ case. kept_lawful all_known folding case.space case.space (λ a b. a ≡ b) (folding_lawful case.space) case.context (λ w. case.holds w ≡ true) case.kept
