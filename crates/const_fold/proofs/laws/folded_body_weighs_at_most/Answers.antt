use Rattle.std.proofs.Common.{◌+◌, refl}
use Rattle.const_fold.proofs.WeightLaws.{body_less, sums_grow}
use Rattle.const_fold.proofs.laws.folded_body_weighs_at_most.Goals as goal

pub returns : goal.returns
returns g c = λ called body. body_less (λ a b. a + b) sums_grow (λ from to by. 1) (λ from to by. refl) called body
