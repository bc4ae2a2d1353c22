use Rattle.std.proofs.Common.{max}
use Rattle.const_fold.proofs.WeightLaws.{body_less, greatest_grows, turns_stay}
use Rattle.const_fold.proofs.laws.folded_body_costs_at_most.Goals as goal

pub returns : goal.returns
returns g c = λ turns goes called body. body_less max greatest_grows turns (turns_stay turns goes) called body
