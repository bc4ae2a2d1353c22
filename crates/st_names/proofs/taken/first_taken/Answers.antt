use Rattle.std.proofs.Common.{◌∙◌, map, arith}
use Rattle.std.proofs.lemmas.Grind.{common_steps}
use Rattle.plant_types.specs.Words.{folded}
use Rattle.st_parser.specs.Units.{view_unit}
use Rattle.st_names.specs.Scanned.{first_taken_after}
use Rattle.st_names.proofs.Scanned.{first_after}
use Rattle.st_names.proofs.taken.first_taken.Goals as goal

pub loop-i-init : goal.loop-i-init
loop-i-init c = (λ i. first_taken_after 0 (map folded (c.new-names.ensures i)) (map view_unit c.args.units.now)) ∙ first_after (map view_unit c.args.units.now)

pub returns : goal.returns
returns c = grind (arith, common_steps)
