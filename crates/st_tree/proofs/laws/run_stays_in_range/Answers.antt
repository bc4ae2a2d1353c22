use Rattle.std.proofs.Common.{◌≡◌, true}
use Rattle.st_tree.proofs.RunLaws.{run_all_keeps}
use Rattle.st_tree.proofs.laws.run_stays_in_range.Goals as goal

pub returns : goal.returns
returns g c context space holds inv body fits controls w = run_all_keeps context space (λ u. holds u ≡ true) inv body w fits controls
