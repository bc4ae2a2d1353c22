use Rattle.std.proofs.Common.{arith}
use Rattle.std.proofs.lemmas.Grind.{common_steps}
use Rattle.standing_crew.proofs.gathered.gathered_all.Goals as goal

pub none_lost-requires : goal.none_lost-requires
none_lost-requires g c = grind (arith, common_steps)
