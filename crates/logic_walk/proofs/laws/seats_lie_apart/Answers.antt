use Rattle.logic_walk.proofs.Apart.{member_kept}
use Rattle.logic_walk.proofs.laws.seats_lie_apart.Goals as goal

pub returns : goal.returns
returns c = member_kept
