use Rattle.std.proofs.Common.{arith}
use Rattle.std.proofs.lemmas.Grind.{common_steps}
use Rattle.console_link.proofs.lane.Lane.waiting.Goals as goal

pub returns-clause-some : goal.returns-clause-some
returns-clause-some c = grind (arith, common_steps)

pub returns-then-is_full-clause-looked : goal.returns-then-is_full-clause-looked
returns-then-is_full-clause-looked c = grind (arith, common_steps)

pub peek_known-requires : goal.peek_known-requires
peek_known-requires c = grind (arith, common_steps)

pub returns-then-is_full-clause-none : goal.returns-then-is_full-clause-none
returns-then-is_full-clause-none c = grind (arith, common_steps)
