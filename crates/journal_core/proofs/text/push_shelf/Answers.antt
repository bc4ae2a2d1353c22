use Rattle.std.proofs.Common.{arith}
use Rattle.std.proofs.lemmas.Grind.{common_steps}
use Rattle.journal_core.proofs.text.push_shelf.Goals as goal

pub returns-in_ok-push_str-2 : goal.returns-in_ok-push_str-2
returns-in_ok-push_str-2 c = grind (arith, common_steps)
