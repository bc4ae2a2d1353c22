use Rattle.std.proofs.Common.{arith}
use Rattle.std.proofs.lemmas.Grind.{common_steps}
use Rattle.console_link.proofs.console.ConsoleRings.answer.Goals as goal

pub invariant_of-self-2 : goal.invariant_of-self-2
invariant_of-self-2 c = grind (arith, common_steps)

pub returns-clause-some : goal.returns-clause-some
returns-clause-some c = grind (arith, common_steps)

pub returns-in_err-answer-clause-none : goal.returns-in_err-answer-clause-none
returns-in_err-answer-clause-none c = grind (arith, common_steps)

pub returns-in_err-answer-clause-some : goal.returns-in_err-answer-clause-some
returns-in_err-answer-clause-some c = grind (arith, common_steps)

pub invariant_of-self : goal.invariant_of-self
invariant_of-self c = grind (arith, common_steps)
