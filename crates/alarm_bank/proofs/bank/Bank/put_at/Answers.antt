use Rattle.std.proofs.Common.{arith}
use Rattle.std.proofs.lemmas.Grind.{common_steps}
use Rattle.alarm_bank.proofs.bank.Bank.put_at.Goals as goal

pub returns-else-at-len : goal.returns-else-at-len
returns-else-at-len c = grind (arith, common_steps)
