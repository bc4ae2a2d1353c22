use Rattle.std.proofs.Common.{arith}
use Rattle.std.proofs.lemmas.Grind.{common_steps}
use Rattle.alarm_bank.proofs.annunciator.Annunciator.advance.Goals as goal

pub scan-requires-clause-conds : goal.scan-requires-clause-conds
scan-requires-clause-conds c = grind (arith, common_steps)

pub scan-requires-clause-sups : goal.scan-requires-clause-sups
scan-requires-clause-sups c = grind (arith, common_steps)
