use Rattle.std.proofs.Common.{length, arith, ap}
use Rattle.std.proofs.lemmas.Grind.{common_steps}
use Rattle.alarm_bank.proofs.BankLaws.{counted_cells, counted_length}
use Rattle.alarm_bank.proofs.bank.summary_of.Goals as goal

pub new-requires-clause-kept : goal.new-requires-clause-kept
new-requires-clause-kept c = rw c.in_ok-rows.ensures (counted_cells c.args.areas c.args.sites.now c.args.alarms.now c.requires.sites)

pub new-requires-clause-few : goal.new-requires-clause-few
new-requires-clause-few c = omega (arith, ap length c.in_ok-rows.ensures, counted_length c.args.sites.now c.args.alarms.now c.requires.each, c.requires.few)

pub returns : goal.returns
returns c = grind (arith, common_steps)
