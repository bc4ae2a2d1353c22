use Rattle.std.proofs.Common.{arith}
use Rattle.std.proofs.lemmas.Grind.{common_steps}
use Rattle.engine.proofs.Journals.{last_pushed}
use Rattle.engine.proofs.journal.push_order.Goals as goal

pub push-requires-in-Some-clause-in_order : goal.push-requires-in-Some-clause-in_order
push-requires-in-Some-clause-in_order c = last_pushed _ c.args.log.now c.push.new.self _ c.push.ensures

pub push-requires-in-Some-clause-room : goal.push-requires-in-Some-clause-room
push-requires-in-Some-clause-room c = grind (arith, common_steps)
