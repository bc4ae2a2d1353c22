use Rattle.engine.specs.Engines.{state_of}
use Rattle.console_archive.proofs.Crews.{order_fault}
use Rattle.console_archive.proofs.book.order_in.Goals as goal

pub returns-clause-fault : goal.returns-clause-fault
returns-clause-fault c = order_fault (state_of c.args.engine.now) c.args.console c.args.order c.prepare_order.result c.prepare_order.ensures.err c.prepare_order.ensures.no_crew
