use Rattle.std.proofs.Common.{length}
use Rattle.console_orders.proofs.answering.+take_parts.Given as goal

abbrev pub decreases-take_parts : goal.decreases-take_parts
decreases-take_parts g l = length l.lanes.now
