use Rattle.console_orders.proofs.Takes.{parts_ended}
use Rattle.console_orders.proofs.answering.+take_parts.Goals as goal

pub returns-then-part-clause-parts : goal.returns-then-part-clause-parts
returns-then-part-clause-parts g t c =
    parts_ended (g.T.Recording.plant_of c.args.recorder.now) c.args.lanes.now c.in-Some.lane.now c.take_part-part.new.lane c.in-Some.others.now (g.T.Recording.history_of c.args.recorder.now) (g.T.Recording.history_of c.take_part-part.new.recorder) c.take_part-part.result.taken
    c.take_part-part.result.stopped c.in-Some.ensures.cases.0 c.if-part.true c.take_part-part.ensures.part
