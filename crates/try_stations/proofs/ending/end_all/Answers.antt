use Rattle.try_stations.proofs.Seats.{without_last, last_ended}
use Rattle.try_stations.proofs.ending.end_all.Goals as goal

pub loop-console-preserved-in-Some-finish : goal.loop-console-preserved-in-Some-finish
loop-console-preserved-in-Some-finish c = λ lanes whole.
    let h = c.loop-console.invariant lanes whole in
    let rest = c.pop.new.self.items in (
      without_last lanes c.loop-console.consoles.items rest c.in-Some.console c.in-Some.ensures.items h.0,
      c.keep.ensures lanes h.1 (last_ended lanes c.loop-console.consoles.items rest c.in-Some.console c.in-Some-finish.end c.in-Some.ensures.items h.0 c.in-Some-finish.ensures.rings),
    )

pub loop-console-preserved : goal.loop-console-preserved
loop-console-preserved c = λ lanes whole.
    let h = c.loop-console.invariant lanes whole in
    (without_last lanes c.loop-console.consoles.items c.pop.new.self.items c.in-Some.console c.in-Some.ensures.items h.0, h.1)
