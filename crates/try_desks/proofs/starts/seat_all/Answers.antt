use Rattle.try_desks.proofs.Seats.{of_fewer, of_last}
use Rattle.try_desks.proofs.starts.seat_all.Goals as goal

pub loop-console-preserved : goal.loop-console-preserved
loop-console-preserved g c = λ lanes whole.
    let h = c.loop-console.invariant lanes whole in
    let all = c.loop-console.consoles.items in let rest = c.pop.new.self.items in let console = c.in-Some.console in let is = c.in-Some.ensures.items in
    (of_fewer lanes all rest console is h.0, c.seat_one.ensures lanes (of_last lanes all rest console is h.0) h.1)
