use Rattle.std.proofs.Common.{List, All, subst}
use Rattle.station.specs.Lanes.{IsConsoleIn}
use Rattle.try_desks.specs.Seated.{Thread}
use Rattle.try_desks.proofs.Seats.{all_fewer, all_last, ends_in}
use Rattle.try_desks.proofs.endings.join_all.Goals as goal

pub loop-thread-preserved : goal.loop-thread-preserved
loop-thread-preserved g c = λ lanes whole.
    let h = c.loop-thread.invariant lanes whole in
    let rest = c.pop.new.self.items in let thread = c.in-Some.thread in
    let IsSeat = λ (t : Thread). IsConsoleIn lanes t.promise.0.value.link in
    let seated = subst (λ (ts : List Thread). All IsSeat ts) c.in-Some.ensures.items h.0 in
    (all_fewer IsSeat rest thread seated, c.keep.ensures lanes (ends_in lanes thread.promise.0.value c.join.result.finished (all_last IsSeat rest thread seated) c.join.ensures) h.1)
