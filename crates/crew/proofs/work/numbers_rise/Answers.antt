use Rattle.std.proofs.Common.{◌≡◌, ◌≤◌, arith}
use Rattle.crew.proofs.Rising.{rise_next}
use Rattle.crew.proofs.work.numbers_rise.Goals as goal

pub loop-job-preserved : goal.loop-job-preserved
loop-job-preserved g c =
    let is : g.J.Work.number_of (g.J.Work.start_of c.job-item.result) ≡ c.from-number.result = cc in
    let up : c.loop-job.next ≤ c.from-number.result = omega (arith, c.if-number-next.false) in
    rise_next g.J.Work.number_of g.J.Work.start_of c.loop-job.next c.from-number.result c.args.jobs.now c.loop-job.job-index c.job-item.result c.loop-job.invariant is up c.loop-job-test.true c.job-item.is
