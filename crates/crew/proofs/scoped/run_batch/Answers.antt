use Rattle.std.proofs.Common.{◌≡◌, length, arith}
use Rattle.crew.proofs.Same.{same_maps}
use Rattle.crew.proofs.scoped.run_batch.Goals as goal

pub returns : goal.returns
returns g c =
    let size : length c.in_ok-runs.runs.items ≡ length c.args.batch.items = omega (arith, c.in_ok-runs.ensures.len, c.in_ok-runs.runs.ok.0, c.args.batch.ok.0) in
    same_maps g.J.Work.ended_from g.J.Work.start_of c.in_ok-runs.runs.items c.args.batch.items size (λ i job ended lt. c.in_ok-runs.ensures.each i job ended (omega (arith, c.args.batch.ok.0, lt)))
