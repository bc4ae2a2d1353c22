use Rattle.std.proofs.Common.{◌≡◌, arith}
use Rattle.st_sources.proofs.Spelled.{became, stops_at, found_more}
use Rattle.st_sources.proofs.reading.units.Goals as goal

pub returns-in-Err : goal.returns-in-Err
returns-in-Err c =
    let at = became (λ s. s.1.now) c.args.sources.now c.loop-source.source-index _ c.loop-source-test.true in
    let counted = c.len.ensures in
    let count = c.loop-source.invariant.count in
    let same : c.len.result ≡ c.loop-source.source-index = omega (arith, counted, count) in
    stops_at _ _ _ _ _ _ same c.loop-source.invariant.before at c.in-Err.ensures

pub loop-source-preserved : goal.loop-source-preserved
loop-source-preserved c =
    let at = became (λ s. s.1.now) c.args.sources.now c.loop-source.source-index _ c.loop-source-test.true in
    let longer = c.in_ok-push-in-Ok.ensures.len in
    let count = c.loop-source.invariant.count in
    record {
      count = omega (arith, longer, count);
      before = rw c.in_ok-push-in-Ok.ensures.items (found_more _ c.loop-source.source-index c.loop-source.units.items _ c.in-Ok.unit c.loop-source.invariant.before at c.in-Ok.ensures);
    }
