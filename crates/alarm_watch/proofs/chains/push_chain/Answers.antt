use Rattle.std.proofs.Common.{◌-◌, arith}
use Rattle.alarm_watch.proofs.Ranged.{pushed_next}
use Rattle.alarm_watch.proofs.chains.push_chain.Goals as goal

pub loop-link-preserved : goal.loop-link-preserved
loop-link-preserved c =
    let some = c.loop-link-test.true in
    rw c.in_ok-push.ensures.items (pushed_next c.args.next.now c.args.from c.loop-link.link (c.loop-link.link - 1) c.args.alarms.now.items c.loop-link.alarms.items c.requires.down (omega (arith, some)) c.loop-link.invariant)
