use Rattle.std.proofs.Common.{◌≡◌, length, slice_index, arith, sym, subst, ◌∙◌}
use Rattle.std.proofs.lemmas.List.{get_or_read}
use Rattle.alarm_watch.specs.Chains.{IsLonger, AreChains}
use Rattle.alarm_watch.proofs.Ranged.{ranged_next, ranged_all}
use Rattle.alarm_watch.proofs.chains.ranges_of.Goals as goal

pub loop-at-preserved : goal.loop-at-preserved
loop-at-preserved c =
    let first = c.args.chains.now.first.items in
    let next = c.args.chains.now.next.items in
    let value : c.as_slice.result.now ≡ next = c.as_slice.ensures.value in
    let within = c.loop-at-test.true in
    let many = c.len-at-end.ensures ∙ c.args.chains.now.first.ok.0 in
    let top : c.index.result.now ≡ slice_index first c.loop-at.at = get_or_read first c.loop-at.at c.index.result.now (omega (arith, within, many)) c.index.ensures 0 in
    let long : c.in_ok-place_of.field-0 ≡ length c.push_chain.new.alarms.items = c.in_ok-place_of.ensures ∙ c.len.ensures ∙ c.push_chain.new.alarms.ok.0 in
    rw c.in_ok-push-2.ensures.items (ranged_next first next c.loop-at.at c.loop-at.starts.items c.loop-at.alarms.items c.push_chain.new.alarms.items c.in_ok-place_of.field-0 long
    (subst (λ l. IsLonger (length l) c.loop-at.alarms.items c.push_chain.new.alarms.items) value c.in_ok-push_chain.ensures.front)
    (λ keys heads g n a is has. c.in_ok-push_chain.ensures.stand keys heads g n (subst (AreChains keys heads) (sym value) a) (top ∙ is) has) c.loop-at.invariant)

pub returns-clause-stand : goal.returns-clause-stand
returns-clause-stand c =
    let done = c.loop-at-test.false in
    let many = c.len-at-end.ensures ∙ c.args.chains.now.first.ok.0 in
    ranged_all c.args.chains.now.first.items c.args.chains.now.next.items c.loop-at.starts.items c.loop-at.alarms.items c.loop-at.at (omega (arith, done, many)) c.loop-at.invariant
