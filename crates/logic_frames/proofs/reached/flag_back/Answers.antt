use Rattle.std.proofs.Common.{◌≡◌, ◌∙◌, ◌+◌, ◌-◌, ◌<◌, ap, take, map, length, get_or, arith}
use Rattle.std.proofs.lemmas.Option.{slice_get-get_or}
use Rattle.std.proofs.lemmas.Grind.{common_steps}
use Rattle.logic_source.specs.Source.{view_routine}
use Rattle.logic_frames.specs.Reached as reached
use Rattle.logic_frames.proofs.Flags.{back_flagged}
use Rattle.logic_frames.proofs.reached.flag_back.Goals as goal

pub loop-left-preserved : goal.loop-left-preserved
loop-left-preserved c =
    let l = c.loop-left in
    let order = c.args.order.now in
    let blocks = map view_routine c.args.blocks.now in
    let k = l.left - 1 in
    let more = c.loop-left-test.true in
    let within = l.invariant.within in
    let less : k < length order = omega (arith, more, within) in
    let whole : k + 1 ≡ l.left = omega (arith, more) in
    record {
      within = omega (arith, within);
      same = back_flagged c.args.calls blocks order k (get_or order k 0) l.flags.items c.flag_onward.new.flags.items _ less (slice_get-get_or order k 0 less) (ap (λ m. reached.flag_back c.args.calls blocks (take m order) l.flags.items) whole ∙ l.invariant.same) c.in_ok-flag_onward.ensures;
    }

pub loop-left-init : goal.loop-left-init
loop-left-init c = grind (arith, common_steps)
