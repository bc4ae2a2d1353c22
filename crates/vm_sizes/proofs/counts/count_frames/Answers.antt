use Rattle.std.proofs.Common.{◌≡◌, sym, subst, arith, ◌<◌, length, rules, ◌++◌, ◌∷◌, []}
use Rattle.std.proofs.lemmas.Grind.{common_steps}
use Rattle.logic_walk.proofs.Ranks.{frame_at}
use Rattle.vm_sizes.specs.Counts.{lines_at, IsCountOf}
use Rattle.vm_sizes.specs.Sizes.{routine_lines}
use Rattle.vm_sizes.proofs.Tables.{first_pushed, first_none, few_within}
use Rattle.vm_sizes.proofs.counts.count_frames.Goals as goal

pub loop-frame-init : goal.loop-frame-init
loop-frame-init c = first_none c.args.frames.now c.in_ok-table.table.items c.in_ok-table.ensures.items

pub count_frame-count-requires : goal.count_frame-count-requires
count_frame-count-requires c =
    let inside : c.loop-frame.frame-index < length c.args.frames.now = omega arith in
    let there = frame_at c.args.frames.now c.loop-frame.frame-index c.frame-item.result inside c.frame-item.is in
    let few = few_within c.args.frames.now c.loop-frame.table.items c.frame-item.result c.loop-frame.frame-index inside there c.loop-frame.invariant c.requires in
    subst (λ t. routine_lines (lines_at t) c.frame-item.result < 4294967296) (sym c.deref.ensures.value) few

pub loop-frame-preserved : goal.loop-frame-preserved
loop-frame-preserved c =
    let inside : c.loop-frame.frame-index < length c.args.frames.now = omega arith in
    let there = frame_at c.args.frames.now c.loop-frame.frame-index c.frame-item.result inside c.frame-item.is in
    let counted : IsCountOf c.loop-frame.table.items c.frame-item.result c.count_frame-count.result = subst (λ t. IsCountOf t c.frame-item.result c.count_frame-count.result) c.deref.ensures.value c.count_frame-count.ensures in
    let pushed : c.push.new.self.items ≡ c.loop-frame.table.items ++ c.count_frame-count.result ∷ [] = search rules in
    first_pushed c.args.frames.now c.loop-frame.table.items c.push.new.self.items c.frame-item.result c.count_frame-count.result c.loop-frame.frame-index there c.loop-frame.invariant counted pushed

pub returns : goal.returns
returns c = grind (arith, common_steps)
