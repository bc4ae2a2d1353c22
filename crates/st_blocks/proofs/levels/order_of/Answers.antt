use Rattle.std.proofs.Common.{◌≡◌, ◌∙◌, sym, ap, false, ◌+◌, ◌++◌, List, Bool, map, get_or, arith, Vec, Global, ℕ}
use Rattle.std.specs.List.{list_any}
use Rattle.std.proofs.lemmas.Grind.{common_steps}
use Rattle.st_blocks.specs.Ranks.{ranked}
use Rattle.st_blocks.proofs.LevelSteps.{IsLevel, level_more, part_more, deep_at}
use Rattle.st_blocks.proofs.levels.order_of.Goals as goal

pub loop-step-preserved : goal.loop-step-preserved
loop-step-preserved c =
    let graph = c.args.graph.now in
    let chains = c.loop-step.chains.items in
    let more = c.in_ok-more.more.items in
    let more_is : more ≡ map (λ (row : Vec ℕ Global). list_any (λ w. get_or chains w false) row.items) graph =
    c.in_ok-more.ensures ∙ ap (λ (ms : List Bool). map (λ (row : Vec ℕ Global). list_any (λ w. get_or ms w false) row.items) graph) c.deref.ensures.value in
    let level : IsLevel graph (c.loop-step._step + 1) more = level_more graph c.loop-step._step chains more c.requires c.loop-step.invariant.0 more_is in
    let order_is : c.add_ranked.new.order.items ≡ c.loop-step.order.items ++ ranked 0 chains more =
    c.in_ok-add_ranked.ensures ∙ (λ i. c.loop-step.order.items ++ ranked 0 (c.deref-in-loop-step.ensures.value i) (c.deref-in-loop-step-2.ensures.value i)) in
    (level, part_more graph c.loop-step._step chains more c.loop-step.order.items c.add_ranked.new.order.items c.requires c.loop-step.invariant.0 level c.loop-step.invariant.1 order_is)

pub returns-then-has_mark : goal.returns-then-has_mark
returns-then-has_mark c =
    deep_at c.args.graph.now c.loop-step._step c.args.limit c.loop-step.chains.items c.loop-step.invariant.0 (omega (arith, c.loop-step-test.false, c.loop-step.auto._step-end)) (sym (ap (list_any (λ mark. mark)) c.deref-2.ensures.value) ∙ sym c.if-has_mark.ensures)

pub add_ranked-requires : goal.add_ranked-requires
add_ranked-requires c = grind (arith, common_steps)

pub loop-step-init : goal.loop-step-init
loop-step-init c = grind (arith, common_steps)
