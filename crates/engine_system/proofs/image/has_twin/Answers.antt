use Rattle.std.proofs.Common.{◌||◌, sym, ap, ◌∙◌, arith, rules}
use Rattle.std.specs.List.{list_any}
use Rattle.std.proofs.lemmas.Grind.{common_steps}
use Rattle.engine_system.specs.Image.{has_twin}
use Rattle.engine_system.proofs.Twins.{marked, none_marked, read_unset, twins_step}
use Rattle.engine_system.proofs.image.has_twin.Goals as goal

pub loop-input-init : goal.loop-input-init
loop-input-init c =
    let none = ap (λ flags. list_any (marked flags) c.args.inputs.now) (c.in_ok-seen.ensures.items_if_clones_equal (λ y same. same)) ∙ none_marked c.args.globals c.args.inputs.now in
    record { flags = search rules; twins = sym (ap (λ b. b || has_twin c.args.inputs.now) none) }

pub loop-input-preserved : goal.loop-input-preserved
loop-input-preserved c =
    let seen = c.loop-input.seen.items in
    record {
      flags = grind (arith, common_steps);
      twins = c.loop-input.invariant.twins ∙ twins_step c.args.globals seen c.args.inputs.now c.loop-input.input-index _ c.loop-input.invariant.flags c.requires c.loop-input-test.true (read_unset seen _ c.index.result.now c.index.ensures c.if-index.false);
    }

pub returns-then-index : goal.returns-then-index
returns-then-index c = grind (arith, common_steps)

pub returns : goal.returns
returns c = grind (arith, common_steps)
