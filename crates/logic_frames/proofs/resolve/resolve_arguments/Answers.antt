use Rattle.std.proofs.Common.{◌∙◌, ap, map}
use Rattle.std.proofs.lemmas.List.{take_all}
use Rattle.st_tree.specs.Kinds.{resolved_argument}
use Rattle.st_tree.specs.Mapping.{mapped_argument}
use Rattle.st_tree.specs.View.{view_argument}
use Rattle.logic_frames.specs.Scoped.{mapping_of, scope_kinds, flat_argument}
use Rattle.logic_frames.proofs.Joined.{fused}
use Rattle.logic_frames.proofs.resolve.resolve_arguments.Goals as goal

pub returns : goal.returns
returns c =
    let scope = c.args.scope.now in
    let instance = c.args.instance.now in
    c.loop-argument.invariant ∙ ap (λ l. map (flat_argument scope instance) (map view_argument l)) (take_all c.loop-argument.argument-index c.args.arguments.now c.loop-argument-test.false)
    ∙ fused (mapped_argument (mapping_of scope) instance) (resolved_argument (scope_kinds scope)) (map view_argument c.args.arguments.now)
