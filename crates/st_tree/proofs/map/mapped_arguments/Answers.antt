use Rattle.std.proofs.Common.{◌∙◌, ap, map}
use Rattle.std.proofs.lemmas.List.{take_all}
use Rattle.st_tree.specs.View.{view_argument}
use Rattle.st_tree.proofs.Mapped.{argument_of, arguments_whole}
use Rattle.st_tree.proofs.Views.{one_more}
use Rattle.st_tree.proofs.map.mapped_arguments.Goals as goal

pub returns : goal.returns
returns g c =
    let m = g.P.Pass.mapping c.args.pass.now in
    let all = take_all c.loop-argument.argument-index c.args.arguments.now c.loop-argument-test.false in
    c.loop-argument.invariant ∙ ap (map (argument_of m c.args.instance.now)) all ∙ arguments_whole m c.args.instance.now c.args.arguments.now

pub loop-argument-preserved : goal.loop-argument-preserved
loop-argument-preserved g c =
    one_more (argument_of (g.P.Pass.mapping c.args.pass.now) c.args.instance.now) view_argument _ _ _ _ _ _ c.loop-argument-test.true c.argument-item.is c.in_ok-push.ensures.items c.loop-argument.invariant c.in_ok-mapped_argument.ensures
