use Rattle.std.proofs.Common.{ap, sym, ◌∙◌}
use Rattle.st_tree.specs.Plain.{input, output}
use Rattle.st_tree.specs.View.{view_argument}
use Rattle.st_tree.specs.Mapping.{mapped_argument}
use Rattle.st_tree.proofs.map.mapped_argument.Goals as goal

pub returns-in_ok-mapped_expr-in-Input : goal.returns-in_ok-mapped_expr-in-Input
returns-in_ok-mapped_expr-in-Input g c =
    let m = g.P.Pass.mapping c.args.pass.now in
    (λ i. input (c.in_ok-name-in-Input.ensures i) (c.in_ok-mapped_expr-in-Input.ensures i)) ∙ ap (λ a. mapped_argument m c.args.instance.now (view_argument a)) (sym c.in-Input.is)

pub returns-in_ok-variable-in-Output : goal.returns-in_ok-variable-in-Output
returns-in_ok-variable-in-Output g c =
    let m = g.P.Pass.mapping c.args.pass.now in
    (λ i. output (c.in_ok-name-in-Output.ensures i) (c.in_ok-variable-in-Output.ensures i)) ∙ ap (λ a. mapped_argument m c.args.instance.now (view_argument a)) (sym c.in-Output.is)
