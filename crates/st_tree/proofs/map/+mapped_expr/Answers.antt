use Rattle.std.proofs.Common.{ap, sym, ◌∙◌}
use Rattle.st_tree.specs.Plain.{read, output_of}
use Rattle.st_tree.specs.View.{view_expr}
use Rattle.st_tree.specs.Mapping.{mapped_expr}
use Rattle.st_tree.proofs.Views.{view_expr-Literal, view_expr-Read, view_expr-Output}
use Rattle.st_tree.proofs.map.+mapped_expr.Goals as goal

pub returns-in-Literal : goal.returns-in-Literal
returns-in-Literal g t c = let m = g.P.Pass.mapping c.args.pass.now in view_expr-Literal _ ∙ ap (mapped_expr m) (sym (view_expr-Literal _) ∙ ap view_expr (sym c.in-Literal.is))

pub returns-in_ok-variable-in-Read : goal.returns-in_ok-variable-in-Read
returns-in_ok-variable-in-Read g t c =
    let m = g.P.Pass.mapping c.args.pass.now in
    view_expr-Read _ ∙ ap read c.in_ok-variable-in-Read.ensures ∙ ap (mapped_expr m) (sym (view_expr-Read _) ∙ ap view_expr (sym c.in-Read.is))

pub returns-in_ok-output_name-in-Output : goal.returns-in_ok-output_name-in-Output
returns-in_ok-output_name-in-Output g t c =
    let m = g.P.Pass.mapping c.args.pass.now in
    view_expr-Output _ _ ∙ (λ i. output_of (c.in_ok-own-in-Output.ensures i) (c.in_ok-output_name-in-Output.ensures i)) ∙ ap (mapped_expr m) (sym (view_expr-Output _ _) ∙ ap view_expr (sym c.in-Output.is))
