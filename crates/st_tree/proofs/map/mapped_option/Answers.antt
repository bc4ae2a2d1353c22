use Rattle.std.proofs.Common.{ap, sym, ◌∙◌}
use Rattle.std.specs.Prelude.{Some}
use Rattle.st_tree.specs.View.{view_option}
use Rattle.st_tree.specs.Mapping.{mapped_option}
use Rattle.st_tree.proofs.map.mapped_option.Goals as goal

pub returns-in_ok-mapped_expr-in-Some : goal.returns-in_ok-mapped_expr-in-Some
returns-in_ok-mapped_expr-in-Some g c =
    let m = g.P.Pass.mapping c.args.pass.now in
    ap Some c.in_ok-mapped_expr-in-Some.ensures ∙ ap (λ e. mapped_option m (view_option e)) (sym c.in-Some.is)
