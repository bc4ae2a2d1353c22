use Rattle.std.proofs.Common.{◌≡◌, IfOk, subst}
use Rattle.st_tree.specs.View.{view_expr}
use Rattle.st_tree.proofs.Mapped.{same_expr}
use Rattle.st_tree.proofs.copy.copy_expr.Goals as goal

pub returns : goal.returns
returns g c = subst (λ p. IfOk c.mapped_expr.result (λ e. view_expr e ≡ p)) (same_expr (view_expr c.args.expr.now)) c.mapped_expr.ensures
