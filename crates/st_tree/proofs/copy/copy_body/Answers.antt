use Rattle.std.proofs.Common.{◌≡◌, IfOk, subst}
use Rattle.st_tree.specs.View.{view_body}
use Rattle.st_tree.proofs.Mapped.{same_body}
use Rattle.st_tree.proofs.copy.copy_body.Goals as goal

pub returns : goal.returns
returns g c = subst (λ p. IfOk c.mapped_body.result (λ copy. view_body copy.items ≡ p)) (same_body (view_body c.args.body.now)) c.mapped_body.ensures
