use Rattle.std.proofs.Common.{sym, subst}
use Rattle.st_tree.specs.View.{view_expr}
use Rattle.st_tree.specs.Alike.{SameOutcome}
use Rattle.st_tree.proofs.KindValueLaws.{kept_expr}
use Rattle.st_tree.proofs.pass.map_expr.Goals as goal

pub returns-clause-same : goal.returns-clause-same
returns-clause-same g c =
    let p = g.P.Pass in
    let q = c.args.pass.now in
    let expr = view_expr c.args.expr.now in
    λ case is. subst (λ x. SameOutcome (p.matches q case) (p.from q case) (p.to q case) expr x) (sym c.in_ok-mapped.ensures) (kept_expr (p.context q case) (p.known q) (p.mapping q) (p.from q case) (p.to q case) (p.matches q case) (c.laws.ensures case) expr is)
