use Rattle.std.proofs.Common.{sym, subst}
use Rattle.st_tree.specs.View.{view_body}
use Rattle.st_tree.specs.Meaning.{run_all}
use Rattle.st_tree.specs.Alike.{Same}
use Rattle.st_tree.proofs.KindValueLaws.{kept_body}
use Rattle.st_tree.proofs.pass.map_body.Goals as goal

pub returns-clause-same : goal.returns-clause-same
returns-clause-same g c =
    let p = g.P.Pass in
    let q = c.args.pass.now in
    let body = view_body c.args.body.now in
    λ case is. subst (λ x. Same (p.matches q case) (run_all (p.from q case) body) (run_all (p.to q case) x)) (sym c.in_ok-mapped.ensures) (kept_body (p.context q case) (p.known q) (p.mapping q) (p.from q case) (p.to q case) (p.matches q case) (c.laws.ensures case) body is)
