use Rattle.std.proofs.Common.{◌∙◌, ◌≡◌, ◌++◌, ap, sym, map, arith}
use Rattle.std.specs.Prelude.{flat_map}
use Rattle.std.proofs.lemmas.List.{drop_all, append-nil}
use Rattle.std.proofs.lemmas.Grind.{common_steps}
use Rattle.st_tree.specs.View.{view_stmt}
use Rattle.logic_source.specs.Units.{start_of, listed}
use Rattle.logic_source.proofs.Starts.{body_listed}
use Rattle.logic_source.proofs.units.starts_of.Goals as goal

pub returns : goal.returns
returns c =
    let l = c.loop-declared in
    let whole : map view_stmt l.starts.items ≡ flat_map start_of c.args.list.now =
    sym (append-nil (map view_stmt l.starts.items)) ∙ ap (λ ds. map view_stmt l.starts.items ++ flat_map start_of ds) (sym (drop_all l.declared-index c.args.list.now c.loop-declared-test.false)) ∙ l.invariant in
    body_listed l.starts.items ∙ ap listed whole

pub loop-declared-preserved : goal.loop-declared-preserved
loop-declared-preserved c = grind (arith, common_steps)
