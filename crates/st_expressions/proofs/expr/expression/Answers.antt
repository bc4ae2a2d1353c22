-- An expression is what climbing finds, without its depth.
use Rattle.std.proofs.Common.{ap, rules}
use Rattle.st_expressions.specs.Outcome.{Fails}
use Rattle.st_expressions.specs.Reading.{climb, tree_of, expression_at}
use Rattle.st_expressions.proofs.Steps.{fails_tree}
use Rattle.st_expressions.proofs.expr.expression.Goals as goal

pub returns-in_err-expr : goal.returns-in_err-expr
returns-in_err-expr c =
    let stopped : Fails c.in_err-expr.field-0.0 (expression_at c.args.reader.now) = unfold expression_at in fails_tree c.in_err-expr.field-0.0 (climb 128 0 c.args.reader.now) c.in_err-expr.ensures.read in
    search rules

pub returns : goal.returns
unfolding expression_at
returns c = ap tree_of c.in_ok-expr.ensures.read
