-- One operator more, with its right operand.
use Rattle.std.proofs.Common.{◌≡◌, ap, sym, ◌∙◌, arith, rules, ◌+◌, ◌-◌, max, drop, Some}
use Rattle.std.proofs.lemmas.Grind.{common_steps}
use Rattle.st_tree.specs.View.{view_expr}
use Rattle.st_expressions.specs.Grammar.{level_of}
use Rattle.st_expressions.specs.Reading.{climb, operator_at}
use Rattle.st_expressions.proofs.Chain.{goes}
use Rattle.st_expressions.proofs.expr.+expr.Goals as goal

pub chain-loop-turn-preserved : goal.chain-loop-turn-preserved
chain-loop-turn-preserved t c =
    let limit = c.args.limit in
    let op = c.in-Some.op in
    let ts = c.loop-turn.reader in
    let found = c.in-Ok.found in
    let right : climb (limit - 1) (level_of op + 1) (drop 1 ts) ≡ Some (view_expr found.0, found.1, c.climb.new.reader) =
    ap (λ n. climb (limit - 1) (n + 1) (drop 1 ts)) (sym c.level.ensures.found) ∙ ap (climb (limit - 1) (c.level.result + 1)) (sym c.advance.ensures) ∙ c.in-Ok.ensures.read in
    let operator : operator_at c.args.level_wanted ts ≡ Some op = sym c.in-Some.ensures in
    let most : c.max-depth.result ≡ max c.loop-turn.depth found.1 = search rules in
    let small = c.in-Ok.ensures.deep in
    record {
      same = rw (c.in_ok-left.ensures, most) (sym (goes (climb (limit - 1)) (limit - 1) c.args.level_wanted (limit - c.loop-turn._turn) (limit - (c.loop-turn._turn + 1)) (view_expr c.loop-turn.left) c.loop-turn.depth ts op (view_expr found.0, found.1, c.climb.new.reader) (omega arith) operator (omega arith) right) ∙ c.loop-turn.invariant.same);
      deep = omega arith;
    }

pub climb-returns-clause-read : goal.climb-returns-clause-read
climb-returns-clause-read t c = grind (arith, common_steps)

pub chain-returns-then-depth-limit-clause-read : goal.chain-returns-then-depth-limit-clause-read
chain-returns-then-depth-limit-clause-read t c = grind (arith, common_steps)

pub operand-returns-in_ok-word-in-Some-Word-clause-deep : goal.operand-returns-in_ok-word-in-Some-Word-clause-deep
operand-returns-in_ok-word-in-Some-Word-clause-deep t c = grind (arith, common_steps)

pub minus-returns-in_default-clause-read : goal.minus-returns-in_default-clause-read
minus-returns-in_default-clause-read t c = grind (arith, common_steps)

pub chain-returns-clause-read : goal.chain-returns-clause-read
chain-returns-clause-read t c = grind (arith, common_steps)

pub operand-returns-in_ok-inner-in-Some-Symbol-Open-2-clause-deep : goal.operand-returns-in_ok-inner-in-Some-Symbol-Open-2-clause-deep
operand-returns-in_ok-inner-in-Some-Symbol-Open-2-clause-deep t c = grind (arith, common_steps)

pub operand-overflow_add-result : goal.operand-overflow_add-result
operand-overflow_add-result t c = grind (arith, common_steps)

pub chain-overflow_add-depth : goal.chain-overflow_add-depth
chain-overflow_add-depth t c = grind (arith, common_steps)

pub minus-returns-then-n-gt-GREATEST_NEGATIVE-clause-read : goal.minus-returns-then-n-gt-GREATEST_NEGATIVE-clause-read
minus-returns-then-n-gt-GREATEST_NEGATIVE-clause-read t c = grind (arith, common_steps)
