use Rattle.std.proofs.Common.{◌≡◌, ◌+◌, ◌-◌, ◌*◌, ◌≤◌}
use Rattle.st_tree.specs.View.{view_expr}
use Rattle.st_expressions.specs.Reading.{climb, chain}
use Rattle.st_expressions.proofs.expr.+expr.Given as goal

abbrev pub decreases-climb : goal.decreases-climb
decreases-climb l = 4 * l.limit

abbrev pub decreases-operand : goal.decreases-operand
decreases-operand l = 4 * l.deeper + 3

abbrev pub decreases-reference : goal.decreases-reference
decreases-reference l = 4 * l.deeper + 2

abbrev pub decreases-indexed : goal.decreases-indexed
decreases-indexed l = 4 * l.deeper + 1

abbrev pub decreases-minus : goal.decreases-minus
decreases-minus l = 4 * l.deeper + 2

abbrev pub decreases-prefixed : goal.decreases-prefixed
decreases-prefixed l = 4 * l.deeper + 1

abbrev pub decreases-chain : goal.decreases-chain
decreases-chain l = 4 * (l.limit - 1) + 2

abbrev pub invariant-chain-loop-turn : goal.invariant-chain-loop-turn
invariant-chain-loop-turn l =
    let inner = climb (l.limit - 1) in
    record {
      same : chain inner (l.limit - 1) l.level_wanted (l.limit - l._turn) (view_expr l.left) l.depth l.reader ≡ chain inner (l.limit - 1) l.level_wanted l.limit (view_expr l.fn.first) l.first_depth l.initial.reader;
      deep : l.depth ≤ l.limit;
    }
