use Rattle.std.proofs.Common.{◌≡◌, ◌+◌, ◌≤◌, ◌-◌, ℕ, inl, inr, arith, ap, ◌∙◌, slice_index, true, length-set}
use Rattle.alarm_bank.proofs.MarkLaws.{others_stay, unmarked_set}
use Rattle.alarm_bank.proofs.Under.{under_least, under_leaf, under_cases}
use Rattle.alarm_bank.proofs.shelf.+mark_below.Goals as goal

pub returns-then-tree-node-clause-marked : goal.returns-then-tree-node-clause-marked
returns-then-tree-node-clause-marked t c = λ k n h u low unmarked.
    let r = under_least c.args.tree.now c.args.count k c.args.node (c.args.count + n) c.requires.tree c.requires.node.0 (omega (arith, h)) u in
    omega (arith, r, low, c.if-tree-node.true)

pub returns-then-node-count-clause-kept : goal.returns-then-node-count-clause-kept
returns-then-node-count-clause-kept t c = λ n unmarked. (unmarked_set c.args.marks.now (c.args.node - c.args.count) n (rw c.set.ensures at unmarked)).1

pub returns-then-node-count-clause-marked : goal.returns-then-node-count-clause-marked
returns-then-node-count-clause-marked t c = λ k n h u low unmarked.
    let same = under_leaf c.args.count k c.args.node (c.args.count + n) (omega (arith, c.if-node-count.true)) (omega (arith, h)) u in
    (unmarked_set c.args.marks.now (c.args.node - c.args.count) n (rw c.set.ensures at unmarked)).0 (omega (arith, same))

pub returns-then-node-count-clause-size : goal.returns-then-node-count-clause-size
returns-then-node-count-clause-size t c = rw c.set.ensures (length-set c.args.marks.now (c.args.node - c.args.count) true)

pub returns-clause-marked : goal.returns-clause-marked
returns-clause-marked t c = λ k n h u low unmarked. elim (under_cases k c.args.node (c.args.count + n) u) [
  | inl same ↦ omega (arith, same, h, c.if-node-count.false)
  | inr below ↦ elim below.1 [
    | inl l ↦ c.mark_below.ensures.marked below.0 n h l low (c.mark_below-2.ensures.kept n unmarked)
    | inr r ↦ c.mark_below-2.ensures.marked below.0 n h r low unmarked
  ]
]

pub returns-then-node-count-clause-others : goal.returns-then-node-count-clause-others
returns-then-node-count-clause-others t c = λ n h high. rw c.set.ensures (others_stay c.args.marks.now (c.args.node - c.args.count) n (λ same.
    let here = ap (slice_index c.args.tree.now) (at_place c.args.node c.args.count n (omega (arith, c.if-node-count.true)) same) in
    omega (arith, here, high, c.if-tree-node.false)))
  where
    at_place : (node count n : ℕ) → count ≤ node → n ≡ node - count → count + n ≡ node
    at_place node count n h e = omega (arith, h, e)

pub returns-clause-others : goal.returns-clause-others
returns-clause-others t c = λ n h high. c.mark_below-2.ensures.others n h high ∙ c.mark_below.ensures.others n h high
