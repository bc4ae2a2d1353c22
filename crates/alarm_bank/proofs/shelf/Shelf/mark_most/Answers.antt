use Rattle.std.proofs.Common.{◌≡◌, ◌+◌, ◌<◌, List, ℕ, length, slice_index, arith, ap, sym, ◌∙◌, length-drop}
use Rattle.std.proofs.lemmas.List.{get_or-drop}
use Rattle.alarm_bank.proofs.Under.{under_first}
use Rattle.alarm_bank.proofs.shelf.Shelf.mark_most.Goals as goal

pub returns-then-self-gt0-clause-marked : goal.returns-then-self-gt0-clause-marked
returns-then-self-gt0-clause-marked c = λ n h low unmarked.
    let tree = c.self.inside.tree.items in
    let count = c.self.inside.count in
    let long = ap (λ (xs : List ℕ). length xs) c.self.view_is in
    let within : n < count = omega (arith, long, h, length-drop count tree, c.self.invariant.size) in
    let value : slice_index c.args.self.now n ≡ slice_index tree (count + n) = ap (λ (xs : List ℕ). slice_index xs n) (sym c.self.view_is) ∙ get_or-drop count tree n 0 in
    let u = under_first (count + n) (count + n) (omega arith) (omega (arith, c.if-self-gt0.true)) in
    c.mark_below.ensures.marked u.0 n within u.1 (rw c.as_slice.ensures.value (omega (arith, value, low))) unmarked

pub returns-then-self-gt0-clause-others : goal.returns-then-self-gt0-clause-others
returns-then-self-gt0-clause-others c = λ n h high.
    let tree = c.self.inside.tree.items in
    let count = c.self.inside.count in
    let long = ap (λ (xs : List ℕ). length xs) c.self.view_is in
    let within : n < count = omega (arith, long, h, length-drop count tree, c.self.invariant.size) in
    let value : slice_index c.args.self.now n ≡ slice_index tree (count + n) = ap (λ (xs : List ℕ). slice_index xs n) (sym c.self.view_is) ∙ get_or-drop count tree n 0 in
    c.mark_below.ensures.others n within (rw c.as_slice.ensures.value (omega (arith, value, high)))
