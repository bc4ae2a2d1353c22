use Rattle.std.proofs.Common.{◌≡◌, drop, pos, neg_ℤ, ◌^◌, ◌+◌, ◌*◌, ◌-ℤ◌, ◌≤ℤ◌}
use Rattle.std.specs.Prelude.{nat_abs}
use Rattle.st_tree.specs.View.{view_body, view_branches, view_choices}
use Rattle.st_tree.specs.Meaning.{run_all, turns, first_true, first_fit}
use Rattle.st_tree.specs.Controls.{up, down, count_in}
use Rattle.logic_walk.specs.Walk.{space}
use Rattle.logic_walk.proofs.Ranks.{total}
use Rattle.logic_walk.proofs.walker.+walk.Given as goal

-- what is left to do from here does what all does from the start
abbrev pub invariant-run_body-loop-stmt : goal.invariant-run_body-loop-stmt
invariant-run_body-loop-stmt l =
    let s = space l.walk in
    run_all s (view_body (drop l.stmt-index l.body)) l.cells ≡ run_all s (view_body l.body) l.initial.cells

abbrev pub invariant-run_first_true-loop-branch : goal.invariant-run_first_true-loop-branch
invariant-run_first_true-loop-branch l =
    let s = space l.walk in
    first_true s l.statement (view_branches (drop l.branch-index l.branches)) l.cells ≡ first_true s l.statement (view_branches l.branches) l.initial.cells

abbrev pub invariant-run_first_fit-loop-choice : goal.invariant-run_first_fit-loop-choice
invariant-run_first_fit-loop-choice l =
    let s = space l.walk in
    first_fit s l.n (view_choices (drop l.choice-index l.choices)) l.cells ≡ first_fit s l.n (view_choices l.choices) l.initial.cells

abbrev pub invariant-count_up-loop-at : goal.invariant-count_up-loop-at
invariant-count_up-loop-at l =
    let s = space l.walk in
    let rest = turns (λ w n. s.put w l.slot n) (run_all s (view_body l.body)) in
    (rest (up l.at l.to l.step) l.cells ≡ rest (up l.from l.to l.step) l.initial.cells) × (l.from ≤ℤ l.at) × (l.at ≤ℤ pos (2 ^ 65))

abbrev pub decreases-count_up-loop-at : goal.decreases-count_up-loop-at
decreases-count_up-loop-at l = count_in (l.to -ℤ l.at) (nat_abs l.step)

abbrev pub invariant-count_down-loop-at : goal.invariant-count_down-loop-at
invariant-count_down-loop-at l =
    let s = space l.walk in
    let rest = turns (λ w n. s.put w l.slot n) (run_all s (view_body l.body)) in
    (rest (down l.at l.to l.step) l.cells ≡ rest (down l.from l.to l.step) l.initial.cells) × (l.at ≤ℤ l.from) × (neg_ℤ (pos (2 ^ 65)) ≤ℤ l.at)

abbrev pub decreases-count_down-loop-at : goal.decreases-count_down-loop-at
decreases-count_down-loop-at l = count_in (l.at -ℤ l.to) (nat_abs l.step)

-- each call weighs less: a frame calls those before it alone, and a statement runs what is inside it
abbrev pub decreases-run_within : goal.decreases-run_within
decreases-run_within l = total l.walk.now.frames.now l.walk.now.limit

abbrev pub decreases-run_called : goal.decreases-run_called
decreases-run_called l = total l.walk.now.frames.now l.walk.now.limit + 1

abbrev pub decreases-run_call : goal.decreases-run_call
decreases-run_call l = total l.walk.now.frames.now l.walk.now.limit + 2

abbrev pub decreases-run_stmt : goal.decreases-run_stmt
decreases-run_stmt l = total l.walk.now.frames.now l.walk.now.limit + (4 + 4 * goal.size-run_stmt l)

abbrev pub decreases-run_body : goal.decreases-run_body
decreases-run_body l = total l.walk.now.frames.now l.walk.now.limit + (5 + 4 * goal.size-run_body l)

abbrev pub decreases-count_up : goal.decreases-count_up
decreases-count_up l = total l.walk.now.frames.now l.walk.now.limit + (6 + 4 * goal.size-count_up l)

abbrev pub decreases-count_down : goal.decreases-count_down
decreases-count_down l = total l.walk.now.frames.now l.walk.now.limit + (6 + 4 * goal.size-count_down l)

abbrev pub decreases-run_turns : goal.decreases-run_turns
decreases-run_turns l = total l.walk.now.frames.now l.walk.now.limit + (7 + 4 * goal.size-run_turns l)

abbrev pub decreases-run_first_true : goal.decreases-run_first_true
decreases-run_first_true l = total l.walk.now.frames.now l.walk.now.limit + (4 + 4 * goal.size-run_first_true l)

abbrev pub decreases-run_first_fit : goal.decreases-run_first_fit
decreases-run_first_fit l = total l.walk.now.frames.now l.walk.now.limit + (4 + 4 * goal.size-run_first_fit l)
