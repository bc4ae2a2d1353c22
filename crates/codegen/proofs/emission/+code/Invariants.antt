use Rattle.std.proofs.Common.{◌≡◌, ◌+◌, ◌*◌, ◌++◌, ℕ, List, drop}
use Rattle.st_tree.specs.View.{view_body, view_branches, view_choices}
use Rattle.logic_walk.proofs.Ranks.{total}
use Rattle.codegen.specs.Codes.{Line}
use Rattle.codegen.specs.Emission.{body_code, body_long, branches_code, choices_code, branches_long, choices_long}
use Rattle.codegen.proofs.emission.+code.Given as goal

-- what is emitted, and what is left to emit, is all, and so are the lines
abbrev pub invariant-emit_body-loop-stmt : goal.invariant-emit_body-loop-stmt
invariant-emit_body-loop-stmt l =
    (l.out.items ++ body_code l.scope (view_body (drop l.stmt-index l.body)) l.at ≡ l.initial.out.items ++ body_code l.scope (view_body l.body) l.pc)
    × (l.at + body_long l.scope (view_body (drop l.stmt-index l.body)) ≡ l.pc + body_long l.scope (view_body l.body))

abbrev pub invariant-emit_branches-loop-branch : goal.invariant-emit_branches-loop-branch
invariant-emit_branches-loop-branch l =
    (last : ℕ → List Line) (n : ℕ) → l.pc + branches_long l.scope (view_branches l.branches) n ≡ l.end
    → (l.at + branches_long l.scope (view_branches (drop l.branch-index l.branches)) n ≡ l.end)
    × (l.out.items ++ branches_code l.scope l.place (view_branches (drop l.branch-index l.branches)) last n l.at ≡ l.initial.out.items ++ branches_code l.scope l.place (view_branches l.branches) last n l.pc)

abbrev pub invariant-emit_choices-loop-choice : goal.invariant-emit_choices-loop-choice
invariant-emit_choices-loop-choice l =
    (last : ℕ → List Line) (n : ℕ) → l.pc + choices_long l.scope (view_choices l.choices) n ≡ l.end
    → (l.at + choices_long l.scope (view_choices (drop l.choice-index l.choices)) n ≡ l.end)
    × (l.out.items ++ choices_code l.scope l.place (view_choices (drop l.choice-index l.choices)) last n l.at ≡ l.initial.out.items ++ choices_code l.scope l.place (view_choices l.choices) last n l.pc)

-- each call weighs less: a frame calls those before it alone, and a statement has what is inside it
abbrev pub decreases-emit_frame : goal.decreases-emit_frame
decreases-emit_frame l = total l.placed.now.frames.now l.placed.now.limit

abbrev pub decreases-emit_enter : goal.decreases-emit_enter
decreases-emit_enter l = total l.scope.now.frames.now l.scope.now.limit + 1

abbrev pub decreases-emit_call : goal.decreases-emit_call
decreases-emit_call l = total l.scope.now.frames.now l.scope.now.limit + 2

abbrev pub decreases-emit_stmt : goal.decreases-emit_stmt
decreases-emit_stmt l = total l.scope.now.frames.now l.scope.now.limit + (4 + 4 * goal.size-emit_stmt l)

abbrev pub decreases-emit_body : goal.decreases-emit_body
decreases-emit_body l = total l.scope.now.frames.now l.scope.now.limit + (5 + 4 * goal.size-emit_body l)

abbrev pub decreases-emit_loop : goal.decreases-emit_loop
decreases-emit_loop l = total l.scope.now.frames.now l.scope.now.limit + (6 + 4 * goal.size-emit_loop l)

abbrev pub decreases-emit_branches : goal.decreases-emit_branches
decreases-emit_branches l = total l.scope.now.frames.now l.scope.now.limit + (5 + 4 * goal.size-emit_branches l)

abbrev pub decreases-emit_branch : goal.decreases-emit_branch
decreases-emit_branch l = total l.scope.now.frames.now l.scope.now.limit + (4 + 4 * goal.size-emit_branch l)

abbrev pub decreases-emit_choices : goal.decreases-emit_choices
decreases-emit_choices l = total l.scope.now.frames.now l.scope.now.limit + (5 + 4 * goal.size-emit_choices l)

abbrev pub decreases-emit_choice : goal.decreases-emit_choice
decreases-emit_choice l = total l.scope.now.frames.now l.scope.now.limit + (4 + 4 * goal.size-emit_choice l)
