-- A folded body has the constant bounds and steps of the body.
use Rattle.std.proofs.Common.{◌≡◌, ◌∙◌, refl, ap, sym, subst, ℕ, ℤ, pos}
use Rattle.std.specs.Prelude.{Option, Some, None, option_map}
use Rattle.st_tree.specs.Plain.{PlainExpr}
use Rattle.st_tree.specs.Plain.{PlainStmt, empty, assign, store, call, if_else, case_of, for_to, PlainBody, done, next, Branches, no_branch, branch, Choices, no_choice, choice}
use Rattle.st_tree.specs.Constants.{constant_of}
use Rattle.st_tree.specs.Mapping.{mapped_branches, mapped_choices}
use Rattle.st_tree.specs.Operators.{Outcome}
use Rattle.const_fold.specs.Folding.{folding, folded_expr, folded_option, folded_stmt, folded_body}
use Rattle.const_fold.specs.Laws.{GoesByConstants}
use Rattle.codegen.specs.Sizes.{number_of, step_number, span_from, constant_span, turns_of, frame_turns}
use Rattle.codegen.specs.Codes.{IsSteady, SteadyStmt, SteadyBody, SteadyBranches, SteadyChoices}

-- the step of a FOR by the outcome of its expression
abbrev step_by : Option (Option Outcome) → Option ℤ
step_by None = Some (pos 1)
step_by (Some outcome) = number_of outcome

step_is : (by : Option (PlainExpr ℕ)) → step_number by ≡ step_by (option_map constant_of by)
step_is None = refl
step_is (Some e) = refl

-- the turns of a FOR are counted by constants
pub turns_by_constants : GoesByConstants frame_turns
turns_by_constants from to also_from also_to by also_by same_from same_to same_by =
    let steps = step_is by ∙ ap step_by same_by ∙ sym (step_is also_by) in
    λ i. turns_of (span_from (number_of (same_from i)) (number_of (same_to i)) (steps i))

-- whether an expression is constant, and its outcome then, stay
abbrev pub KeepsConstants : Type 0
KeepsConstants = (e : PlainExpr ℕ) → constant_of (folded_expr e) ≡ constant_of e

module _ (constants : KeepsConstants) where
  step_kept : (by : Option (PlainExpr ℕ)) → step_number (folded_option by) ≡ step_number by
  step_kept None = refl
  step_kept (Some e) = ap number_of (constants e)

  span_kept : (from to : PlainExpr ℕ) (by : Option (PlainExpr ℕ)) → constant_span (folded_expr from) (folded_expr to) (folded_option by) ≡ constant_span from to by
  span_kept from to by = λ i. span_from (number_of (constants from i)) (number_of (constants to i)) (step_kept by i)

  mutual
    stmt_steady : (s : PlainStmt ℕ) → SteadyStmt s → SteadyStmt (folded_stmt s)
    stmt_steady (empty number) h = tt
    stmt_steady (assign number v e) h = tt
    stmt_steady (store number v bounds index value) h = tt
    stmt_steady (call number instance arguments) h = tt
    stmt_steady (if_else number branches last) h = (branches_steady branches h.0, body_steady last h.1)
    stmt_steady (case_of number e choices last) h = (choices_steady choices h.0, body_steady last h.1)
    stmt_steady (for_to number v from to by body) h = (subst IsSteady (sym (span_kept from to by)) h.0, body_steady body h.1)

    pub body_steady : (body : PlainBody ℕ) → SteadyBody body → SteadyBody (folded_body body)
    body_steady done h = tt
    body_steady (next s rest) h = (stmt_steady s h.0, body_steady rest h.1)

    branches_steady : (branches : Branches ℕ) → SteadyBranches branches → SteadyBranches (mapped_branches folding branches)
    branches_steady no_branch h = tt
    branches_steady (branch test body rest) h = (body_steady body h.0, branches_steady rest h.1)

    choices_steady : (choices : Choices ℕ) → SteadyChoices choices → SteadyChoices (mapped_choices folding choices)
    choices_steady no_choice h = tt
    choices_steady (choice labels body rest) h = (body_steady body h.0, choices_steady rest h.1)
