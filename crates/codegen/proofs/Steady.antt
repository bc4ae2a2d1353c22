-- The parts of what is steady are steady, and a FOR whose bounds are DINTs has few turns.
use Rattle.std.proofs.Common.{◌≡◌, ◌∙◌, ap, sym, subst, ℕ, ℤ, zero, suc, pos, negsuc, ◌<◌, ◌≤◌, ◌≤ℤ◌, ◌-ℤ◌, Bool, true, false, List, [], ◌∷◌, Option, Some, length, get_or, arith, if◌then◌else◌}
use Rattle.std.specs.Prelude.{Vec, int_lt, nat_abs}
use Rattle.std.specs.declared.alloc.Global.{Global}
use Rattle.std.proofs.Math.Nat.{div-le_self}
use Rattle.std.proofs.lemmas.Int.{ints}
use Rattle.st_tree.specs.declared.controls.Span.{Span}
use Rattle.st_tree.specs.declared.tree.Branch.{Branch}
use Rattle.st_tree.specs.declared.tree.Choice.{Choice}
use Rattle.st_tree.specs.declared.tree.Expr.{Expr}
use Rattle.st_tree.specs.declared.tree.Stmt.{Stmt, If, Case, For}
use Rattle.st_tree.specs.Controls.{values_from, control_values, count_in}
use Rattle.st_tree.specs.View.{view_expr, view_option, view_stmt, view_body, view_branch, view_branches, view_choice, view_choices}
use Rattle.st_tree.proofs.Views.{view_stmt-If, view_stmt-Case, view_stmt-For}
use Rattle.vm_sizes.specs.Sizes.{constant_span}
use Rattle.codegen.specs.Codes.{IsSteady, SteadyStmt, SteadyBody, SteadyBranches, SteadyChoices}
use Rattle.codegen.proofs.Loops.{from_range, length_from}

counted_few : (distance : ℤ) (step : ℕ) → distance ≤ℤ pos 4294967295 → count_in distance step ≤ 4294967296
counted_few (pos n) step h = let less = div-le_self n step in let fits : n ≤ 4294967295 = omega (arith, ints, h) in omega (arith, less, fits)
counted_few (negsuc n) step h = omega arith

few_by : (a b : Bool) (m n : ℕ) (x stride : ℤ) → m ≤ 4294967296 → n ≤ 4294967296 → length (if a then values_from m x stride else if b then values_from n x stride else []) ≤ 4294967296
few_by true b m n x stride h k = let long = length_from m x stride in omega (arith, h, long)
few_by false true m n x stride h k = let long = length_from n x stride in omega (arith, k, long)
few_by false false m n x stride h k = omega arith

-- a FOR whose bounds are DINTs has at most 2^32 turns
pub turns_few : (span : Span) → IsSteady (Some span) → length (control_values span) ≤ 4294967296
turns_few span dints =
    let from = from_range span.from dints.0 in
    let to = from_range span.to dints.1 in
    let least = from.0 in
    let most = from.1 in
    let low = to.0 in
    let high = to.1 in
    let upward : (span.to -ℤ span.from) ≤ℤ pos 4294967295 = omega (arith, ints, least, high) in
    let downward : (span.from -ℤ span.to) ≤ℤ pos 4294967295 = omega (arith, ints, low, most) in
    few_by (int_lt (pos 0) span.step) (int_lt span.step (pos 0)) (count_in (span.to -ℤ span.from) (nat_abs span.step)) (count_in (span.from -ℤ span.to) (nat_abs span.step)) span.from span.step
    (counted_few (span.to -ℤ span.from) (nat_abs span.step) upward) (counted_few (span.from -ℤ span.to) (nat_abs span.step) downward)

-- an item of what is steady
pub steady_at : (body : List (Stmt ℕ)) (i : ℕ) (x : Stmt ℕ) → i < length body → x ≡ get_or body i x → SteadyBody (view_body body) → SteadyStmt (view_stmt x)
steady_at [] i x less is h = absurd (omega arith)
steady_at (y ∷ body) zero x less is h = subst (λ z. SteadyStmt (view_stmt z)) (sym is) h.0
steady_at (y ∷ body) (suc i) x less is h = steady_at body i x (omega arith) is h.1

pub steady_branch : (branches : List (Branch ℕ)) (i : ℕ) (b : Branch ℕ) → i < length branches → b ≡ get_or branches i b → SteadyBranches (view_branches branches) → SteadyBody (view_branch b).1
steady_branch [] i b less is h = absurd (omega arith)
steady_branch (y ∷ branches) zero b less is h = subst (λ (z : Branch ℕ). SteadyBody (view_branch z).1) (sym is) h.0
steady_branch (y ∷ branches) (suc i) b less is h = steady_branch branches i b (omega arith) is h.1

pub steady_choice : (choices : List (Choice ℕ)) (i : ℕ) (c : Choice ℕ) → i < length choices → c ≡ get_or choices i c → SteadyChoices (view_choices choices) → SteadyBody (view_choice c).1
steady_choice [] i c less is h = absurd (omega arith)
steady_choice (y ∷ choices) zero c less is h = subst (λ (z : Choice ℕ). SteadyBody (view_choice z).1) (sym is) h.0
steady_choice (y ∷ choices) (suc i) c less is h = steady_choice choices i c (omega arith) is h.1

-- the parts of a statement
pub steady_if : (s : Stmt ℕ) (number : ℕ) (branches : Vec (Branch ℕ) Global) (last : Vec (Stmt ℕ) Global) → s ≡ If number branches last → SteadyStmt (view_stmt s)
    → SteadyBranches (view_branches branches.items) × SteadyBody (view_body last.items)
steady_if s number branches last is h = subst SteadyStmt (ap view_stmt is ∙ view_stmt-If number branches last) h

pub steady_case : (s : Stmt ℕ) (number : ℕ) (selector : Expr ℕ) (choices : Vec (Choice ℕ) Global) (last : Vec (Stmt ℕ) Global) → s ≡ Case number selector choices last → SteadyStmt (view_stmt s)
    → SteadyChoices (view_choices choices.items) × SteadyBody (view_body last.items)
steady_case s number selector choices last is h = subst SteadyStmt (ap view_stmt is ∙ view_stmt-Case number selector choices last) h

pub steady_for : (s : Stmt ℕ) (number v : ℕ) (from to : Expr ℕ) (by : Option (Expr ℕ)) (body : Vec (Stmt ℕ) Global) → s ≡ For number v from to by body → SteadyStmt (view_stmt s)
    → IsSteady (constant_span (view_expr from) (view_expr to) (view_option by)) × SteadyBody (view_body body.items)
steady_for s number v from to by body is h = subst SteadyStmt (ap view_stmt is ∙ view_stmt-For number v from to by body) h
