-- What a look at one branch, at one choice and at one input, and a run of one statement of a body did.
use Rattle.std.proofs.Common.{◌≡◌, ◌∙◌, ap, sym, ℕ, ℤ, ◌+◌, ◌<◌, List, [], ◌∷◌, length, get_or, drop, map, Bool, true, false}
use Rattle.std.specs.Prelude.{if◌then◌else◌, Ok, Err, Result}
use Rattle.std.proofs.lemmas.List.{at_drop_more}
use Rattle.plant_types.specs.Values.{is_true, Path}
use Rattle.plant_types.specs.declared.values.Place.{Place}
use Rattle.st_tree.specs.declared.tree.Argument.{Argument}
use Rattle.st_tree.specs.declared.tree.Argument.TheVariants.{Input}
use Rattle.st_tree.specs.declared.tree.Expr.{Expr}
use Rattle.st_tree.specs.declared.tree.Branch.{Branch}
use Rattle.st_tree.specs.declared.tree.Choice.{Choice}
use Rattle.st_tree.specs.declared.tree.Label.{Label}
use Rattle.st_tree.specs.declared.tree.Stmt.{Stmt}
use Rattle.st_tree.specs.Plain.{PlainExpr, PlainBody}
use Rattle.st_tree.specs.View.{view_expr, view_argument, view_stmt, view_body, view_branch, view_branches, view_choice, view_choices}
use Rattle.st_tree.specs.Operators.{Outcome}
use Rattle.st_tree.specs.Meaning.{Space, Ran, Trapped, Chosen, Took, on_test, with_value, take_inputs, then_run, labels_fit, statement_spot, outcome, run, run_all, first_true, first_fit}
use Rattle.st_tree.proofs.Views.{view_branch_is, view_choice_is}
use Rattle.logic_cells.specs.declared.stop.Stop.{Stop}
use Rattle.logic_cells.specs.Cells.{PlainCells}
use Rattle.logic_cells.specs.Runs.{spot_of, ended}
use Rattle.logic_walk.specs.declared.frame.Base.{Base}
use Rattle.logic_walk.specs.declared.frame.Seat.{Seat}
use Rattle.logic_walk.specs.Walks.{frame_space}

module _ (t globals : ℕ) (inner : ℕ → Base → Path → PlainCells → Ran PlainCells) (seats : List Seat) (base : Base) where
  abbrev s : Space ℕ PlainCells
  s = frame_space t globals inner seats base []

  module _ (number : ℕ) (xs : List (Branch ℕ)) (i : ℕ) (x : Branch ℕ) (w : PlainCells) (within : i < length xs) (is : x ≡ get_or xs i x) where
    -- the test of a branch, its body, and the branches after it
    abbrev tested : Outcome → Chosen PlainCells
    tested o = on_test w (statement_spot s number) o (run_all s (view_body x.body.items)) (first_true s number (view_branches (drop (i + 1) xs)))

    branch_at : first_true s number (view_branches (drop i xs)) w ≡ tested (outcome s w (view_expr x.test))
    branch_at =
        at_drop_more (λ l. first_true s number (view_branches l) w) xs i x within
        ∙ ap (λ (b : PlainExpr ℕ × PlainBody ℕ). on_test w (statement_spot s number) (outcome s w b.0) (run_all s b.1) (first_true s number (view_branches (drop (i + 1) xs)))) (ap view_branch (sym is) ∙ view_branch_is x)

    pub branch_trapped : (paths : List Path) (o : Outcome) (stop : Stop) (q : Chosen PlainCells) → o ≡ outcome s w (view_expr x.test) → stop.place ≡ record { path = 0; statement = number } → o ≡ Err stop.trap → first_true s number (view_branches (drop i xs)) w ≡ q
        → Took (ended ([] ∷ paths) (Err stop) w) ≡ q
    branch_trapped paths o stop q e place trapped before =
        ap (λ (p : Place). Took (Trapped w (spot_of ([] ∷ paths) p) stop.trap)) place ∙ ap tested (sym trapped ∙ e) ∙ sym branch_at ∙ before

    module _ (o : Outcome) (n : ℤ) (q : Chosen PlainCells) (e : o ≡ outcome s w (view_expr x.test)) (ok : o ≡ Ok n) (before : first_true s number (view_branches (drop i xs)) w ≡ q) where
      abbrev chosen_by : Bool → Chosen PlainCells
      chosen_by b = if b then Took (run_all s (view_body x.body.items) w) else first_true s number (view_branches (drop (i + 1) xs)) w

      pub branch_taken : (body : List (Stmt ℕ)) (r : Ran PlainCells) → is_true n ≡ true → body ≡ x.body.items → r ≡ run_all s (view_body body) w → Took r ≡ q
      branch_taken body r holds same did = ap Took (did ∙ ap (λ l. run_all s (view_body l) w) same) ∙ ap chosen_by (sym holds) ∙ ap tested (sym ok ∙ e) ∙ sym branch_at ∙ before

      pub branch_passed : is_true n ≡ false → first_true s number (view_branches (drop (i + 1) xs)) w ≡ q
      branch_passed fails = ap chosen_by (sym fails) ∙ ap tested (sym ok ∙ e) ∙ sym branch_at ∙ before

  module _ (n : ℤ) (xs : List (Choice ℕ)) (i : ℕ) (x : Choice ℕ) (w : PlainCells) (q : Chosen PlainCells) (within : i < length xs) (is : x ≡ get_or xs i x) (before : first_fit s n (view_choices (drop i xs)) w ≡ q) where
    abbrev fitted : Bool → Chosen PlainCells
    fitted b = if b then Took (run_all s (view_body x.body.items) w) else first_fit s n (view_choices (drop (i + 1) xs)) w

    choice_at : first_fit s n (view_choices (drop i xs)) w ≡ fitted (labels_fit n x.labels.items)
    choice_at =
        at_drop_more (λ l. first_fit s n (view_choices l) w) xs i x within
        ∙ ap (λ (b : List Label × PlainBody ℕ). if labels_fit n b.0 then Took (run_all s b.1 w) else first_fit s n (view_choices (drop (i + 1) xs)) w) (ap view_choice (sym is) ∙ view_choice_is x)

    module _ (fits : Bool) (labels : List Label) (e : fits ≡ labels_fit n labels) (same : labels ≡ x.labels.items) where
      pub choice_taken : (body : List (Stmt ℕ)) (r : Ran PlainCells) → fits ≡ true → body ≡ x.body.items → r ≡ run_all s (view_body body) w → Took r ≡ q
      choice_taken body r holds also did = ap Took (did ∙ ap (λ l. run_all s (view_body l) w) also) ∙ ap fitted (sym holds ∙ e ∙ ap (labels_fit n) same) ∙ sym choice_at ∙ before

      pub choice_passed : fits ≡ false → first_fit s n (view_choices (drop (i + 1) xs)) w ≡ q
      choice_passed fails = ap fitted (sym fails ∙ e ∙ ap (labels_fit n) same) ∙ sym choice_at ∙ before

  pub stmt_done : (paths : List Path) (xs : List (Stmt ℕ)) (i : ℕ) (x : Stmt ℕ) (w z : PlainCells) (r : Result (Unit {0}) Stop) (v : Unit {0}) (q : Ran PlainCells) → i < length xs → x ≡ get_or xs i x → r ≡ Ok v → ended paths r z ≡ run s (view_stmt x) w
      → run_all s (view_body (drop i xs)) w ≡ q → run_all s (view_body (drop (i + 1) xs)) z ≡ q
  stmt_done paths xs i x w z r v q within is ok did before =
      ap (λ u. then_run u (run_all s (view_body (drop (i + 1) xs)))) (ap (λ y. ended paths y z) (sym ok) ∙ did ∙ ap (λ y. run s (view_stmt y) w) is) ∙ sym (at_drop_more (λ l. run_all s (view_body l) w) xs i x within) ∙ before

  -- an input whose value traps
  pub input_trapped : (number instance : ℕ) (xs : List (Argument ℕ)) (i : ℕ) (x : Argument ℕ) (name : ℕ) (e : Expr ℕ) (w : PlainCells) (o : Outcome) (stop : Stop) (q : Ran PlainCells) → i < length xs → x ≡ get_or xs i x → x ≡ Input name e
      → o ≡ outcome s w (view_expr e) → stop.place ≡ record { path = 0; statement = number } → o ≡ Err stop.trap → take_inputs s number instance (map view_argument (drop i xs)) w ≡ q → ended ([] ∷ []) (Err stop) w ≡ q
  input_trapped number instance xs i x name e w o stop q within is form given place trapped before =
      ap (λ (p : Place). Trapped w (spot_of ([] ∷ []) p) stop.trap) place
      ∙ ap (λ z. with_value w (statement_spot s number) z (λ n. take_inputs s number instance (map view_argument (drop (i + 1) xs)) (s.put_input w instance name n))) (sym trapped ∙ given)
      ∙ sym (at_drop_more (λ l. take_inputs s number instance (map view_argument l) w) xs i x within ∙ ap (λ a. take_inputs s number instance (view_argument a ∷ map view_argument (drop (i + 1) xs)) w) (sym is ∙ form))
      ∙ before
