-- A run whose paths go on from a path is the run with paths of its own, moved there.
use Rattle.std.proofs.Common.{◌≡◌, ◌∙◌, ap, sym, refl, ℕ, ℤ, zero, suc, Bool, true, false, List, [], ◌∷◌, append_assoc}
use Rattle.std.specs.Prelude.{slice_get, nat_eq, if◌then◌else◌, Option, Some, None, Ok, Err, Result}
use Rattle.plant_types.specs.Values.{is_true, Path}
use Rattle.plant_types.specs.declared.values.Trap.{Trap}
use Rattle.st_tree.specs.View.{view_body}
use Rattle.st_tree.specs.Operators.{Outcome}
use Rattle.st_tree.specs.Controls.{control_values, span_of}
use Rattle.st_tree.specs.Plain.{PlainArgument, input, output, PlainStmt, empty, assign, store, call, if_else, case_of, for_to, PlainBody, done, next, Branches, no_branch, branch, Choices, no_choice, choice}
use Rattle.st_tree.specs.Meaning.{Space, Ran, Done, Trapped, then_run, with_value, turns, labels_fit, Chosen, Took, Passed, or_else, on_test, outcome, index_of, step_of, take_inputs, give_outputs, run, run_all, first_true, first_fit, statement_spot}
use Rattle.logic_cells.specs.Cells.{PlainCells}
use Rattle.logic_walk.specs.declared.frame.Base.{Base}
use Rattle.logic_walk.specs.declared.frame.Frame.{Frame}
use Rattle.logic_walk.specs.declared.frame.SeatOf.{SeatOf}
use Rattle.logic_walk.specs.declared.frame.SeatOf.TheVariants as seat_of
use Rattle.logic_walk.specs.declared.frame.Seat.{Seat}
use Rattle.logic_walk.specs.Frames.{of_frame, of_first}
use Rattle.logic_walk.specs.Walks.{base_of, called_by, called, frame_space, under, placed, run_frame, run_within}

-- a path that goes on from a name, and that from a path
under_name : (name : List ℕ) (path : Path) (r : Ran PlainCells) → under (name ∷ path) r ≡ under path (under (name ∷ []) r)
under_name name path (Done c) = refl
under_name name path (Trapped c spot trap) = ap (λ p. Trapped c (record { path = p; statement = spot.statement }) trap) (sym (append_assoc spot.path (name ∷ []) path))

module _ (t globals : ℕ) (inner : ℕ → Base → Path → PlainCells → Ran PlainCells) (own : ℕ → Base → PlainCells → Ran PlainCells) (same : (k : ℕ) (base : Base) (path : Path) (c : PlainCells) → inner k base path c ≡ under path (own k base c)) (seats : List Seat) (base : Base) (path : Path) where
  abbrev s : Space ℕ PlainCells
  s = frame_space t globals inner seats base path

  abbrev r : Space ℕ PlainCells
  r = frame_space t globals (placed own) seats base []

  abbrev moved : Chosen PlainCells → Chosen PlainCells
  moved (Took q) = Took (under path q)
  moved (Passed c) = Passed c

  called_if : (b : Bool) (k : ℕ) (seat : Seat) (c : PlainCells)
      → (if b then inner k (base_of base seat) (seat.name ∷ path) c else Done c) ≡ under path (if b then placed own k (base_of base seat) (seat.name ∷ []) c else Done c)
  called_if true k seat c = same k (base_of base seat) (seat.name ∷ path) c ∙ under_name seat.name path (own k (base_of base seat) c)
  called_if false k seat c = refl

  called_of : (of : SeatOf) (seat : Seat) (c : PlainCells) → called_by t inner of base seat path c ≡ under path (called_by t (placed own) of base seat [] c)
  called_of (seat_of.Standard standard) seat c = refl
  called_of (seat_of.Frame k) seat c = called_if seat.is_called k seat c

  called_moved : (o : Option Seat) (c : PlainCells) → called t inner o base path c ≡ under path (called t (placed own) o base [] c)
  called_moved None c = refl
  called_moved (Some seat) c = called_of seat.of seat c

  value_moved : {A : Type 0} (c : PlainCells) (number : ℕ) (o : Result A Trap) (f g : A → Ran PlainCells) → ((a : A) → f a ≡ under path (g a)) → with_value c (statement_spot s number) o f ≡ under path (with_value c (statement_spot r number) o g)
  value_moved c number (Ok a) f g each = each a
  value_moved c number (Err trap) f g each = refl

  then_moved : (q : Ran PlainCells) (f g : PlainCells → Ran PlainCells) → ((c : PlainCells) → f c ≡ under path (g c)) → then_run (under path q) f ≡ under path (then_run q g)
  then_moved (Done c) f g each = each c
  then_moved (Trapped c spot trap) f g each = refl

  both_moved : (p q : Ran PlainCells) (f g : PlainCells → Ran PlainCells) → p ≡ under path q → ((c : PlainCells) → f c ≡ under path (g c)) → then_run p f ≡ under path (then_run q g)
  both_moved p q f g first each = ap (λ x. then_run x f) first ∙ then_moved q f g each

  else_moved : (p q : Chosen PlainCells) (f g : PlainCells → Ran PlainCells) → p ≡ moved q → ((c : PlainCells) → f c ≡ under path (g c)) → or_else p f ≡ under path (or_else q g)
  else_moved p (Took x) f g first each = ap (λ y. or_else y f) first
  else_moved p (Passed c) f g first each = ap (λ y. or_else y f) first ∙ each c

  picked : (b : Bool) (p q : Ran PlainCells) (x y : Chosen PlainCells) → p ≡ under path q → x ≡ moved y → (if b then Took p else x) ≡ moved (if b then Took q else y)
  picked true p q x y first later = ap Took first
  picked false p q x y first later = later

  test_moved : (c : PlainCells) (number : ℕ) (o : Outcome) (f g : PlainCells → Ran PlainCells) (x y : PlainCells → Chosen PlainCells) → f c ≡ under path (g c) → x c ≡ moved (y c)
      → on_test c (statement_spot s number) o f x ≡ moved (on_test c (statement_spot r number) o g y)
  test_moved c number (Ok n) f g x y first later = picked (is_true n) (f c) (g c) (x c) (y c) first later
  test_moved c number (Err trap) f g x y first later = refl

  turns_moved : (set : PlainCells → ℤ → PlainCells) (f g : PlainCells → Ran PlainCells) → ((c : PlainCells) → f c ≡ under path (g c)) → (ns : List ℤ) (c : PlainCells) → turns set f ns c ≡ under path (turns set g ns c)
  turns_moved set f g each [] c = refl
  turns_moved set f g each (n ∷ ns) c = both_moved (f (set c n)) (g (set c n)) (turns set f ns) (turns set g ns) (each (set c n)) (turns_moved set f g each ns)

  inputs_moved : (number instance : ℕ) (arguments : List (PlainArgument ℕ)) (c : PlainCells) → take_inputs s number instance arguments c ≡ under path (take_inputs r number instance arguments c)
  inputs_moved number instance [] c = refl
  inputs_moved number instance (input name e ∷ rest) c =
      value_moved c number (outcome r c e) (λ n. take_inputs s number instance rest (s.put_input c instance name n)) (λ n. take_inputs r number instance rest (r.put_input c instance name n)) (λ n. inputs_moved number instance rest (r.put_input c instance name n))
  inputs_moved number instance (output name v ∷ rest) c = inputs_moved number instance rest c

  outputs_same : (instance : ℕ) (arguments : List (PlainArgument ℕ)) (c : PlainCells) → give_outputs s instance arguments c ≡ give_outputs r instance arguments c
  outputs_same instance [] c = refl
  outputs_same instance (input name e ∷ rest) c = outputs_same instance rest c
  outputs_same instance (output name v ∷ rest) c = outputs_same instance rest (r.put c v (r.get_output c instance name))

  mutual
    stmt_moved : (stmt : PlainStmt ℕ) (c : PlainCells) → run s stmt c ≡ under path (run r stmt c)
    stmt_moved (empty number) c = refl
    stmt_moved (assign number v e) c = value_moved c number (outcome r c e) (λ n. Done (s.put c v n)) (λ n. Done (r.put c v n)) (λ n. refl)
    stmt_moved (store number v bounds index value) c =
        value_moved c number (index_of r c bounds index) (λ i. with_value c (statement_spot s number) (outcome r c value) (λ n. Done (s.put_at c v bounds i n))) (λ i. with_value c (statement_spot r number) (outcome r c value) (λ n. Done (r.put_at c v bounds i n)))
        (λ i. value_moved c number (outcome r c value) (λ n. Done (s.put_at c v bounds i n)) (λ n. Done (r.put_at c v bounds i n)) (λ n. refl))
    stmt_moved (call number instance arguments) c =
        both_moved (then_run (take_inputs s number instance arguments c) (λ u. s.enter u instance)) (then_run (take_inputs r number instance arguments c) (λ u. r.enter u instance)) (λ u. Done (give_outputs s instance arguments u)) (λ u. Done (give_outputs r instance arguments u))
        (both_moved (take_inputs s number instance arguments c) (take_inputs r number instance arguments c) (λ u. s.enter u instance) (λ u. r.enter u instance) (inputs_moved number instance arguments c) (λ u. called_moved (slice_get seats instance) u))
        (λ u. ap Done (outputs_same instance arguments u))
    stmt_moved (if_else number branches last) c = else_moved (first_true s number branches c) (first_true r number branches c) (run_all s last) (run_all r last) (branches_moved branches number c) (body_moved last)
    stmt_moved (case_of number e choices last) c =
        value_moved c number (outcome r c e) (λ n. or_else (first_fit s n choices c) (run_all s last)) (λ n. or_else (first_fit r n choices c) (run_all r last))
        (λ n. else_moved (first_fit s n choices c) (first_fit r n choices c) (run_all s last) (run_all r last) (choices_moved choices n c) (body_moved last))
    stmt_moved (for_to number v from to by body) c =
        value_moved c number (span_of (outcome r c from) (outcome r c to) (step_of r c by)) (λ span. turns (λ u n. s.put u v n) (run_all s body) (control_values span) c) (λ span. turns (λ u n. r.put u v n) (run_all r body) (control_values span) c)
        (λ span. turns_moved (λ u n. r.put u v n) (run_all s body) (run_all r body) (body_moved body) (control_values span) c)

    pub body_moved : (body : PlainBody ℕ) (c : PlainCells) → run_all s body c ≡ under path (run_all r body c)
    body_moved done c = refl
    body_moved (next stmt rest) c = both_moved (run s stmt c) (run r stmt c) (run_all s rest) (run_all r rest) (stmt_moved stmt c) (body_moved rest)

    branches_moved : (branches : Branches ℕ) (number : ℕ) (c : PlainCells) → first_true s number branches c ≡ moved (first_true r number branches c)
    branches_moved no_branch number c = refl
    branches_moved (branch test body rest) number c =
        test_moved c number (outcome r c test) (run_all s body) (run_all r body) (first_true s number rest) (first_true r number rest) (body_moved body c) (branches_moved rest number c)

    choices_moved : (choices : Choices ℕ) (n : ℤ) (c : PlainCells) → first_fit s n choices c ≡ moved (first_fit r n choices c)
    choices_moved no_choice n c = refl
    choices_moved (choice labels body rest) n c = picked (labels_fit n labels) (run_all s body c) (run_all r body c) (first_fit s n rest c) (first_fit r n rest c) (body_moved body c) (choices_moved rest n c)

module _ (t globals : ℕ) (frames : List Frame) where
  abbrev rule : (ℕ → Base → Path → PlainCells → Ran PlainCells) → Frame → Base → Path → PlainCells → Ran PlainCells
  rule inner frame base path c = run_all (frame_space t globals inner frame.seats.items base path) (view_body frame.body.items) c

  abbrev own_rule : (ℕ → Base → PlainCells → Ran PlainCells) → Frame → Base → PlainCells → Ran PlainCells
  own_rule inner frame base c = run_all (frame_space t globals (placed inner) frame.seats.items base []) (view_body frame.body.items) c

  abbrev all : (limit k : ℕ) → Base → Path → PlainCells → Ran PlainCells
  all = of_first (λ base path c. Done c) rule frames

  abbrev own : (limit k : ℕ) → Base → PlainCells → Ran PlainCells
  own = of_first (λ base c. Done c) own_rule frames

  module _ (n : ℕ) (same : (k : ℕ) (base : Base) (path : Path) (c : PlainCells) → all n k base path c ≡ under path (own n k base c)) (k : ℕ) (base : Base) (path : Path) (c : PlainCells) where
    of_option : (o : Option Frame) → of_frame (λ b p u. Done u) (rule (all n)) o base path c ≡ under path (of_frame (λ b u. Done u) (own_rule (own n)) o base c)
    of_option None = refl
    of_option (Some frame) = body_moved t globals (all n) (own n) same frame.seats.items base path (view_body frame.body.items) c

    by_test : (b : Bool)
        → (if b then of_frame (λ b p u. Done u) (rule (all n)) (slice_get frames n) else all n k) base path c ≡ under path ((if b then of_frame (λ b u. Done u) (own_rule (own n)) (slice_get frames n) else own n k) base c)
    by_test true = of_option (slice_get frames n)
    by_test false = same k base path c

  all_moved : (limit k : ℕ) (base : Base) (path : Path) (c : PlainCells) → all limit k base path c ≡ under path (own limit k base c)
  all_moved zero k base path c = refl
  all_moved (suc n) k base path c = by_test n (all_moved n) k base path c (nat_eq k n)

  pub frame_moved : (limit k : ℕ) (base : Base) (path : Path) (c : PlainCells) → run_frame t globals frames limit k base path c ≡ under path (run_within t globals frames limit k base c)
  unfolding run_frame run_within
  frame_moved limit k base path c = all_moved limit k base path c
