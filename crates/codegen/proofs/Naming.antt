-- The parts of what names numbers of 32 bits alone name such numbers alone.
use Rattle.std.proofs.Common.{◌≡◌, ◌∙◌, ap, sym, subst, ℕ, zero, suc, ◌+◌, ◌<◌, Bool, true, List, [], ◌∷◌, Option, Some, map, length, get_or, arith, if◌then◌else◌}
use Rattle.std.specs.Prelude.{Vec, slice_get, ◌&&◌}
use Rattle.std.specs.List.{list_all}
use Rattle.std.specs.declared.alloc.Global.{Global}
use Rattle.std.proofs.lemmas.Bool.{and_parts}
use Rattle.plant_types.specs.declared.values.Bounds.{Bounds}
use Rattle.st_tree.specs.declared.tree.Argument.{Argument}
use Rattle.st_tree.specs.declared.tree.Argument.TheVariants as argument
use Rattle.st_tree.specs.declared.tree.Branch.{Branch}
use Rattle.st_tree.specs.declared.tree.Choice.{Choice}
use Rattle.st_tree.specs.declared.tree.Expr.{Expr}
use Rattle.st_tree.specs.declared.tree.Stmt.{Stmt, Assign, Store, Call, If, Case, For}
use Rattle.st_tree.specs.Mapping.{Known, expr_known, option_known, argument_known, stmt_known, body_known, branches_known, choices_known}
use Rattle.st_tree.specs.View.{view_expr, view_option, view_argument, view_stmt, view_body, view_branch, view_branches, view_choice, view_choices}
use Rattle.st_tree.proofs.Views.{view_stmt-Store, view_stmt-Call, view_stmt-If, view_stmt-Case, view_stmt-For}
use Rattle.logic_cells.specs.declared.clock.Standard.{Standard}
use Rattle.logic_walk.specs.declared.frame.Seat.{Seat}
use Rattle.logic_walk.specs.declared.frame.Base.{Base}
use Rattle.logic_walk.specs.declared.frame.SeatOf.{SeatOf}
use Rattle.logic_walk.specs.declared.frame.SeatOf.TheVariants as seat_of
use Rattle.logic_walk.specs.Walks.{member_slot, base_of}
use Rattle.codegen.specs.declared.scope.PlacedRoutine.{PlacedRoutine}
use Rattle.codegen.specs.Within.{fits, has_pt, has_called, has_instance, frame_there}
use Rattle.codegen.specs.Emission.{named}
use Rattle.codegen.proofs.Emitting.{view_assigned}

module _ (known : Known ℕ) where
  -- an item of what names only what is known
  pub known_at : (body : List (Stmt ℕ)) (i : ℕ) (x : Stmt ℕ) → i < length body → x ≡ get_or body i x → body_known known (view_body body) ≡ true → stmt_known known (view_stmt x) ≡ true
  known_at [] i x less is h = absurd (omega arith)
  known_at (y ∷ body) zero x less is h = subst (λ z. stmt_known known (view_stmt z) ≡ true) (sym is) (and_parts (stmt_known known (view_stmt y)) (body_known known (view_body body)) h).0
  known_at (y ∷ body) (suc i) x less is h = known_at body i x (omega arith) is (and_parts (stmt_known known (view_stmt y)) (body_known known (view_body body)) h).1

  pub known_argument : (instance : ℕ) (arguments : List (Argument ℕ)) (i : ℕ) (x : Argument ℕ) → i < length arguments → x ≡ get_or arguments i x → list_all (argument_known known instance) (map view_argument arguments) ≡ true
      → argument_known known instance (view_argument x) ≡ true
  known_argument instance [] i x less is h = absurd (omega arith)
  known_argument instance (y ∷ arguments) zero x less is h =
      subst (λ z. argument_known known instance (view_argument z) ≡ true) (sym is) (and_parts (argument_known known instance (view_argument y)) (list_all (argument_known known instance) (map view_argument arguments)) h).0
  known_argument instance (y ∷ arguments) (suc i) x less is h =
      known_argument instance arguments i x (omega arith) is (and_parts (argument_known known instance (view_argument y)) (list_all (argument_known known instance) (map view_argument arguments)) h).1

  pub known_input : (instance : ℕ) (x : Argument ℕ) (name : ℕ) (e : Expr ℕ) → x ≡ argument.Input name e → argument_known known instance (view_argument x) ≡ true → (known.has_input instance name ≡ true) × (expr_known known (view_expr e) ≡ true)
  known_input instance x name e is h = and_parts (known.has_input instance name) (expr_known known (view_expr e)) (subst (λ z. argument_known known instance (view_argument z) ≡ true) is h)

  pub known_output : (instance : ℕ) (x : Argument ℕ) (name v : ℕ) → x ≡ argument.Output name v → argument_known known instance (view_argument x) ≡ true → (known.has_output instance name ≡ true) × (known.has_variable v ≡ true)
  known_output instance x name v is h = and_parts (known.has_output instance name) (known.has_variable v) (subst (λ z. argument_known known instance (view_argument z) ≡ true) is h)

  pub known_branch : (branches : List (Branch ℕ)) (i : ℕ) (b : Branch ℕ) → i < length branches → b ≡ get_or branches i b → branches_known known (view_branches branches) ≡ true
      → (expr_known known (view_branch b).0 ≡ true) × (body_known known (view_branch b).1 ≡ true)
  known_branch [] i b less is h = absurd (omega arith)
  known_branch (y ∷ branches) zero b less is h =
      let p = and_parts (expr_known known (view_branch y).0) (body_known known (view_branch y).1 && branches_known known (view_branches branches)) h in
      let q = and_parts (body_known known (view_branch y).1) (branches_known known (view_branches branches)) p.1 in
      subst (λ (z : Branch ℕ). (expr_known known (view_branch z).0 ≡ true) × (body_known known (view_branch z).1 ≡ true)) (sym is) (p.0, q.0)
  known_branch (y ∷ branches) (suc i) b less is h =
      let p = and_parts (expr_known known (view_branch y).0) (body_known known (view_branch y).1 && branches_known known (view_branches branches)) h in
      let q = and_parts (body_known known (view_branch y).1) (branches_known known (view_branches branches)) p.1 in
      known_branch branches i b (omega arith) is q.1

  pub known_choice : (choices : List (Choice ℕ)) (i : ℕ) (c : Choice ℕ) → i < length choices → c ≡ get_or choices i c → choices_known known (view_choices choices) ≡ true → body_known known (view_choice c).1 ≡ true
  known_choice [] i c less is h = absurd (omega arith)
  known_choice (y ∷ choices) zero c less is h =
      subst (λ (z : Choice ℕ). body_known known (view_choice z).1 ≡ true) (sym is) (and_parts (body_known known (view_choice y).1) (choices_known known (view_choices choices)) h).0
  known_choice (y ∷ choices) (suc i) c less is h = known_choice choices i c (omega arith) is (and_parts (body_known known (view_choice y).1) (choices_known known (view_choices choices)) h).1

  -- the parts of a statement
  pub known_assign : (s : Stmt ℕ) (number v : ℕ) (e : Expr ℕ) → s ≡ Assign number v e → stmt_known known (view_stmt s) ≡ true → (known.has_variable v ≡ true) × (expr_known known (view_expr e) ≡ true)
  known_assign s number v e is h = and_parts (known.has_variable v) (expr_known known (view_expr e)) (subst (λ p. stmt_known known p ≡ true) (ap view_stmt is ∙ view_assigned number v e) h)

  pub known_store : (s : Stmt ℕ) (number v : ℕ) (bounds : Bounds) (index value : Expr ℕ) → s ≡ Store number v bounds index value → stmt_known known (view_stmt s) ≡ true
      → (known.has_array v bounds ≡ true) × (expr_known known (view_expr index) ≡ true) × (expr_known known (view_expr value) ≡ true)
  known_store s number v bounds index value is h =
      let p = and_parts (known.has_array v bounds) (expr_known known (view_expr index) && expr_known known (view_expr value)) (subst (λ p. stmt_known known p ≡ true) (ap view_stmt is ∙ view_stmt-Store number v bounds index value) h) in
      let q = and_parts (expr_known known (view_expr index)) (expr_known known (view_expr value)) p.1 in
      (p.0, q.0, q.1)

  pub known_call : (s : Stmt ℕ) (number instance : ℕ) (arguments : Vec (Argument ℕ) Global) → s ≡ Call number instance arguments → stmt_known known (view_stmt s) ≡ true
      → (known.has_instance instance ≡ true) × (list_all (argument_known known instance) (map view_argument arguments.items) ≡ true)
  known_call s number instance arguments is h =
      and_parts (known.has_instance instance) (list_all (argument_known known instance) (map view_argument arguments.items)) (subst (λ p. stmt_known known p ≡ true) (ap view_stmt is ∙ view_stmt-Call number instance arguments) h)

  pub known_if : (s : Stmt ℕ) (number : ℕ) (branches : Vec (Branch ℕ) Global) (last : Vec (Stmt ℕ) Global) → s ≡ If number branches last → stmt_known known (view_stmt s) ≡ true
      → (branches_known known (view_branches branches.items) ≡ true) × (body_known known (view_body last.items) ≡ true)
  known_if s number branches last is h =
      and_parts (branches_known known (view_branches branches.items)) (body_known known (view_body last.items)) (subst (λ p. stmt_known known p ≡ true) (ap view_stmt is ∙ view_stmt-If number branches last) h)

  pub known_case : (s : Stmt ℕ) (number : ℕ) (selector : Expr ℕ) (choices : Vec (Choice ℕ) Global) (last : Vec (Stmt ℕ) Global) → s ≡ Case number selector choices last → stmt_known known (view_stmt s) ≡ true
      → (expr_known known (view_expr selector) ≡ true) × (choices_known known (view_choices choices.items) ≡ true) × (body_known known (view_body last.items) ≡ true)
  known_case s number selector choices last is h =
      let parts = subst (λ p. stmt_known known p ≡ true) (ap view_stmt is ∙ view_stmt-Case number selector choices last) h in
      let p = and_parts (expr_known known (view_expr selector)) (choices_known known (view_choices choices.items) && body_known known (view_body last.items)) parts in
      let q = and_parts (choices_known known (view_choices choices.items)) (body_known known (view_body last.items)) p.1 in
      (p.0, q.0, q.1)

  pub known_for : (s : Stmt ℕ) (number v : ℕ) (from to : Expr ℕ) (by : Option (Expr ℕ)) (body : Vec (Stmt ℕ) Global) → s ≡ For number v from to by body → stmt_known known (view_stmt s) ≡ true
      → (known.has_variable v ≡ true) × (body_known known (view_body body.items) ≡ true)
  known_for s number v from to by body is h =
      let known_from = expr_known known (view_expr from) in
      let known_to = expr_known known (view_expr to) in
      let known_by = option_known known (view_option by) in
      let inside = body_known known (view_body body.items) in
      let parts = subst (λ p. stmt_known known p ≡ true) (ap view_stmt is ∙ view_stmt-For number v from to by body) h in
      let p = and_parts (known.has_variable v) (known_from && (known_to && (known_by && inside))) parts in
      let q = and_parts known_from (known_to && (known_by && inside)) p.1 in
      let r = and_parts known_to (known_by && inside) q.1 in
      (p.0, (and_parts known_by inside r.1).1)

called_where : (b x : Bool) → b ≡ true → (if b then x else true) ≡ true → x ≡ true
called_where b x on h = subst (λ (z : Bool). (if z then x else true) ≡ true) on h

-- what a call of an instance names
module _ (s : PlacedRoutine) (instance : ℕ) (seat : Seat) (at : slice_get s.seats.now instance ≡ Some seat) (there : (named s).has_instance instance ≡ true) where
  abbrev inner : ℕ → Base → Bool
  inner = frame_there fits fits s.globals s.frames.now s.limit

  called : (of : SeatOf) → seat.of ≡ of → has_called fits fits inner of s.base seat ≡ true
  called of is = subst (λ o. has_called fits fits inner o s.base seat ≡ true) is (subst (λ (o : Option Seat). has_instance fits fits inner o s.base ≡ true) at there)

  pub known_standard : (of : Standard) → seat.of ≡ seat_of.Standard of → (fits (s.base.clocks + seat.clocks) ≡ true) × (fits (member_slot s.base seat 0) ≡ true) × (has_pt fits fits of s.base seat ≡ true)
  known_standard of is =
      let p = and_parts (fits (s.base.clocks + seat.clocks)) (fits (member_slot s.base seat 0) && has_pt fits fits of s.base seat) (called (seat_of.Standard of) is) in
      let q = and_parts (fits (member_slot s.base seat 0)) (has_pt fits fits of s.base seat) p.1 in
      (p.0, q.0, q.1)

  pub known_frame : (k : ℕ) (base : Base) → seat.of ≡ seat_of.Frame k → seat.is_called ≡ true → base ≡ base_of s.base seat → inner k base ≡ true
  known_frame k base is on base_is = subst (λ (b : Base). inner k b ≡ true) (sym base_is) (called_where seat.is_called (inner k (base_of s.base seat)) on (called (seat_of.Frame k) is))
