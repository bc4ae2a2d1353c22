-- A rule of each statement, one item after another.
use Rattle.std.proofs.Common.{◌≡◌, ◌∙◌, ap, sym, ℕ, ◌+◌, ◌<◌, Bool, true, false, List, drop, length, get_or}
use Rattle.std.specs.Prelude.{◌&&◌, Vec, Option}
use Rattle.std.specs.declared.alloc.Global.{Global}
use Rattle.std.proofs.lemmas.List.{at_drop_more}
use Rattle.st_tree.specs.declared.tree.Expr.{Expr}
use Rattle.st_tree.specs.declared.tree.Branch.{Branch}
use Rattle.st_tree.specs.declared.tree.Choice.{Choice}
use Rattle.st_tree.specs.declared.tree.Stmt.{Stmt, If, Case, For}
use Rattle.st_tree.specs.Plain.{PlainStmt}
use Rattle.st_tree.specs.View.{view_stmt, view_body, view_branch, view_branches, view_choice, view_choices}
use Rattle.st_tree.specs.Every.{every, every_inside, every_branch, every_choice}
use Rattle.st_tree.proofs.Views.{view_branch_is, view_choice_is, view_stmt-If, view_stmt-Case, view_stmt-For}

module _ {V : Type 0} (rule : PlainStmt V → Bool) where
  pub stmt_kept : (xs : List (Stmt V)) (i : ℕ) (x : Stmt V) → i < length xs → x ≡ get_or xs i x → rule (view_stmt x) ≡ true → every_inside rule (view_stmt x) ≡ true → every rule (view_body (drop i xs)) ≡ every rule (view_body xs)
      → every rule (view_body (drop (i + 1) xs)) ≡ every rule (view_body xs)
  stmt_kept xs i x within is keeps inside before =
      let first : rule (view_stmt (get_or xs i x)) ≡ true = ap (λ s. rule (view_stmt s)) (sym is) ∙ keeps in
      let inner : every_inside rule (view_stmt (get_or xs i x)) ≡ true = ap (λ s. every_inside rule (view_stmt s)) (sym is) ∙ inside in
      let one : every rule (view_body (drop i xs)) ≡ every rule (view_body (drop (i + 1) xs)) =
      at_drop_more (λ l. every rule (view_body l)) xs i x within ∙ (λ j. first j && (inner j && every rule (view_body (drop (i + 1) xs)))) in
      sym one ∙ before

  pub stmt_broken : (xs : List (Stmt V)) (i : ℕ) (x : Stmt V) → i < length xs → x ≡ get_or xs i x → rule (view_stmt x) ≡ false → every rule (view_body (drop i xs)) ≡ every rule (view_body xs) → false ≡ every rule (view_body xs)
  stmt_broken xs i x within is broken before =
      let first : rule (view_stmt (get_or xs i x)) ≡ false = ap (λ s. rule (view_stmt s)) (sym is) ∙ broken in
      let one : every rule (view_body (drop i xs)) ≡ false =
      at_drop_more (λ l. every rule (view_body l)) xs i x within ∙ (λ j. first j && (every_inside rule (view_stmt (get_or xs i x)) && every rule (view_body (drop (i + 1) xs)))) in
      sym one ∙ before

  pub inside_broken : (xs : List (Stmt V)) (i : ℕ) (x : Stmt V) → i < length xs → x ≡ get_or xs i x → rule (view_stmt x) ≡ true → every_inside rule (view_stmt x) ≡ false → every rule (view_body (drop i xs)) ≡ every rule (view_body xs)
      → false ≡ every rule (view_body xs)
  inside_broken xs i x within is keeps broken before =
      let first : rule (view_stmt (get_or xs i x)) ≡ true = ap (λ s. rule (view_stmt s)) (sym is) ∙ keeps in
      let inner : every_inside rule (view_stmt (get_or xs i x)) ≡ false = ap (λ s. every_inside rule (view_stmt s)) (sym is) ∙ broken in
      let one : every rule (view_body (drop i xs)) ≡ false =
      at_drop_more (λ l. every rule (view_body l)) xs i x within ∙ (λ j. first j && (inner j && every rule (view_body (drop (i + 1) xs)))) in
      sym one ∙ before

  branch_first : (xs : List (Branch V)) (i : ℕ) (x : Branch V) (keeps : Bool) → x ≡ get_or xs i x → every rule (view_body x.body.items) ≡ keeps → every rule (view_branch (get_or xs i x)).1 ≡ keeps
  branch_first xs i x keeps is kept = ap (λ b. every rule (view_branch b).1) (sym is) ∙ ap (λ p. every rule p.1) (view_branch_is x) ∙ kept

  pub branch_kept : (xs : List (Branch V)) (i : ℕ) (x : Branch V) → i < length xs → x ≡ get_or xs i x → every rule (view_body x.body.items) ≡ true → every_branch rule (view_branches (drop i xs)) ≡ every_branch rule (view_branches xs)
      → every_branch rule (view_branches (drop (i + 1) xs)) ≡ every_branch rule (view_branches xs)
  branch_kept xs i x within is kept before =
      let first = branch_first xs i x true is kept in
      let one : every_branch rule (view_branches (drop i xs)) ≡ every_branch rule (view_branches (drop (i + 1) xs)) =
      at_drop_more (λ l. every_branch rule (view_branches l)) xs i x within ∙ (λ j. first j && every_branch rule (view_branches (drop (i + 1) xs))) in
      sym one ∙ before

  pub branch_broken : (xs : List (Branch V)) (i : ℕ) (x : Branch V) → i < length xs → x ≡ get_or xs i x → every rule (view_body x.body.items) ≡ false → every_branch rule (view_branches (drop i xs)) ≡ every_branch rule (view_branches xs)
      → false ≡ every_branch rule (view_branches xs)
  branch_broken xs i x within is broken before =
      let first = branch_first xs i x false is broken in
      let one : every_branch rule (view_branches (drop i xs)) ≡ false =
      at_drop_more (λ l. every_branch rule (view_branches l)) xs i x within ∙ (λ j. first j && every_branch rule (view_branches (drop (i + 1) xs))) in
      sym one ∙ before

  choice_first : (xs : List (Choice V)) (i : ℕ) (x : Choice V) (keeps : Bool) → x ≡ get_or xs i x → every rule (view_body x.body.items) ≡ keeps → every rule (view_choice (get_or xs i x)).1 ≡ keeps
  choice_first xs i x keeps is kept = ap (λ b. every rule (view_choice b).1) (sym is) ∙ ap (λ p. every rule p.1) (view_choice_is x) ∙ kept

  pub choice_kept : (xs : List (Choice V)) (i : ℕ) (x : Choice V) → i < length xs → x ≡ get_or xs i x → every rule (view_body x.body.items) ≡ true → every_choice rule (view_choices (drop i xs)) ≡ every_choice rule (view_choices xs)
      → every_choice rule (view_choices (drop (i + 1) xs)) ≡ every_choice rule (view_choices xs)
  choice_kept xs i x within is kept before =
      let first = choice_first xs i x true is kept in
      let one : every_choice rule (view_choices (drop i xs)) ≡ every_choice rule (view_choices (drop (i + 1) xs)) =
      at_drop_more (λ l. every_choice rule (view_choices l)) xs i x within ∙ (λ j. first j && every_choice rule (view_choices (drop (i + 1) xs))) in
      sym one ∙ before

  pub choice_broken : (xs : List (Choice V)) (i : ℕ) (x : Choice V) → i < length xs → x ≡ get_or xs i x → every rule (view_body x.body.items) ≡ false → every_choice rule (view_choices (drop i xs)) ≡ every_choice rule (view_choices xs)
      → false ≡ every_choice rule (view_choices xs)
  choice_broken xs i x within is broken before =
      let first = choice_first xs i x false is broken in
      let one : every_choice rule (view_choices (drop i xs)) ≡ false =
      at_drop_more (λ l. every_choice rule (view_choices l)) xs i x within ∙ (λ j. first j && every_choice rule (view_choices (drop (i + 1) xs))) in
      sym one ∙ before

  pub inside-If : (number : ℕ) (branches : Vec (Branch V) Global) (last : Vec (Stmt V) Global) (s : Stmt V) → s ≡ If number branches last → every_branch rule (view_branches branches.items) ≡ true
      → every rule (view_body last.items) ≡ every_inside rule (view_stmt s)
  inside-If number branches last s is kept =
      sym (ap (λ z. every_inside rule (view_stmt z)) is ∙ ap (every_inside rule) (view_stmt-If number branches last) ∙ ap (λ b. b && every rule (view_body last.items)) kept)

  pub inside-Case : (number : ℕ) (selector : Expr V) (choices : Vec (Choice V) Global) (last : Vec (Stmt V) Global) (s : Stmt V) → s ≡ Case number selector choices last → every_choice rule (view_choices choices.items) ≡ true
      → every rule (view_body last.items) ≡ every_inside rule (view_stmt s)
  inside-Case number selector choices last s is kept =
      sym (ap (λ z. every_inside rule (view_stmt z)) is ∙ ap (every_inside rule) (view_stmt-Case number selector choices last) ∙ ap (λ b. b && every rule (view_body last.items)) kept)

  pub inside-For : (number : ℕ) (v : V) (from to : Expr V) (by : Option (Expr V)) (body : Vec (Stmt V) Global) (s : Stmt V) → s ≡ For number v from to by body
      → every rule (view_body body.items) ≡ every_inside rule (view_stmt s)
  inside-For number v from to by body s is = sym (ap (λ z. every_inside rule (view_stmt z)) is ∙ ap (every_inside rule) (view_stmt-For number v from to by body))
