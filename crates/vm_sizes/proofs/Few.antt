-- The instructions of the parts are some of those of the whole.
use Rattle.std.proofs.Common.{◌≡◌, ◌∙◌, ap, sym, ℕ, zero, suc, ◌+◌, ◌<◌, ◌≤◌, List, [], ◌∷◌, Option, length, get_or, drop, drop-cons, map, max, arith}
use Rattle.std.specs.Prelude.{Vec, slice_get}
use Rattle.std.proofs.lemmas.List.{at_drop_more}
use Rattle.std.specs.declared.alloc.Global.{Global}
use Rattle.st_tree.specs.declared.tree.Argument.{Argument}
use Rattle.st_tree.specs.declared.tree.Label.{Label}
use Rattle.st_tree.specs.declared.tree.Branch.{Branch}
use Rattle.st_tree.specs.declared.tree.Choice.{Choice}
use Rattle.st_tree.specs.declared.tree.Expr.{Expr}
use Rattle.st_tree.specs.declared.tree.Stmt.{Stmt, Call, If, Case, For}
use Rattle.st_tree.specs.Plain.{PlainExpr, literal, read, output_of, element, unary, binary, PlainBody, Branches, no_branch, branch, Choices, no_choice, choice}
use Rattle.st_tree.specs.View.{view_expr, view_option, view_argument, view_stmt, view_body, view_branch, view_branches, view_choice, view_choices}
use Rattle.st_tree.proofs.Views.{view_branch_is, view_choice_is, view_stmt-Call, view_stmt-If, view_stmt-Case, view_stmt-For}
use Rattle.logic_walk.specs.declared.frame.Seat.{Seat}
use Rattle.vm_sizes.specs.Sizes.{binary_lines, expr_lines, expr_words, stmt_words, body_words, branches_words, choices_words, inputs_lines, outputs_lines, entered, choice_lines, for_lines, frame_turns, stmt_lines, body_lines, branches_lines, choices_lines}

-- the operands of an operator
pub left_few : (b : PlainExpr ℕ) (m n : ℕ) → m ≤ binary_lines b m n
left_few (literal x) m n = omega arith
left_few (read v) m n = omega arith
left_few (output_of instance name) m n = omega arith
left_few (element v bounds index) m n = omega arith
left_few (unary op a) m n = omega arith
left_few (binary op a b) m n = omega arith

pub right_few : (b : PlainExpr ℕ) (m : ℕ) → 0 < m → expr_lines b ≤ binary_lines b m (expr_lines b)
right_few (literal x) m some = omega arith
right_few (read v) m some = omega arith
right_few (output_of instance name) m some = omega arith
right_few (element v bounds index) m some = omega arith
right_few (unary op a) m some = omega arith
right_few (binary op a b) m some = omega arith

-- a choice with a label
pub labelled : (labels : List Label) (b n : ℕ) → 0 < length labels → choice_lines labels b n ≡ length labels + 1 + (b + 1 + n)
labelled [] b n some = absurd (omega arith)
labelled (label ∷ labels) b n some = omega arith

-- a FOR of some turns
pub turning : (turns b : ℕ) → 0 < turns → for_lines turns b ≡ b + 2
turning zero b some = absurd (omega arith)
turning (suc n) b some = omega arith

-- the arguments of a call from one on
pub inputs_at : (seat : Option Seat) (arguments : List (Argument ℕ)) (i : ℕ) (x : Argument ℕ) → i < length arguments → x ≡ get_or arguments i x
    → inputs_lines seat (map view_argument (drop i arguments)) ≡ inputs_lines seat (view_argument x ∷ map view_argument (drop (i + 1) arguments))
inputs_at seat arguments i x within is =
    ap (λ (l : List (Argument ℕ)). inputs_lines seat (map view_argument l)) (drop-cons arguments i x within)
    ∙ ap (λ y. inputs_lines seat (view_argument y ∷ map view_argument (drop (suc i) arguments))) (sym is)
    ∙ ap (λ n. inputs_lines seat (view_argument x ∷ map view_argument (drop n arguments))) (let e : suc i ≡ i + 1 = omega arith in e)

module _ (seats : List Seat) (inner : ℕ → ℕ) where
  -- a body from a statement on, and branches and choices from one on
  pub body_at : (body : List (Stmt ℕ)) (i : ℕ) (x : Stmt ℕ) → i < length body → x ≡ get_or body i x
      → body_lines seats inner (view_body (drop i body)) ≡ stmt_lines seats inner (view_stmt x) + body_lines seats inner (view_body (drop (i + 1) body))
  body_at body i x within is =
      ap (λ (b : List (Stmt ℕ)). body_lines seats inner (view_body b)) (drop-cons body i x within)
      ∙ ap (λ y. stmt_lines seats inner (view_stmt y) + body_lines seats inner (view_body (drop (suc i) body))) (sym is)
      ∙ ap (λ n. stmt_lines seats inner (view_stmt x) + body_lines seats inner (view_body (drop n body))) (let e : suc i ≡ i + 1 = omega arith in e)

  pub branch_at : (branches : List (Branch ℕ)) (i n : ℕ) (b : Branch ℕ) → i < length branches → b ≡ get_or branches i b
      → branches_lines seats inner (view_branches (drop i branches)) n ≡ expr_lines (view_branch b).0 + 1 + (body_lines seats inner (view_branch b).1 + 1 + branches_lines seats inner (view_branches (drop (i + 1) branches)) n)
  branch_at branches i n b within is =
      ap (λ (l : List (Branch ℕ)). branches_lines seats inner (view_branches l) n) (drop-cons branches i b within)
      ∙ ap (λ (y : Branch ℕ). expr_lines (view_branch y).0 + 1 + (body_lines seats inner (view_branch y).1 + 1 + branches_lines seats inner (view_branches (drop (suc i) branches)) n)) (sym is)
      ∙ ap (λ m. expr_lines (view_branch b).0 + 1 + (body_lines seats inner (view_branch b).1 + 1 + branches_lines seats inner (view_branches (drop m branches)) n)) (let e : suc i ≡ i + 1 = omega arith in e)

  pub choice_at : (choices : List (Choice ℕ)) (i n : ℕ) (c : Choice ℕ) → i < length choices → c ≡ get_or choices i c
      → choices_lines seats inner (view_choices (drop i choices)) n ≡ choice_lines (view_choice c).0 (body_lines seats inner (view_choice c).1) (choices_lines seats inner (view_choices (drop (i + 1) choices)) n)
  choice_at choices i n c within is =
      ap (λ (l : List (Choice ℕ)). choices_lines seats inner (view_choices l) n) (drop-cons choices i c within)
      ∙ ap (λ (y : Choice ℕ). choice_lines (view_choice y).0 (body_lines seats inner (view_choice y).1) (choices_lines seats inner (view_choices (drop (suc i) choices)) n)) (sym is)
      ∙ ap (λ m. choice_lines (view_choice c).0 (body_lines seats inner (view_choice c).1) (choices_lines seats inner (view_choices (drop m choices)) n)) (let e : suc i ≡ i + 1 = omega arith in e)

  -- a branch and a choice by their own test, labels and body
  pub branch_whole : (branches : List (Branch ℕ)) (i n : ℕ) (b : Branch ℕ) → i < length branches → b ≡ get_or branches i b
      → branches_lines seats inner (view_branches (drop i branches)) n ≡ expr_lines (view_expr b.test) + 1 + (body_lines seats inner (view_body b.body.items) + 1 + branches_lines seats inner (view_branches (drop (i + 1) branches)) n)
  branch_whole branches i n b within is =
      branch_at branches i n b within is ∙ ap (λ (p : PlainExpr ℕ × PlainBody ℕ). expr_lines p.0 + 1 + (body_lines seats inner p.1 + 1 + branches_lines seats inner (view_branches (drop (i + 1) branches)) n)) (view_branch_is b)

  pub choice_whole : (choices : List (Choice ℕ)) (i n : ℕ) (c : Choice ℕ) → i < length choices → c ≡ get_or choices i c → 0 < length c.labels.items
      → choices_lines seats inner (view_choices (drop i choices)) n ≡ length c.labels.items + 1 + (body_lines seats inner (view_body c.body.items) + 1 + choices_lines seats inner (view_choices (drop (i + 1) choices)) n)
  choice_whole choices i n c within is some =
      choice_at choices i n c within is
      ∙ ap (λ (p : List Label × PlainBody ℕ). choice_lines p.0 (body_lines seats inner p.1) (choices_lines seats inner (view_choices (drop (i + 1) choices)) n)) (view_choice_is c)
      ∙ labelled c.labels.items (body_lines seats inner (view_body c.body.items)) (choices_lines seats inner (view_choices (drop (i + 1) choices)) n) some

  -- the words of stack of a body from a statement on, and of branches and choices from one on
  pub words_at_stmt : (body : List (Stmt ℕ)) (i : ℕ) (x : Stmt ℕ) → i < length body → x ≡ get_or body i x
      → body_words seats inner (view_body (drop i body)) ≡ max (stmt_words seats inner (view_stmt x)) (body_words seats inner (view_body (drop (i + 1) body)))
  words_at_stmt body i x within is =
      at_drop_more (λ l. body_words seats inner (view_body l)) body i x within ∙ ap (λ y. max (stmt_words seats inner (view_stmt y)) (body_words seats inner (view_body (drop (i + 1) body)))) (sym is)

  pub words_at_branch : (branches : List (Branch ℕ)) (i : ℕ) (b : Branch ℕ) → i < length branches → b ≡ get_or branches i b
      → branches_words seats inner (view_branches (drop i branches)) ≡ max (expr_words (view_expr b.test)) (max (body_words seats inner (view_body b.body.items)) (branches_words seats inner (view_branches (drop (i + 1) branches))))
  words_at_branch branches i b within is =
      at_drop_more (λ l. branches_words seats inner (view_branches l)) branches i b within
      ∙ ap (λ (p : PlainExpr ℕ × PlainBody ℕ). max (expr_words p.0) (max (body_words seats inner p.1) (branches_words seats inner (view_branches (drop (i + 1) branches))))) (ap view_branch (sym is) ∙ view_branch_is b)

  pub words_at_choice : (choices : List (Choice ℕ)) (i : ℕ) (c : Choice ℕ) → i < length choices → c ≡ get_or choices i c
      → choices_words seats inner (view_choices (drop i choices)) ≡ max (body_words seats inner (view_body c.body.items)) (choices_words seats inner (view_choices (drop (i + 1) choices)))
  words_at_choice choices i c within is =
      at_drop_more (λ l. choices_words seats inner (view_choices l)) choices i c within
      ∙ ap (λ (p : List Label × PlainBody ℕ). max (body_words seats inner p.1) (choices_words seats inner (view_choices (drop (i + 1) choices)))) (ap view_choice (sym is) ∙ view_choice_is c)

  -- what follows branches, and choices
  pub behind_branches : (branches : Branches ℕ) (n : ℕ) → n ≤ branches_lines seats inner branches n
  behind_branches no_branch n = omega arith
  behind_branches (branch test body rest) n = let h = behind_branches rest n in omega (arith, h)

  behind_choice : (labels : List Label) (b n m : ℕ) → n ≤ m → n ≤ choice_lines labels b m
  behind_choice [] b n m h = h
  behind_choice (label ∷ labels) b n m h = omega (arith, h)

  pub behind_choices : (choices : Choices ℕ) (n : ℕ) → n ≤ choices_lines seats inner choices n
  behind_choices no_choice n = omega arith
  behind_choices (choice labels body rest) n = behind_choice labels (body_lines seats inner body) n (choices_lines seats inner rest n) (behind_choices rest n)

  -- the parts of a statement
  pub long_call : (x : Stmt ℕ) (number instance : ℕ) (arguments : Vec (Argument ℕ) Global) → x ≡ Call number instance arguments
      → stmt_lines seats inner (view_stmt x) ≡ inputs_lines (slice_get seats instance) (map view_argument arguments.items) + entered 2 inner (slice_get seats instance) + outputs_lines (map view_argument arguments.items)
  long_call x number instance arguments is = ap (stmt_lines seats inner) (ap view_stmt is ∙ view_stmt-Call number instance arguments)

  pub long_if : (x : Stmt ℕ) (number : ℕ) (branches : Vec (Branch ℕ) Global) (last : Vec (Stmt ℕ) Global) → x ≡ If number branches last
      → stmt_lines seats inner (view_stmt x) ≡ branches_lines seats inner (view_branches branches.items) (body_lines seats inner (view_body last.items))
  long_if x number branches last is = ap (stmt_lines seats inner) (ap view_stmt is ∙ view_stmt-If number branches last)

  pub long_case : (x : Stmt ℕ) (number : ℕ) (selector : Expr ℕ) (choices : Vec (Choice ℕ) Global) (last : Vec (Stmt ℕ) Global) → x ≡ Case number selector choices last
      → stmt_lines seats inner (view_stmt x) ≡ expr_lines (view_expr selector) + choices_lines seats inner (view_choices choices.items) (body_lines seats inner (view_body last.items))
  long_case x number selector choices last is = ap (stmt_lines seats inner) (ap view_stmt is ∙ view_stmt-Case number selector choices last)

  pub long_for : (x : Stmt ℕ) (number v : ℕ) (from to : Expr ℕ) (by : Option (Expr ℕ)) (body : Vec (Stmt ℕ) Global) → x ≡ For number v from to by body
      → stmt_lines seats inner (view_stmt x) ≡ for_lines (frame_turns (view_expr from) (view_expr to) (view_option by)) (body_lines seats inner (view_body body.items))
  long_for x number v from to by body is = ap (stmt_lines seats inner) (ap view_stmt is ∙ view_stmt-For number v from to by body)
