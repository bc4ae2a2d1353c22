-- The plain tree of each form of an expression and of a statement, and of one more item of a list.
use Rattle.std.proofs.Common.{◌≡◌, ℕ, List, [], ◌∷◌, ◌++◌, ◌+◌, ◌<◌, map, take, length, get_or, sym, ap, ◌∙◌}
use Rattle.std.proofs.lemmas.List.{take_more, map_push}
use Rattle.std.specs.Prelude.{Box, Vec, Option}
use Rattle.std.specs.declared.alloc.Global.{Global}
use Rattle.plant_types.specs.declared.values.Bounds.{Bounds}
use Rattle.st_tree.specs.declared.tree.Unary.{Unary}
use Rattle.st_tree.specs.declared.tree.Binary.{Binary}
use Rattle.st_tree.specs.declared.tree.Label.{Label}
use Rattle.st_tree.specs.declared.tree.Literal.{Literal}
use Rattle.st_tree.specs.declared.tree.Argument.{Argument}
use Rattle.st_tree.specs.declared.tree.Expr.{Expr, fold-roll-Expr}
use Rattle.st_tree.specs.declared.tree.Expr.TheOpen.{Expr-F}
use Rattle.st_tree.specs.declared.tree.Expr.TheVariants as expr
use Rattle.st_tree.specs.declared.tree.Expr.TheVariants.{rolls-Literal, rolls-Read, rolls-Output, rolls-Element, rolls-Unary, rolls-Binary}
use Rattle.st_tree.specs.declared.tree.Branch.{Branch, roll-Branch, fold-roll-Branch, fold_out-Branch}
use Rattle.st_tree.specs.declared.tree.Choice.{Choice, roll-Choice, fold-roll-Choice, fold_out-Choice}
use Rattle.st_tree.specs.declared.tree.Stmt.{Stmt, Empty, Assign, Store, Call, If, Case, For, fold-roll-Stmt}
use Rattle.st_tree.specs.declared.tree.Stmt.TheOpen.{Stmt-F}
use Rattle.st_tree.specs.declared.tree.Stmt.TheVariants.{rolls-Empty, rolls-Assign, rolls-Store, rolls-Call, rolls-If, rolls-Case, rolls-For}
use Rattle.st_tree.specs.Plain.{PlainExpr, literal, read, output_of, element, unary, binary, PlainStmt, PlainBody, empty, assign, store, call, if_else, case_of, for_to}
use Rattle.st_tree.specs.View.{view_expr_step, view_step, view_branch_step, view_choice_step, view_expr, view_option, view_argument, view_stmt, view_body, view_branch, view_branches, view_choice, view_choices}

module _ {V : Type 0} where
  pub view_expr-Literal : (n : Literal) → view_expr {V = V} (expr.Literal n) ≡ literal n
  view_expr-Literal n = ap view_expr (sym (rolls-Literal n)) ∙ fold-roll-Expr V (PlainExpr V) view_expr_step (Expr-F.Literal n)

  pub view_expr-Read : (v : V) → view_expr (expr.Read v) ≡ read v
  view_expr-Read v = ap view_expr (sym (rolls-Read v)) ∙ fold-roll-Expr V (PlainExpr V) view_expr_step (Expr-F.Read v)

  pub view_expr-Output : (instance name : V) → view_expr (expr.Output instance name) ≡ output_of instance name
  view_expr-Output instance name = ap view_expr (sym (rolls-Output instance name)) ∙ fold-roll-Expr V (PlainExpr V) view_expr_step (Expr-F.Output instance name)

  pub view_expr-Element : (v : V) (bounds : Bounds) (index : Box (Expr V) Global) → view_expr (expr.Element v bounds index) ≡ element v bounds (view_expr index.value)
  view_expr-Element v bounds index = ap view_expr (sym (rolls-Element v bounds index)) ∙ fold-roll-Expr V (PlainExpr V) view_expr_step (Expr-F.Element v bounds index)

  pub view_expr-Unary : (op : Unary) (a : Box (Expr V) Global) → view_expr (expr.Unary op a) ≡ unary op (view_expr a.value)
  view_expr-Unary op a = ap view_expr (sym (rolls-Unary op a)) ∙ fold-roll-Expr V (PlainExpr V) view_expr_step (Expr-F.Unary op a)

  pub view_expr-Binary : (op : Binary) (a b : Box (Expr V) Global) → view_expr (expr.Binary op a b) ≡ binary op (view_expr a.value) (view_expr b.value)
  view_expr-Binary op a b = ap view_expr (sym (rolls-Binary op a b)) ∙ fold-roll-Expr V (PlainExpr V) view_expr_step (Expr-F.Binary op a b)

  pub view_stmt-Empty : (number : ℕ) → view_stmt {V = V} (Empty number) ≡ empty number
  view_stmt-Empty number =
      ap view_stmt (sym (rolls-Empty number)) ∙ fold-roll-Stmt V (PlainStmt V) (PlainExpr V × PlainBody V) (List Label × PlainBody V) view_step view_branch_step view_choice_step (Stmt-F.Empty number)

  pub view_stmt-Assign : (number : ℕ) (v : V) (e : Expr V) → view_stmt (Assign number v e) ≡ assign number v (view_expr e)
  view_stmt-Assign number v e =
      ap view_stmt (sym (rolls-Assign number v e)) ∙ fold-roll-Stmt V (PlainStmt V) (PlainExpr V × PlainBody V) (List Label × PlainBody V) view_step view_branch_step view_choice_step (Stmt-F.Assign number v e)

  pub view_stmt-Store : (number : ℕ) (v : V) (bounds : Bounds) (index value : Expr V) → view_stmt (Store number v bounds index value) ≡ store number v bounds (view_expr index) (view_expr value)
  view_stmt-Store number v bounds index value =
      ap view_stmt (sym (rolls-Store number v bounds index value))
      ∙ fold-roll-Stmt V (PlainStmt V) (PlainExpr V × PlainBody V) (List Label × PlainBody V) view_step view_branch_step view_choice_step (Stmt-F.Store number v bounds index value)

  pub view_stmt-Call : (number : ℕ) (v : V) (arguments : Vec (Argument V) Global) → view_stmt (Call number v arguments) ≡ call number v (map view_argument arguments.items)
  view_stmt-Call number v arguments =
      ap view_stmt (sym (rolls-Call number v arguments))
      ∙ fold-roll-Stmt V (PlainStmt V) (PlainExpr V × PlainBody V) (List Label × PlainBody V) view_step view_branch_step view_choice_step (Stmt-F.Call number v arguments)

  pub view_stmt-If : (number : ℕ) (branches : Vec (Branch V) Global) (last : Vec (Stmt V) Global) → view_stmt (If number branches last) ≡ if_else number (view_branches branches.items) (view_body last.items)
  view_stmt-If number branches last =
      ap view_stmt (sym (rolls-If number branches last))
      ∙ fold-roll-Stmt V (PlainStmt V) (PlainExpr V × PlainBody V) (List Label × PlainBody V) view_step view_branch_step view_choice_step (Stmt-F.If number branches last)

  pub view_stmt-Case : (number : ℕ) (selector : Expr V) (choices : Vec (Choice V) Global) (last : Vec (Stmt V) Global)
      → view_stmt (Case number selector choices last) ≡ case_of number (view_expr selector) (view_choices choices.items) (view_body last.items)
  view_stmt-Case number selector choices last =
      ap view_stmt (sym (rolls-Case number selector choices last))
      ∙ fold-roll-Stmt V (PlainStmt V) (PlainExpr V × PlainBody V) (List Label × PlainBody V) view_step view_branch_step view_choice_step (Stmt-F.Case number selector choices last)

  pub view_stmt-For : (number : ℕ) (v : V) (from to : Expr V) (by : Option (Expr V)) (body : Vec (Stmt V) Global)
      → view_stmt (For number v from to by body) ≡ for_to number v (view_expr from) (view_expr to) (view_option by) (view_body body.items)
  view_stmt-For number v from to by body =
      ap view_stmt (sym (rolls-For number v from to by body))
      ∙ fold-roll-Stmt V (PlainStmt V) (PlainExpr V × PlainBody V) (List Label × PlainBody V) view_step view_branch_step view_choice_step (Stmt-F.For number v from to by body)

  pub view_branch_is : (b : Branch V) → view_branch b ≡ (view_expr b.test, view_body b.body.items)
  view_branch_is b = fold_out-Branch V (PlainStmt V) (PlainExpr V × PlainBody V) (List Label × PlainBody V) view_step view_branch_step view_choice_step b

  pub view_branch_made : (test : Expr V) (body : Vec (Stmt V) Global) → view_branch (roll-Branch V record { test = test; body = body }) ≡ (view_expr test, view_body body.items)
  view_branch_made test body =
      fold-roll-Branch V (PlainStmt V) (PlainExpr V × PlainBody V) (List Label × PlainBody V) view_step view_branch_step view_choice_step record { test = test; body = body }

  pub view_choice_is : (c : Choice V) → view_choice c ≡ (c.labels.items, view_body c.body.items)
  view_choice_is c = fold_out-Choice V (PlainStmt V) (PlainExpr V × PlainBody V) (List Label × PlainBody V) view_step view_branch_step view_choice_step c

  pub view_choice_made : (labels : Vec Label Global) (body : Vec (Stmt V) Global) → view_choice (roll-Choice V record { labels = labels; body = body }) ≡ (labels.items, view_body body.items)
  view_choice_made labels body =
      fold-roll-Choice V (PlainStmt V) (PlainExpr V × PlainBody V) (List Label × PlainBody V) view_step view_branch_step view_choice_step record { labels = labels; body = body }

-- one more item of a list that is gone over, seen by view
pub one_more : {X Y Z : Type 0} (view : X → Z) (other : Y → Z) (xs : List X) (i : ℕ) (x : X) (ys zs : List Y) (y : Y) → i < length xs → x ≡ get_or xs i x → zs ≡ ys ++ y ∷ [] → map other ys ≡ map view (take i xs) → other y ≡ view x → map other zs ≡ map view (take (i + 1) xs)
one_more view other xs i x ys zs y within is pushed before same =
    ap (map other) pushed ∙ map_push other ys y ∙ ap (λ l. l ++ other y ∷ []) before ∙ ap (λ z. map view (take i xs) ++ z ∷ []) (same ∙ ap view is)
    ∙ sym (map_push view (take i xs) (get_or xs i x)) ∙ ap (map view) (sym (take_more xs i x within))
