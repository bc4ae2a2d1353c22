-- The plain tree of a tree of the code.
use Rattle.std.specs.Prelude.{List, [], ◌∷◌, Option, Some, None, map}
use Rattle.st_tree.specs.declared.tree.Label.{Label}
use Rattle.st_tree.specs.declared.tree.Expr.{Expr, fold-Expr}
use Rattle.st_tree.specs.declared.tree.Expr.TheOpen.{Expr-F}
use Rattle.st_tree.specs.declared.tree.Argument.{Argument}
use Rattle.st_tree.specs.declared.tree.Argument.TheVariants as argument
use Rattle.st_tree.specs.declared.tree.Stmt.{Stmt, fold-Stmt}
use Rattle.st_tree.specs.declared.tree.Branch.{Branch, fold-Branch}
use Rattle.st_tree.specs.declared.tree.Choice.{Choice, fold-Choice}
use Rattle.st_tree.specs.declared.tree.Stmt.TheOpen.{Stmt-F, Branch-F, Choice-F}
use Rattle.st_tree.specs.Plain.{PlainExpr, literal, read, output_of, element, unary, binary, PlainArgument, input, output}
use Rattle.st_tree.specs.Plain.{PlainStmt, empty, assign, store, call, if_else, case_of, for_to, PlainBody, done, next, Branches, no_branch, branch, Choices, no_choice, choice}

module _ {V : Type 0} where
  abbrev pub view_expr_step : Expr-F V (PlainExpr V) → PlainExpr V
  view_expr_step (Expr-F.Literal n) = literal n
  view_expr_step (Expr-F.Read v) = read v
  view_expr_step (Expr-F.Output instance name) = output_of instance name
  view_expr_step (Expr-F.Element v bounds index) = element v bounds index.value
  view_expr_step (Expr-F.Unary op a) = unary op a.value
  view_expr_step (Expr-F.Binary op a b) = binary op a.value b.value

  -- the plain expression of an expression
  abbrev pub view_expr : Expr V → PlainExpr V
  view_expr = fold-Expr V (PlainExpr V) view_expr_step

  -- the plain expression of an expression that may be left out
  abbrev pub view_option : Option (Expr V) → Option (PlainExpr V)
  view_option None = None
  view_option (Some e) = Some (view_expr e)

  -- the plain argument of an argument
  abbrev pub view_argument : Argument V → PlainArgument V
  view_argument (argument.Input v e) = input v (view_expr e)
  view_argument (argument.Output name v) = output name v

  abbrev pub body_of : List (PlainStmt V) → PlainBody V
  body_of [] = done
  body_of (s ∷ rest) = next s (body_of rest)

  abbrev pub branches_of : List (PlainExpr V × PlainBody V) → Branches V
  branches_of [] = no_branch
  branches_of (b ∷ rest) = branch b.0 b.1 (branches_of rest)

  abbrev pub choices_of : List (List Label × PlainBody V) → Choices V
  choices_of [] = no_choice
  choices_of (c ∷ rest) = choice c.0 c.1 (choices_of rest)

  abbrev pub view_branch_step : Branch-F V (PlainStmt V) (PlainExpr V × PlainBody V) (List Label × PlainBody V) → PlainExpr V × PlainBody V
  view_branch_step b = (view_expr b.test, body_of b.body.items)

  abbrev pub view_choice_step : Choice-F V (PlainStmt V) (PlainExpr V × PlainBody V) (List Label × PlainBody V) → List Label × PlainBody V
  view_choice_step c = (c.labels.items, body_of c.body.items)

  abbrev pub view_step : Stmt-F V (PlainStmt V) (PlainExpr V × PlainBody V) (List Label × PlainBody V) → PlainStmt V
  view_step (Stmt-F.Empty number) = empty number
  view_step (Stmt-F.Assign number v e) = assign number v (view_expr e)
  view_step (Stmt-F.Store number v bounds index value) = store number v bounds (view_expr index) (view_expr value)
  view_step (Stmt-F.Call number v arguments) = call number v (map view_argument arguments.items)
  view_step (Stmt-F.If number branches last) = if_else number (branches_of branches.items) (body_of last.items)
  view_step (Stmt-F.Case number e choices last) = case_of number (view_expr e) (choices_of choices.items) (body_of last.items)
  view_step (Stmt-F.For number v from to by body) = for_to number v (view_expr from) (view_expr to) (view_option by) (body_of body.items)

  -- the plain statement of a statement
  abbrev pub view_stmt : Stmt V → PlainStmt V
  view_stmt = fold-Stmt V (PlainStmt V) (PlainExpr V × PlainBody V) (List Label × PlainBody V) view_step view_branch_step view_choice_step

  -- the plain test and the plain body of a branch
  abbrev pub view_branch : Branch V → PlainExpr V × PlainBody V
  view_branch = fold-Branch V (PlainStmt V) (PlainExpr V × PlainBody V) (List Label × PlainBody V) view_step view_branch_step view_choice_step

  -- the labels and the plain body of a choice
  abbrev pub view_choice : Choice V → List Label × PlainBody V
  view_choice = fold-Choice V (PlainStmt V) (PlainExpr V × PlainBody V) (List Label × PlainBody V) view_step view_branch_step view_choice_step

  -- the plain body of a list of statements
  abbrev pub view_body : List (Stmt V) → PlainBody V
  view_body body = body_of (map view_stmt body)

  abbrev pub view_branches : List (Branch V) → Branches V
  view_branches branches = branches_of (map view_branch branches)

  abbrev pub view_choices : List (Choice V) → Choices V
  view_choices choices = choices_of (map view_choice choices)
