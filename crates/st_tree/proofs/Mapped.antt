-- What is mapped item by item is the whole, mapped; and the mapping that changes nothing.
use Rattle.std.proofs.Common.{◌≡◌, ap, refl, List, [], ◌∷◌, map}
use Rattle.std.specs.Prelude.{Option, Some, None}
use Rattle.st_tree.specs.declared.tree.Argument.{Argument}
use Rattle.st_tree.specs.declared.tree.Branch.{Branch}
use Rattle.st_tree.specs.declared.tree.Choice.{Choice}
use Rattle.st_tree.specs.declared.tree.Label.{Label}
use Rattle.st_tree.specs.declared.tree.Stmt.{Stmt}
use Rattle.st_tree.specs.Plain.{PlainExpr, literal, read, output_of, element, unary, binary, PlainArgument, input, output}
use Rattle.st_tree.specs.Plain.{PlainStmt, empty, assign, store, call, if_else, case_of, for_to, PlainBody, done, next, Branches, no_branch, branch, Choices, no_choice, choice}
use Rattle.st_tree.specs.View.{view_argument, view_stmt, view_body, view_branch, view_branches, view_choice, view_choices, body_of, branches_of, choices_of}
use Rattle.st_tree.specs.Mapping.{Mapping, mapped_expr, mapped_option, mapped_argument, mapped_stmt, mapped_body, mapped_branches, mapped_choices, identity}

module _ {V W : Type 0} (mapping : Mapping V W) where
  abbrev pub stmt_of : Stmt V → PlainStmt W
  stmt_of s = mapped_stmt mapping (view_stmt s)

  abbrev pub mapped_pair : PlainExpr V × PlainBody V → PlainExpr W × PlainBody W
  mapped_pair b = (mapped_expr mapping b.0, mapped_body mapping b.1)

  abbrev pub branch_of : Branch V → PlainExpr W × PlainBody W
  branch_of b = mapped_pair (view_branch b)

  abbrev pub mapped_labelled : List Label × PlainBody V → List Label × PlainBody W
  mapped_labelled c = (c.0, mapped_body mapping c.1)

  abbrev pub choice_of : Choice V → List Label × PlainBody W
  choice_of c = mapped_labelled (view_choice c)

  abbrev pub argument_of : V → Argument V → PlainArgument W
  argument_of instance a = mapped_argument mapping instance (view_argument a)

  pub body_whole : (xs : List (Stmt V)) → body_of (map stmt_of xs) ≡ mapped_body mapping (view_body xs)
  body_whole [] = refl
  body_whole (x ∷ xs) = ap (next (stmt_of x)) (body_whole xs)

  pub branches_whole : (xs : List (Branch V)) → branches_of (map branch_of xs) ≡ mapped_branches mapping (view_branches xs)
  branches_whole [] = refl
  branches_whole (x ∷ xs) = ap (branch (branch_of x).0 (branch_of x).1) (branches_whole xs)

  pub choices_whole : (xs : List (Choice V)) → choices_of (map choice_of xs) ≡ mapped_choices mapping (view_choices xs)
  choices_whole [] = refl
  choices_whole (x ∷ xs) = ap (choice (choice_of x).0 (choice_of x).1) (choices_whole xs)

  pub arguments_whole : (instance : V) (xs : List (Argument V)) → map (argument_of instance) xs ≡ map (mapped_argument mapping instance) (map view_argument xs)
  arguments_whole instance [] = refl
  arguments_whole instance (x ∷ xs) = ap (λ l. argument_of instance x ∷ l) (arguments_whole instance xs)

module _ {V : Type 0} where
  pub same_expr : (e : PlainExpr V) → mapped_expr identity e ≡ e
  same_expr (literal n) = refl
  same_expr (read v) = refl
  same_expr (output_of instance name) = refl
  same_expr (element v bounds index) = ap (element v bounds) (same_expr index)
  same_expr (unary op a) = ap (unary op) (same_expr a)
  same_expr (binary op a b) = λ i. binary op (same_expr a i) (same_expr b i)

  same_option : (e : Option (PlainExpr V)) → mapped_option identity e ≡ e
  same_option None = refl
  same_option (Some e) = ap Some (same_expr e)

  same_argument : (instance : V) (a : PlainArgument V) → mapped_argument identity instance a ≡ a
  same_argument instance (input name e) = ap (input name) (same_expr e)
  same_argument instance (output name v) = refl

  same_arguments : (instance : V) (arguments : List (PlainArgument V)) → map (mapped_argument identity instance) arguments ≡ arguments
  same_arguments instance [] = refl
  same_arguments instance (a ∷ rest) = λ i. same_argument instance a i ∷ same_arguments instance rest i

  mutual
    same_stmt : (s : PlainStmt V) → mapped_stmt identity s ≡ s
    same_stmt (empty number) = refl
    same_stmt (assign number v e) = ap (assign number v) (same_expr e)
    same_stmt (store number v bounds index value) = λ i. store number v bounds (same_expr index i) (same_expr value i)
    same_stmt (call number instance arguments) = ap (call number instance) (same_arguments instance arguments)
    same_stmt (if_else number branches last) = λ i. if_else number (same_branches branches i) (same_body last i)
    same_stmt (case_of number e choices last) = λ i. case_of number (same_expr e i) (same_choices choices i) (same_body last i)
    same_stmt (for_to number v from to by body) = λ i. for_to number v (same_expr from i) (same_expr to i) (same_option by i) (same_body body i)

    pub same_body : (body : PlainBody V) → mapped_body identity body ≡ body
    same_body done = refl
    same_body (next s rest) = λ i. next (same_stmt s i) (same_body rest i)

    same_branches : (branches : Branches V) → mapped_branches identity branches ≡ branches
    same_branches no_branch = refl
    same_branches (branch test body rest) = λ i. branch (same_expr test i) (same_body body i) (same_branches rest i)

    same_choices : (choices : Choices V) → mapped_choices identity choices ≡ choices
    same_choices no_choice = refl
    same_choices (choice labels body rest) = λ i. choice labels (same_body body i) (same_choices rest i)
