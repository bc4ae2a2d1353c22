-- Folding keeps each name at its place.
use Rattle.std.proofs.Common.{◌≡◌, ◌∙◌, refl, ap, List, [], ◌∷◌, map}
use Rattle.std.specs.Prelude.{◌&&◌, Option, Some, None}
use Rattle.std.specs.List.{list_all}
use Rattle.st_tree.specs.Plain.{PlainExpr, literal, read, output_of, element, unary, binary, PlainArgument, input, output}
use Rattle.st_tree.specs.Plain.{PlainStmt, empty, assign, store, call, if_else, case_of, for_to, PlainBody, done, next, Branches, no_branch, branch, Choices, no_choice, choice}
use Rattle.st_tree.specs.Mapping.{mapped_argument, mapped_branches, mapped_choices, Known, expr_known, option_known, argument_known, stmt_known, body_known, branches_known, choices_known}
use Rattle.const_fold.specs.Folding.{folded_node, folding, folded_expr, folded_option, folded_stmt, folded_body}
use Rattle.const_fold.proofs.LiteralLaws.{node_holds}

module _ {V : Type 0} (known : Known V) where
  node_names : (e : PlainExpr V) → expr_known known (folded_node e) ≡ expr_known known e
  node_names e = node_holds (λ e f. expr_known known f ≡ expr_known known e) (λ e. refl) (λ op a l is. refl) (λ op a b l is. refl) e

  expr_names : (e : PlainExpr V) → expr_known known (folded_expr e) ≡ expr_known known e
  expr_names (literal n) = refl
  expr_names (read v) = refl
  expr_names (output_of instance name) = refl
  expr_names (element v bounds index) = ap (λ b. known.has_array v bounds && b) (expr_names index)
  expr_names (unary op a) = node_names (unary op (folded_expr a)) ∙ expr_names a
  expr_names (binary op a b) = node_names (binary op (folded_expr a) (folded_expr b)) ∙ (λ i. expr_names a i && expr_names b i)

  option_names : (e : Option (PlainExpr V)) → option_known known (folded_option e) ≡ option_known known e
  option_names None = refl
  option_names (Some e) = expr_names e

  argument_names : (instance : V) (a : PlainArgument V) → argument_known known instance (mapped_argument folding instance a) ≡ argument_known known instance a
  argument_names instance (input name e) = ap (λ b. known.has_input instance name && b) (expr_names e)
  argument_names instance (output name v) = refl

  arguments_names : (instance : V) (arguments : List (PlainArgument V)) → list_all (argument_known known instance) (map (mapped_argument folding instance) arguments) ≡ list_all (argument_known known instance) arguments
  arguments_names instance [] = refl
  arguments_names instance (a ∷ rest) = λ i. argument_names instance a i && arguments_names instance rest i

  mutual
    stmt_names : (s : PlainStmt V) → stmt_known known (folded_stmt s) ≡ stmt_known known s
    stmt_names (empty number) = refl
    stmt_names (assign number v e) = ap (λ b. known.has_variable v && b) (expr_names e)
    stmt_names (store number v bounds index value) = λ i. known.has_array v bounds && (expr_names index i && expr_names value i)
    stmt_names (call number instance arguments) = ap (λ b. known.has_instance instance && b) (arguments_names instance arguments)
    stmt_names (if_else number branches last) = λ i. branches_names branches i && body_names last i
    stmt_names (case_of number e choices last) = λ i. expr_names e i && (choices_names choices i && body_names last i)
    stmt_names (for_to number v from to by body) = λ i. known.has_variable v && (expr_names from i && (expr_names to i && (option_names by i && body_names body i)))

    pub body_names : (body : PlainBody V) → body_known known (folded_body body) ≡ body_known known body
    body_names done = refl
    body_names (next s rest) = λ i. stmt_names s i && body_names rest i

    branches_names : (branches : Branches V) → branches_known known (mapped_branches folding branches) ≡ branches_known known branches
    branches_names no_branch = refl
    branches_names (branch test body rest) = λ i. expr_names test i && (body_names body i && branches_names rest i)

    choices_names : (choices : Choices V) → choices_known known (mapped_choices folding choices) ≡ choices_known known choices
    choices_names no_choice = refl
    choices_names (choice labels body rest) = λ i. body_names body i && choices_names rest i
