-- Each name in a body that is meant is one in the body.
use Rattle.std.proofs.Common.{◌≡◌, ◌∙◌, refl, ℕ, ◌+◌, List, [], ◌∷◌, Option, Some, None}
use Rattle.std.specs.Prelude.{Bool, ◌&&◌, map, option_map}
use Rattle.std.specs.List.{list_all}
use Rattle.plant_types.specs.declared.values.Bounds.{Bounds}
use Rattle.st_tree.specs.Plain.{PlainExpr, literal, read, output_of, element, unary, binary, PlainArgument, input, output}
use Rattle.st_tree.specs.Plain.{PlainStmt, empty, assign, store, call, if_else, case_of, for_to, PlainBody, done, next, Branches, no_branch, branch, Choices, no_choice, choice}
use Rattle.st_tree.specs.Numbers.{count_stmt, count_body, count_branches, count_choices, numbered_stmt, numbered, numbered_branches, numbered_choices}
use Rattle.st_tree.specs.Kinds.{KindsOf, resolved_expr, resolved_argument, resolved_stmt, resolved_body, resolved_branches, resolved_choices, meant}
use Rattle.st_tree.specs.Mapping.{Known, expr_known, option_known, argument_known, stmt_known, body_known, branches_known, choices_known}

module _ {V : Type 0} (known : Known V) where
  mutual
    stmt_numbered : (n : ℕ) (s : PlainStmt V) → stmt_known known (numbered_stmt n s) ≡ stmt_known known s
    stmt_numbered n (empty number) = refl
    stmt_numbered n (assign number v e) = refl
    stmt_numbered n (store number v bounds index value) = refl
    stmt_numbered n (call number instance arguments) = refl
    stmt_numbered n (if_else number branches last) = λ i. branches_numbered (n + 1) branches i && body_numbered (n + 1 + count_branches branches) last i
    stmt_numbered n (case_of number e choices last) = λ i. expr_known known e && (choices_numbered (n + 1) choices i && body_numbered (n + 1 + count_choices choices) last i)
    stmt_numbered n (for_to number v from to by body) = λ i. known.has_variable v && (expr_known known from && (expr_known known to && (option_known known by && body_numbered (n + 1) body i)))

    body_numbered : (n : ℕ) (body : PlainBody V) → body_known known (numbered n body) ≡ body_known known body
    body_numbered n done = refl
    body_numbered n (next s rest) = λ i. stmt_numbered n s i && body_numbered (n + count_stmt s) rest i

    branches_numbered : (n : ℕ) (branches : Branches V) → branches_known known (numbered_branches n branches) ≡ branches_known known branches
    branches_numbered n no_branch = refl
    branches_numbered n (branch test body rest) = λ i. expr_known known test && (body_numbered n body i && branches_numbered (n + count_body body) rest i)

    choices_numbered : (n : ℕ) (choices : Choices V) → choices_known known (numbered_choices n choices) ≡ choices_known known choices
    choices_numbered n no_choice = refl
    choices_numbered n (choice labels body rest) = λ i. body_numbered n body i && choices_numbered (n + count_body body) rest i

  -- a body that is meant names arrays by their declared bounds, and what knows these so is as what knows the written ones
  module _ (kinds : KindsOf V) (has : V → Bounds → Bool) (kept : (v : V) (bounds : Bounds) → has v (kinds.bounds v) ≡ known.has_array v bounds) where
    abbrev meaning : Known V
    meaning = record { has_variable = known.has_variable; has_array = has; has_instance = known.has_instance; has_input = known.has_input; has_output = known.has_output }

    expr_resolved : (e : PlainExpr V) → expr_known meaning (resolved_expr kinds e) ≡ expr_known known e
    expr_resolved (literal n) = refl
    expr_resolved (read v) = refl
    expr_resolved (output_of instance name) = refl
    expr_resolved (element v bounds index) = λ i. kept v bounds i && expr_resolved index i
    expr_resolved (unary op a) = expr_resolved a
    expr_resolved (binary op a b) = λ i. expr_resolved a i && expr_resolved b i

    option_resolved : (e : Option (PlainExpr V)) → option_known meaning (option_map (resolved_expr kinds) e) ≡ option_known known e
    option_resolved None = refl
    option_resolved (Some e) = expr_resolved e

    argument_resolved : (instance : V) (a : PlainArgument V) → argument_known meaning instance (resolved_argument kinds a) ≡ argument_known known instance a
    argument_resolved instance (input name e) = λ i. known.has_input instance name && expr_resolved e i
    argument_resolved instance (output name v) = refl

    arguments_resolved : (instance : V) (arguments : List (PlainArgument V)) → list_all (argument_known meaning instance) (map (resolved_argument kinds) arguments) ≡ list_all (argument_known known instance) arguments
    arguments_resolved instance [] = refl
    arguments_resolved instance (a ∷ rest) = λ i. argument_resolved instance a i && arguments_resolved instance rest i

    mutual
      stmt_resolved : (s : PlainStmt V) → stmt_known meaning (resolved_stmt kinds s) ≡ stmt_known known s
      stmt_resolved (empty number) = refl
      stmt_resolved (assign number v e) = λ i. known.has_variable v && expr_resolved e i
      stmt_resolved (store number v bounds index value) = λ i. kept v bounds i && (expr_resolved index i && expr_resolved value i)
      stmt_resolved (call number instance arguments) = λ i. known.has_instance instance && arguments_resolved instance arguments i
      stmt_resolved (if_else number branches last) = λ i. branches_resolved branches i && body_resolved last i
      stmt_resolved (case_of number e choices last) = λ i. expr_resolved e i && (choices_resolved choices i && body_resolved last i)
      stmt_resolved (for_to number v from to by body) = λ i. known.has_variable v && (expr_resolved from i && (expr_resolved to i && (option_resolved by i && body_resolved body i)))

      body_resolved : (body : PlainBody V) → body_known meaning (resolved_body kinds body) ≡ body_known known body
      body_resolved done = refl
      body_resolved (next s rest) = λ i. stmt_resolved s i && body_resolved rest i

      branches_resolved : (branches : Branches V) → branches_known meaning (resolved_branches kinds branches) ≡ branches_known known branches
      branches_resolved no_branch = refl
      branches_resolved (branch test body rest) = λ i. expr_resolved test i && (body_resolved body i && branches_resolved rest i)

      choices_resolved : (choices : Choices V) → choices_known meaning (resolved_choices kinds choices) ≡ choices_known known choices
      choices_resolved no_choice = refl
      choices_resolved (choice labels body rest) = λ i. body_resolved body i && choices_resolved rest i

    -- all names are known in the body that is meant if they are in the body
    pub meant_known : (body : PlainBody V) → body_known meaning (meant kinds body) ≡ body_known known body
    meant_known body = body_resolved (numbered 1 body) ∙ body_numbered 1 body
