-- A folded body weighs at most what the body weighs.
use Rattle.std.proofs.Common.{◌≡◌, refl, ap, ℕ, ◌+◌, ◌*◌, ◌≤◌, max, arith, List, [], ◌∷◌, map, length}
use Rattle.std.specs.Prelude.{Option, Some, None, option_map}
use Rattle.std.proofs.lemmas.Nat.{mul-le}
use Rattle.st_tree.specs.Constants.{constant_of}
use Rattle.st_tree.specs.Plain.{PlainExpr, literal, read, output_of, element, unary, binary, PlainArgument, input, output}
use Rattle.st_tree.specs.Plain.{PlainStmt, empty, assign, store, call, if_else, case_of, for_to, PlainBody, done, next, Branches, no_branch, branch, Choices, no_choice, choice}
use Rattle.st_tree.specs.Costs.{expr_cost, tests_cost, labels_cost, arguments_cost, weight, weight_all, branches_weight, choices_weight}
use Rattle.st_tree.specs.Mapping.{mapped_argument, mapped_branches, mapped_choices}
use Rattle.const_fold.specs.Folding.{folded_node, folding, folded_expr, folded_option, folded_stmt, folded_body}
use Rattle.const_fold.specs.Laws.{GoesByConstants}
use Rattle.const_fold.proofs.LiteralLaws.{node_holds}
use Rattle.const_fold.proofs.ConstantLaws.{constant_kept}

module _ {V : Type 0} where
  node_less : (e : PlainExpr V) → expr_cost (folded_node e) ≤ expr_cost e
  node_less e = node_holds (λ e f. expr_cost f ≤ expr_cost e) (λ e. omega arith) (λ op a l is. omega arith) (λ op a b l is. omega arith) e

  expr_less : (e : PlainExpr V) → expr_cost (folded_expr e) ≤ expr_cost e
  expr_less (literal n) = omega arith
  expr_less (read v) = omega arith
  expr_less (output_of instance name) = omega arith
  expr_less (element v bounds index) = let first = expr_less index in omega arith
  expr_less (unary op a) =
      let node : expr_cost (folded_node (unary op (folded_expr a))) ≤ 1 + expr_cost (folded_expr a) = node_less (unary op (folded_expr a)) in
      let first = expr_less a in
      omega arith
  expr_less (binary op a b) =
      let node : expr_cost (folded_node (binary op (folded_expr a) (folded_expr b))) ≤ 1 + expr_cost (folded_expr a) + expr_cost (folded_expr b) = node_less (binary op (folded_expr a) (folded_expr b)) in
      let first = expr_less a in
      let second = expr_less b in
      omega arith

  tests_less : (branches : Branches V) → tests_cost (mapped_branches folding branches) ≤ tests_cost branches
  tests_less no_branch = omega arith
  tests_less (branch test body rest) = let first = expr_less test in let more = tests_less rest in omega arith

  labels_same : (choices : Choices V) → labels_cost (mapped_choices folding choices) ≡ labels_cost choices
  labels_same no_choice = refl
  labels_same (choice labels body rest) = ap (λ n. length labels + n) (labels_same rest)

  arguments_less : (instance : V) (arguments : List (PlainArgument V)) → arguments_cost (map (mapped_argument folding instance) arguments) ≤ arguments_cost arguments
  arguments_less instance [] = omega arith
  arguments_less instance (input name e ∷ rest) = let first = expr_less e in let more = arguments_less instance rest in omega arith
  arguments_less instance (output name v ∷ rest) = let more = arguments_less instance rest in omega arith

-- turns that are as many take at most as long with a smaller body
turns_less : (m n a b : ℕ) → m ≡ n → a ≤ b → 2 + m * (3 + a) ≤ 2 + n * (3 + b)
turns_less m n a b same less = let product : m * (3 + a) ≤ n * (3 + b) = mul-le m (3 + a) n (3 + b) (omega arith) (omega arith) in omega arith

module _ (join : ℕ → ℕ → ℕ) (joins : (a b c d : ℕ) → a ≤ b → c ≤ d → join a c ≤ join b d) {V : Type 0} (turns : PlainExpr V → PlainExpr V → Option (PlainExpr V) → ℕ)
    (counts : (from to : PlainExpr V) (by : Option (PlainExpr V)) → turns (folded_expr from) (folded_expr to) (folded_option by) ≡ turns from to by) (called : V → ℕ) where
  mutual
    stmt_less : (s : PlainStmt V) → weight join turns called (folded_stmt s) ≤ weight join turns called s
    stmt_less (empty number) = omega arith
    stmt_less (assign number v e) = let first = expr_less e in omega arith
    stmt_less (store number v bounds index value) = let first = expr_less index in let second = expr_less value in omega arith
    stmt_less (call number instance arguments) = let first = arguments_less instance arguments in omega arith
    stmt_less (if_else number branches last) =
        let first = tests_less branches in
        let more = joins (branches_weight join turns called (mapped_branches folding branches)) (branches_weight join turns called branches) (weight_all join turns called (folded_body last)) (weight_all join turns called last) (branches_less branches) (body_less last) in
        omega arith
    stmt_less (case_of number e choices last) =
        let first = expr_less e in
        let labels = labels_same choices in
        let more = joins (choices_weight join turns called (mapped_choices folding choices)) (choices_weight join turns called choices) (weight_all join turns called (folded_body last)) (weight_all join turns called last) (choices_less choices) (body_less last) in
        omega arith
    stmt_less (for_to number v from to by body) =
        turns_less (turns (folded_expr from) (folded_expr to) (folded_option by)) (turns from to by) (weight_all join turns called (folded_body body)) (weight_all join turns called body) (counts from to by) (body_less body)

    pub body_less : (body : PlainBody V) → weight_all join turns called (folded_body body) ≤ weight_all join turns called body
    body_less done = omega arith
    body_less (next s rest) = let first = stmt_less s in let more = body_less rest in omega arith

    branches_less : (branches : Branches V) → branches_weight join turns called (mapped_branches folding branches) ≤ branches_weight join turns called branches
    branches_less no_branch = omega arith
    branches_less (branch test body rest) =
        joins (weight_all join turns called (folded_body body)) (weight_all join turns called body) (branches_weight join turns called (mapped_branches folding rest)) (branches_weight join turns called rest) (body_less body) (branches_less rest)

    choices_less : (choices : Choices V) → choices_weight join turns called (mapped_choices folding choices) ≤ choices_weight join turns called choices
    choices_less no_choice = omega arith
    choices_less (choice labels body rest) =
        joins (weight_all join turns called (folded_body body)) (weight_all join turns called body) (choices_weight join turns called (mapped_choices folding rest)) (choices_weight join turns called rest) (body_less body) (choices_less rest)

pub sums_grow : (a b c d : ℕ) → a ≤ b → c ≤ d → a + c ≤ b + d
sums_grow a b c d first second = omega arith

pub greatest_grows : (a b c d : ℕ) → a ≤ b → c ≤ d → max a c ≤ max b d
greatest_grows a b c d first second = omega arith

option_constant : {V : Type 0} (e : Option (PlainExpr V)) → option_map constant_of (folded_option e) ≡ option_map constant_of e
option_constant None = refl
option_constant (Some e) = ap Some (constant_kept e)

-- turns that are counted by constants stay
pub turns_stay : {V : Type 0} (turns : PlainExpr V → PlainExpr V → Option (PlainExpr V) → ℕ) → GoesByConstants turns
    → (from to : PlainExpr V) (by : Option (PlainExpr V)) → turns (folded_expr from) (folded_expr to) (folded_option by) ≡ turns from to by
turns_stay turns goes from to by = goes (folded_expr from) (folded_expr to) from to (folded_option by) by (constant_kept from) (constant_kept to) (option_constant by)
