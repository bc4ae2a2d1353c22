-- A body over numbers weighs no more than the body that is written, where the instances that it calls weigh no more.
use Rattle.std.proofs.Common.{◌≡◌, ◌∙◌, ap, sym, refl, ℕ, ◌+◌, ◌*◌, ◌≤◌, true, List, [], ◌∷◌, map, length, Option, Some, None, arith}
use Rattle.std.specs.Prelude.{◌&&◌, is_some, option_map, unwrap_or, Ok, Err}
use Rattle.std.specs.List.{list_all}
use Rattle.std.proofs.lemmas.Bool.{and_parts}
use Rattle.std.proofs.lemmas.Nat.{mul-le}
use Rattle.st_tree.specs.Operators.{Outcome}
use Rattle.st_tree.specs.Constants.{constant_of}
use Rattle.st_tree.specs.Costs.{expr_cost, tests_cost, labels_cost, arguments_cost, weight, weight_all, branches_weight, choices_weight}
use Rattle.st_tree.specs.Kinds.{KindsOf, resolved_expr, resolved_argument, resolved_stmt, resolved_body, resolved_branches, resolved_choices}
use Rattle.st_tree.specs.Mapping.{mapped_expr, mapped_option, mapped_argument, mapped_stmt, mapped_body, mapped_branches, mapped_choices, expr_known, option_known, argument_known, stmt_known, body_known, branches_known, choices_known}
use Rattle.st_tree.specs.Numbers.{numbered_stmt, numbered, numbered_branches, numbered_choices, count_stmt, count_body, count_branches, count_choices}
use Rattle.st_tree.specs.Plain.{PlainExpr, literal, read, output_of, element, unary, binary, PlainArgument, input, output}
use Rattle.st_tree.specs.Plain.{PlainStmt, empty, assign, store, call, if_else, case_of, for_to, PlainBody, done, next, Branches, no_branch, branch, Choices, no_choice, choice}
use Rattle.logic_source.specs.Constants.{no_kinds, meant_constant, constant_step, for_turns}
use Rattle.logic_source.specs.Constants as typing
use Rattle.logic_source.specs.Source.{PlainRoutine, Source}
use Rattle.logic_source.specs.Names.{kinds_named}
use Rattle.logic_frames.specs.Numbers.{instance_number, numbers, numbered_in}
use Rattle.vm_programs.specs.Sizes.{number_of, step_number, span_from, turns_of, frame_turns}
use Rattle.vm_logic.proofs.Steady.{Name, constant_alike, constant_mapped}

-- what is so each way is the same
option_same : (u v : Option Outcome) → ((x : Outcome) → u ≡ Some x → v ≡ Some x) → ((x : Outcome) → v ≡ Some x → u ≡ Some x) → u ≡ v
option_same None None there back = refl
option_same None (Some y) there back = back y refl
option_same (Some x) v there back = sym (there x refl)

-- turns by the numbers of outcomes are turns by the outcomes
turns_same : (from to step : Option Outcome) → turns_of (span_from (number_of from) (number_of to) (number_of step)) ≡ typing.turns_of from to step
turns_same None None None = refl
turns_same None None (Some s) = refl
turns_same None (Some t) None = refl
turns_same None (Some t) (Some s) = refl
turns_same (Some (Ok f)) None None = refl
turns_same (Some (Ok f)) None (Some s) = refl
turns_same (Some (Err f)) None None = refl
turns_same (Some (Err f)) None (Some s) = refl
turns_same (Some (Ok f)) (Some (Ok t)) None = refl
turns_same (Some (Ok f)) (Some (Err t)) None = refl
turns_same (Some (Err f)) (Some (Ok t)) None = refl
turns_same (Some (Err f)) (Some (Err t)) None = refl
turns_same (Some (Ok f)) (Some (Ok t)) (Some (Ok s)) = refl
turns_same (Some (Ok f)) (Some (Ok t)) (Some (Err s)) = refl
turns_same (Some (Ok f)) (Some (Err t)) (Some s) = refl
turns_same (Some (Err f)) (Some (Ok t)) (Some s) = refl
turns_same (Some (Err f)) (Some (Err t)) (Some s) = refl

turns_less : (m n a b : ℕ) → m ≡ n → a ≤ b → 2 + m * (3 + a) ≤ 2 + n * (3 + b)
turns_less m n a b same less = let product : m * (3 + a) ≤ n * (3 + b) = mul-le m (3 + a) n (3 + b) (omega arith) (omega arith) in omega arith

module _ (source : Source) (r : PlainRoutine) where
  abbrev kinds : KindsOf Name
  kinds = kinds_named source r

  abbrev plain : PlainExpr Name → PlainExpr ℕ
  plain e = mapped_expr (numbers source r) (resolved_expr kinds e)

  constant_same : (e : PlainExpr Name) → constant_of (plain e) ≡ meant_constant e
  constant_same e =
      constant_mapped source r (resolved_expr kinds e)
      ∙ option_same (constant_of (resolved_expr kinds e)) (meant_constant e) (λ x is. (constant_alike kinds no_kinds e x is).0) (λ x is. (constant_alike no_kinds kinds e x is).0)

  step_same : (by : Option (PlainExpr Name)) → step_number (mapped_option (numbers source r) (option_map (resolved_expr kinds) by)) ≡ number_of (constant_step by)
  step_same None = refl
  step_same (Some e) = ap number_of (constant_same e)

  -- a FOR has as many turns by numbers as by names
  pub turns_are : (from to : PlainExpr Name) (by : Option (PlainExpr Name)) → frame_turns (plain from) (plain to) (mapped_option (numbers source r) (option_map (resolved_expr kinds) by)) ≡ for_turns from to by
  turns_are from to by =
      (λ i. turns_of (span_from (number_of (constant_same from i)) (number_of (constant_same to i)) (step_same by i))) ∙ turns_same (meant_constant from) (meant_constant to) (constant_step by)

  expr_same : (e : PlainExpr Name) → expr_cost (plain e) ≡ expr_cost e
  expr_same (literal n) = refl
  expr_same (read v) = refl
  expr_same (output_of instance name) = refl
  expr_same (element v bounds index) = ap (λ n. 2 + n) (expr_same index)
  expr_same (unary op a) = ap (λ n. 1 + n) (expr_same a)
  expr_same (binary op a b) = λ i. 1 + expr_same a i + expr_same b i

  arguments_same : (instance : Name) (arguments : List (PlainArgument Name)) → arguments_cost (map (mapped_argument (numbers source r) instance) (map (resolved_argument kinds) arguments)) ≡ arguments_cost arguments
  arguments_same instance [] = refl
  arguments_same instance (input name e ∷ rest) = λ i. 1 + expr_same e i + arguments_same instance rest i
  arguments_same instance (output name v ∷ rest) = λ i. 1 + arguments_same instance rest i

  tests_same : (n : ℕ) (branches : Branches Name) → tests_cost (mapped_branches (numbers source r) (resolved_branches kinds (numbered_branches n branches))) ≡ tests_cost branches
  tests_same n no_branch = refl
  tests_same n (branch test body rest) = λ i. expr_same test i + tests_same (n + count_body body) rest i

  labels_same : (n : ℕ) (choices : Choices Name) → labels_cost (mapped_choices (numbers source r) (resolved_choices kinds (numbered_choices n choices))) ≡ labels_cost choices
  labels_same n no_choice = refl
  labels_same n (choice labels body rest) = ap (λ m. length labels + m) (labels_same (n + count_body body) rest)

  -- what is known of a FOR is known of its body
  repeat_known : (v : Name) (from to : PlainExpr Name) (by : Option (PlainExpr Name)) (body : PlainBody Name) → stmt_known (numbered_in source r) (for_to 0 v from to by body) ≡ true → body_known (numbered_in source r) body ≡ true
  repeat_known v from to by body known =
      let k = numbered_in source r in
      let a = and_parts (k.has_variable v) (expr_known k from && (expr_known k to && (option_known k by && body_known k body))) known in
      let b = and_parts (expr_known k from) (expr_known k to && (option_known k by && body_known k body)) a.1 in
      let d = and_parts (expr_known k to) (option_known k by && body_known k body) b.1 in
      (and_parts (option_known k by) (body_known k body) d.1).1

  -- whatever joins branches, if it gives no more for no more, and counts the turns of a FOR, if it counts as many by numbers as by names
  module _ (join : ℕ → ℕ → ℕ) (rises : (a b c d : ℕ) → a ≤ c → b ≤ d → join a b ≤ join c d) (inside : PlainExpr ℕ → PlainExpr ℕ → Option (PlainExpr ℕ) → ℕ) (written : PlainExpr Name → PlainExpr Name → Option (PlainExpr Name) → ℕ)
      (as_many : (from to : PlainExpr Name) (by : Option (PlainExpr Name)) → inside (plain from) (plain to) (mapped_option (numbers source r) (option_map (resolved_expr kinds) by)) ≡ written from to by)
      (inner : ℕ → ℕ) (outer : Name → ℕ) (less : (name : Name) → is_some (instance_number r name) ≡ true → inner (unwrap_or (instance_number r name) 0) ≤ outer name) where
    abbrev stmt_inner : ℕ → PlainStmt Name → ℕ
    stmt_inner n s = weight join inside inner (mapped_stmt (numbers source r) (resolved_stmt kinds (numbered_stmt n s)))

    abbrev body_inner : ℕ → PlainBody Name → ℕ
    body_inner n body = weight_all join inside inner (mapped_body (numbers source r) (resolved_body kinds (numbered n body)))

    abbrev branches_inner : ℕ → Branches Name → ℕ
    branches_inner n branches = branches_weight join inside inner (mapped_branches (numbers source r) (resolved_branches kinds (numbered_branches n branches)))

    abbrev choices_inner : ℕ → Choices Name → ℕ
    choices_inner n choices = choices_weight join inside inner (mapped_choices (numbers source r) (resolved_choices kinds (numbered_choices n choices)))

    mutual
      stmt_less : (n : ℕ) (s : PlainStmt Name) → stmt_known (numbered_in source r) s ≡ true → stmt_inner n s ≤ weight join written outer s
      stmt_less n (empty number) known = omega arith
      stmt_less n (assign number v e) known = let first = expr_same e in omega (arith, first)
      stmt_less n (store number v bounds index value) known =
          let first = expr_same index in
          let second = expr_same value in
          omega (arith, first, second)
      stmt_less n (call number instance arguments) known =
          let p = and_parts (is_some (instance_number r instance)) (list_all (argument_known (numbered_in source r) instance) arguments) known in
          let called = less instance p.0 in
          let given = arguments_same instance arguments in
          omega (arith, called, given)
      stmt_less n (if_else number branches last) known =
          let p = and_parts (branches_known (numbered_in source r) branches) (body_known (numbered_in source r) last) known in
          let tests = tests_same (n + 1) branches in
          let joined =
          rises (branches_inner (n + 1) branches) (body_inner (n + 1 + count_branches branches) last) (branches_weight join written outer branches) (weight_all join written outer last)
          (branches_less (n + 1) branches p.0) (body_less (n + 1 + count_branches branches) last p.1) in
          omega (arith, tests, joined)
      stmt_less n (case_of number e choices last) known =
          let q = and_parts (expr_known (numbered_in source r) e) (choices_known (numbered_in source r) choices && body_known (numbered_in source r) last) known in
          let p = and_parts (choices_known (numbered_in source r) choices) (body_known (numbered_in source r) last) q.1 in
          let first = expr_same e in
          let labels = labels_same (n + 1) choices in
          let joined =
          rises (choices_inner (n + 1) choices) (body_inner (n + 1 + count_choices choices) last) (choices_weight join written outer choices) (weight_all join written outer last)
          (choices_less (n + 1) choices p.0) (body_less (n + 1 + count_choices choices) last p.1) in
          omega (arith, first, labels, joined)
      stmt_less n (for_to number v from to by body) known =
          turns_less _ (written from to by) (body_inner (n + 1) body) (weight_all join written outer body) (as_many from to by) (body_less (n + 1) body (repeat_known v from to by body known))

      pub body_less : (n : ℕ) (body : PlainBody Name) → body_known (numbered_in source r) body ≡ true → body_inner n body ≤ weight_all join written outer body
      body_less n done known = omega arith
      body_less n (next s rest) known =
          let p = and_parts (stmt_known (numbered_in source r) s) (body_known (numbered_in source r) rest) known in
          let first = stmt_less n s p.0 in
          let more = body_less (n + count_stmt s) rest p.1 in
          omega (arith, first, more)

      branches_less : (n : ℕ) (branches : Branches Name) → branches_known (numbered_in source r) branches ≡ true → branches_inner n branches ≤ branches_weight join written outer branches
      branches_less n no_branch known = omega arith
      branches_less n (branch test body rest) known =
          let q = and_parts (expr_known (numbered_in source r) test) (body_known (numbered_in source r) body && branches_known (numbered_in source r) rest) known in
          let p = and_parts (body_known (numbered_in source r) body) (branches_known (numbered_in source r) rest) q.1 in
          rises (body_inner n body) (branches_inner (n + count_body body) rest) (weight_all join written outer body) (branches_weight join written outer rest) (body_less n body p.0) (branches_less (n + count_body body) rest p.1)

      choices_less : (n : ℕ) (choices : Choices Name) → choices_known (numbered_in source r) choices ≡ true → choices_inner n choices ≤ choices_weight join written outer choices
      choices_less n no_choice known = omega arith
      choices_less n (choice labels body rest) known =
          let p = and_parts (body_known (numbered_in source r) body) (choices_known (numbered_in source r) rest) known in
          rises (body_inner n body) (choices_inner (n + count_body body) rest) (weight_all join written outer body) (choices_weight join written outer rest) (body_less n body p.0) (choices_less (n + count_body body) rest p.1)
