-- What is known of the names of a body is known of the numbers that stand for them in the body that is meant.
use Rattle.std.proofs.Common.{◌≡◌, ℕ, ◌+◌, Bool, true, List, [], ◌∷◌, map, Option, Some, None, refl}
use Rattle.std.specs.Prelude.{◌&&◌, option_map}
use Rattle.std.specs.List.{list_all}
use Rattle.std.proofs.lemmas.Bool.{and_parts}
use Rattle.plant_types.specs.declared.values.Bounds.{Bounds}
use Rattle.st_tree.specs.Plain.{PlainExpr, literal, read, output_of, element, unary, binary, PlainArgument, input, output}
use Rattle.st_tree.specs.Plain.{PlainStmt, empty, assign, store, call, if_else, case_of, for_to, PlainBody, done, next, Branches, no_branch, branch, Choices, no_choice, choice}
use Rattle.st_tree.specs.Numbers.{count_stmt, count_body, count_branches, count_choices, numbered_stmt, numbered, numbered_branches, numbered_choices}
use Rattle.st_tree.specs.Kinds.{KindsOf, resolved_expr, resolved_argument, resolved_stmt, resolved_body, resolved_branches, resolved_choices, meant}
use Rattle.st_tree.specs.Mapping.{Mapping, mapped_expr, mapped_option, mapped_argument, mapped_stmt, mapped_body, mapped_branches, mapped_choices, Known, expr_known, option_known, argument_known, stmt_known, body_known, branches_known, choices_known}

pub both : (a b : Bool) → a ≡ true → b ≡ true → (a && b) ≡ true
both a b h g = rw h g

module _ {V W : Type 0} (m : Mapping V W) (from : Known V) (to : Known W) (node : (e : PlainExpr W) → expr_known to e ≡ true → expr_known to (m.node e) ≡ true)
    (variable : (v : V) → from.has_variable v ≡ true → to.has_variable (m.variable v) ≡ true)
    (instance : (i : V) → from.has_instance i ≡ true → to.has_instance (m.instance i) ≡ true)
    (input_is : (i name : V) → from.has_input i name ≡ true → to.has_input (m.instance i) (m.input_name i name) ≡ true)
    (output_is : (i name : V) → from.has_output i name ≡ true → to.has_output (m.instance i) (m.output_name i name) ≡ true)
    (kinds : KindsOf V) (array : (v : V) (bounds : Bounds) → from.has_array v bounds ≡ true → to.has_array (m.array v) (kinds.bounds v) ≡ true) where
  expr_goes : (e : PlainExpr V) → expr_known from e ≡ true → expr_known to (mapped_expr m (resolved_expr kinds e)) ≡ true
  expr_goes (literal n) h = refl
  expr_goes (read v) h = variable v h
  expr_goes (output_of i name) h = output_is i name h
  expr_goes (element v bounds index) h =
      let p = and_parts (from.has_array v bounds) (expr_known from index) h in
      both (to.has_array (m.array v) (kinds.bounds v)) (expr_known to (mapped_expr m (resolved_expr kinds index))) (array v bounds p.0) (expr_goes index p.1)
  expr_goes (unary op a) h = node _ (expr_goes a h)
  expr_goes (binary op a b) h =
      let p = and_parts (expr_known from a) (expr_known from b) h in
      node _ (both (expr_known to (mapped_expr m (resolved_expr kinds a))) (expr_known to (mapped_expr m (resolved_expr kinds b))) (expr_goes a p.0) (expr_goes b p.1))

  option_goes : (e : Option (PlainExpr V)) → option_known from e ≡ true → option_known to (mapped_option m (option_map (resolved_expr kinds) e)) ≡ true
  option_goes None h = refl
  option_goes (Some e) h = expr_goes e h

  argument_goes : (i : V) (a : PlainArgument V) → argument_known from i a ≡ true → argument_known to (m.instance i) (mapped_argument m i (resolved_argument kinds a)) ≡ true
  argument_goes i (input name e) h =
      let p = and_parts (from.has_input i name) (expr_known from e) h in
      both (to.has_input (m.instance i) (m.input_name i name)) (expr_known to (mapped_expr m (resolved_expr kinds e))) (input_is i name p.0) (expr_goes e p.1)
  argument_goes i (output name v) h =
      let p = and_parts (from.has_output i name) (from.has_variable v) h in
      both (to.has_output (m.instance i) (m.output_name i name)) (to.has_variable (m.variable v)) (output_is i name p.0) (variable v p.1)

  arguments_go : (i : V) (arguments : List (PlainArgument V)) → list_all (argument_known from i) arguments ≡ true
      → list_all (argument_known to (m.instance i)) (map (mapped_argument m i) (map (resolved_argument kinds) arguments)) ≡ true
  arguments_go i [] h = refl
  arguments_go i (a ∷ rest) h =
      let p = and_parts (argument_known from i a) (list_all (argument_known from i) rest) h in
      both (argument_known to (m.instance i) (mapped_argument m i (resolved_argument kinds a))) (list_all (argument_known to (m.instance i)) (map (mapped_argument m i) (map (resolved_argument kinds) rest)))
      (argument_goes i a p.0) (arguments_go i rest p.1)

  abbrev stmt_is : ℕ → PlainStmt V → Bool
  stmt_is n s = stmt_known to (mapped_stmt m (resolved_stmt kinds (numbered_stmt n s)))

  abbrev body_is : ℕ → PlainBody V → Bool
  body_is n body = body_known to (mapped_body m (resolved_body kinds (numbered n body)))

  abbrev branches_is : ℕ → Branches V → Bool
  branches_is n branches = branches_known to (mapped_branches m (resolved_branches kinds (numbered_branches n branches)))

  abbrev choices_is : ℕ → Choices V → Bool
  choices_is n choices = choices_known to (mapped_choices m (resolved_choices kinds (numbered_choices n choices)))

  abbrev expr_is : PlainExpr V → Bool
  expr_is e = expr_known to (mapped_expr m (resolved_expr kinds e))

  mutual
    stmt_goes : (n : ℕ) (s : PlainStmt V) → stmt_known from s ≡ true → stmt_is n s ≡ true
    stmt_goes n (empty number) h = refl
    stmt_goes n (assign number v e) h =
        let p = and_parts (from.has_variable v) (expr_known from e) h in
        both (to.has_variable (m.variable v)) (expr_is e) (variable v p.0) (expr_goes e p.1)
    stmt_goes n (store number v bounds index value) h =
        let p = and_parts (from.has_array v bounds) (expr_known from index && expr_known from value) h in
        let q = and_parts (expr_known from index) (expr_known from value) p.1 in
        both (to.has_array (m.array v) (kinds.bounds v)) (expr_is index && expr_is value) (array v bounds p.0) (both (expr_is index) (expr_is value) (expr_goes index q.0) (expr_goes value q.1))
    stmt_goes n (call number i arguments) h =
        let p = and_parts (from.has_instance i) (list_all (argument_known from i) arguments) h in
        both (to.has_instance (m.instance i)) (list_all (argument_known to (m.instance i)) (map (mapped_argument m i) (map (resolved_argument kinds) arguments))) (instance i p.0) (arguments_go i arguments p.1)
    stmt_goes n (if_else number branches last) h =
        let p = and_parts (branches_known from branches) (body_known from last) h in
        both (branches_is (n + 1) branches) (body_is (n + 1 + count_branches branches) last) (branches_go (n + 1) branches p.0) (body_goes (n + 1 + count_branches branches) last p.1)
    stmt_goes n (case_of number e choices last) h =
        let p = and_parts (expr_known from e) (choices_known from choices && body_known from last) h in
        let q = and_parts (choices_known from choices) (body_known from last) p.1 in
        both (expr_is e) (choices_is (n + 1) choices && body_is (n + 1 + count_choices choices) last) (expr_goes e p.0)
        (both (choices_is (n + 1) choices) (body_is (n + 1 + count_choices choices) last) (choices_go (n + 1) choices q.0) (body_goes (n + 1 + count_choices choices) last q.1))
    stmt_goes n (for_to number v low high by body) h =
        let p = and_parts (from.has_variable v) (expr_known from low && (expr_known from high && (option_known from by && body_known from body))) h in
        let q = and_parts (expr_known from low) (expr_known from high && (option_known from by && body_known from body)) p.1 in
        let r = and_parts (expr_known from high) (option_known from by && body_known from body) q.1 in
        let s = and_parts (option_known from by) (body_known from body) r.1 in
        let step = option_known to (mapped_option m (option_map (resolved_expr kinds) by)) in
        both (to.has_variable (m.variable v)) (expr_is low && (expr_is high && (step && body_is (n + 1) body))) (variable v p.0)
        (both (expr_is low) (expr_is high && (step && body_is (n + 1) body)) (expr_goes low q.0)
        (both (expr_is high) (step && body_is (n + 1) body) (expr_goes high r.0) (both step (body_is (n + 1) body) (option_goes by s.0) (body_goes (n + 1) body s.1))))

    body_goes : (n : ℕ) (body : PlainBody V) → body_known from body ≡ true → body_is n body ≡ true
    body_goes n done h = refl
    body_goes n (next s rest) h =
        let p = and_parts (stmt_known from s) (body_known from rest) h in
        both (stmt_is n s) (body_is (n + count_stmt s) rest) (stmt_goes n s p.0) (body_goes (n + count_stmt s) rest p.1)

    branches_go : (n : ℕ) (branches : Branches V) → branches_known from branches ≡ true → branches_is n branches ≡ true
    branches_go n no_branch h = refl
    branches_go n (branch test body rest) h =
        let p = and_parts (expr_known from test) (body_known from body && branches_known from rest) h in
        let q = and_parts (body_known from body) (branches_known from rest) p.1 in
        both (expr_is test) (body_is n body && branches_is (n + count_body body) rest) (expr_goes test p.0)
        (both (body_is n body) (branches_is (n + count_body body) rest) (body_goes n body q.0) (branches_go (n + count_body body) rest q.1))

    choices_go : (n : ℕ) (choices : Choices V) → choices_known from choices ≡ true → choices_is n choices ≡ true
    choices_go n no_choice h = refl
    choices_go n (choice labels body rest) h =
        let p = and_parts (body_known from body) (choices_known from rest) h in
        both (body_is n body) (choices_is (n + count_body body) rest) (body_goes n body p.0) (choices_go (n + count_body body) rest p.1)

  -- of all names of a body
  pub meant_goes : (body : PlainBody V) → body_known from body ≡ true → body_known to (mapped_body m (meant kinds body)) ≡ true
  meant_goes body h = body_goes 1 body h
