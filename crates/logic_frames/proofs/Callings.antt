-- The names of the instances that a body calls.
use Rattle.std.proofs.Common.{◌≡◌, ◌∙◌, ap, sym, refl, ℕ, Bool, true, false, List, [], ◌∷◌, ◌++◌, Option, Some, None}
use Rattle.std.specs.Prelude.{◌&&◌, is_some}
use Rattle.std.specs.List.{list_any, list_all}
use Rattle.std.specs.Str.{bytes_eq}
use Rattle.std.specs.Cmp.Lexicographic.{bytes_decides}
use Rattle.std.proofs.lemmas.Bool.{and_parts, or_left, or_right}
use Rattle.std.proofs.lemmas.List.Folds.{list_all-append}
use Rattle.plant_types.specs.declared.values.Bounds.{Bounds}
use Rattle.plant_types.specs.Words.{folded, same_word}
use Rattle.st_tree.specs.Plain.{PlainExpr, literal, read, output_of, element, unary, binary, PlainArgument, input, output, PlainStmt, empty, assign, store, call, if_else, case_of, for_to, PlainBody, done, next, Branches, no_branch, branch, Choices, no_choice, choice}
use Rattle.st_tree.specs.Mapping.{Known, expr_known, option_known, argument_known, stmt_known, body_known, branches_known, choices_known}
use Rattle.logic_source.specs.Source.{PlainRoutine, Source}
use Rattle.logic_source.specs.Names.{same_bounds, bounds_named}
use Rattle.logic_source.proofs.Fitting.{bounds_same}
use Rattle.logic_source.specs.Paths.{called_in_stmt, called_in, called_in_branches, called_in_choices, is_called}
use Rattle.logic_frames.proofs.Fitting.{both}
use Rattle.logic_frames.specs.Numbers.{variable_number, array_number, instance_number, input_number, output_number, numbered_in}

-- the names that have a number, of instances those that the routine calls
abbrev pub called_known : Source → PlainRoutine → Known (List ℕ)
called_known source r = record {
  has_variable = λ name. is_some (variable_number source r name);
  has_array = λ name bounds. is_some (array_number source r name);
  has_instance = λ name. is_some (instance_number r name) && is_called r name;
  has_input = λ instance name. is_some (input_number source r instance name);
  has_output = λ instance name. is_some (output_number source r instance name);
}

-- the same of bodies that are meant, in which each array has its declared bounds
abbrev pub meant_names : Source → PlainRoutine → Known (List ℕ)
meant_names source r = record {
  has_variable = λ name. is_some (variable_number source r name);
  has_array = λ name bounds. is_some (array_number source r name) && same_bounds bounds (bounds_named source r name);
  has_instance = λ name. is_some (instance_number r name) && is_called r name;
  has_input = λ instance name. is_some (input_number source r instance name);
  has_output = λ instance name. is_some (output_number source r instance name);
}

-- with its declared bounds each array is known that is known at all
and_same : (b c : Bool) → c ≡ true → (b && c) ≡ b
and_same true c is = is
and_same false c is = refl

pub array_kept : (source : Source) (r : PlainRoutine) (name : List ℕ) (bounds : Bounds) → (meant_names source r).has_array name (bounds_named source r name) ≡ (called_known source r).has_array name bounds
array_kept source r name bounds = and_same (is_some (array_number source r name)) (same_bounds (bounds_named source r name) (bounds_named source r name)) (bounds_same (bounds_named source r name))

-- a body in which each name is known is known by what also says something of the instances, if that is so of each that is called
module _ {V : Type 0} (known : Known V) (test : V → Bool) where
  abbrev more : Known V
  more = record { has_variable = known.has_variable; has_array = known.has_array; has_instance = λ v. known.has_instance v && test v; has_input = known.has_input; has_output = known.has_output }

  expr_more : (e : PlainExpr V) → expr_known more e ≡ expr_known known e
  expr_more (literal n) = refl
  expr_more (read v) = refl
  expr_more (output_of instance name) = refl
  expr_more (element v bounds index) = λ i. known.has_array v bounds && expr_more index i
  expr_more (unary op a) = expr_more a
  expr_more (binary op a b) = λ i. expr_more a i && expr_more b i

  option_more : (e : Option (PlainExpr V)) → option_known more e ≡ option_known known e
  option_more None = refl
  option_more (Some e) = expr_more e

  argument_more : (instance : V) (a : PlainArgument V) → argument_known more instance a ≡ argument_known known instance a
  argument_more instance (input name e) = λ i. known.has_input instance name && expr_more e i
  argument_more instance (output name v) = refl

  arguments_more : (instance : V) (arguments : List (PlainArgument V)) → list_all (argument_known more instance) arguments ≡ list_all (argument_known known instance) arguments
  arguments_more instance [] = refl
  arguments_more instance (a ∷ rest) = λ i. argument_more instance a i && arguments_more instance rest i

  halves : (xs ys : List V) → list_all test (xs ++ ys) ≡ true → (list_all test xs ≡ true) × (list_all test ys ≡ true)
  halves xs ys all = and_parts (list_all test xs) (list_all test ys) (sym (list_all-append test xs ys) ∙ all)

  mutual
    stmt_more : (s : PlainStmt V) → stmt_known known s ≡ true → list_all test (called_in_stmt s) ≡ true → stmt_known more s ≡ true
    stmt_more (empty number) is all = refl
    stmt_more (assign number v e) is all = (λ i. known.has_variable v && expr_more e i) ∙ is
    stmt_more (store number v bounds index value) is all = (λ i. known.has_array v bounds && (expr_more index i && expr_more value i)) ∙ is
    stmt_more (call number instance arguments) is all =
        let parts = and_parts (known.has_instance instance) (list_all (argument_known known instance) arguments) is in
        let passes = and_parts (test instance) true all in
        both (known.has_instance instance && test instance) (list_all (argument_known more instance) arguments) (both (known.has_instance instance) (test instance) parts.0 passes.0) (arguments_more instance arguments ∙ parts.1)
    stmt_more (if_else number branches last) is all =
        let parts = and_parts (branches_known known branches) (body_known known last) is in
        let each = halves (called_in_branches branches) (called_in last) all in
        both (branches_known more branches) (body_known more last) (branches_more branches parts.0 each.0) (body_more last parts.1 each.1)
    stmt_more (case_of number e choices last) is all =
        let first = and_parts (expr_known known e) (choices_known known choices && body_known known last) is in
        let parts = and_parts (choices_known known choices) (body_known known last) first.1 in
        let each = halves (called_in_choices choices) (called_in last) all in
        both (expr_known more e) (choices_known more choices && body_known more last) (expr_more e ∙ first.0)
        (both (choices_known more choices) (body_known more last) (choices_more choices parts.0 each.0) (body_more last parts.1 each.1))
    stmt_more (for_to number v from to by body) is all =
        let p = and_parts (known.has_variable v) (expr_known known from && (expr_known known to && (option_known known by && body_known known body))) is in
        let q = and_parts (expr_known known from) (expr_known known to && (option_known known by && body_known known body)) p.1 in
        let r = and_parts (expr_known known to) (option_known known by && body_known known body) q.1 in
        let s = and_parts (option_known known by) (body_known known body) r.1 in
        both (known.has_variable v) (expr_known more from && (expr_known more to && (option_known more by && body_known more body))) p.0
        (both (expr_known more from) (expr_known more to && (option_known more by && body_known more body)) (expr_more from ∙ q.0)
        (both (expr_known more to) (option_known more by && body_known more body) (expr_more to ∙ r.0)
        (both (option_known more by) (body_known more body) (option_more by ∙ s.0) (body_more body s.1 all))))

    body_more : (body : PlainBody V) → body_known known body ≡ true → list_all test (called_in body) ≡ true → body_known more body ≡ true
    body_more done is all = refl
    body_more (next s rest) is all =
        let parts = and_parts (stmt_known known s) (body_known known rest) is in
        let each = halves (called_in_stmt s) (called_in rest) all in
        both (stmt_known more s) (body_known more rest) (stmt_more s parts.0 each.0) (body_more rest parts.1 each.1)

    branches_more : (branches : Branches V) → branches_known known branches ≡ true → list_all test (called_in_branches branches) ≡ true → branches_known more branches ≡ true
    branches_more no_branch is all = refl
    branches_more (branch e body rest) is all =
        let first = and_parts (expr_known known e) (body_known known body && branches_known known rest) is in
        let parts = and_parts (body_known known body) (branches_known known rest) first.1 in
        let each = halves (called_in body) (called_in_branches rest) all in
        both (expr_known more e) (body_known more body && branches_known more rest) (expr_more e ∙ first.0)
        (both (body_known more body) (branches_known more rest) (body_more body parts.0 each.0) (branches_more rest parts.1 each.1))

    choices_more : (choices : Choices V) → choices_known known choices ≡ true → list_all test (called_in_choices choices) ≡ true → choices_known more choices ≡ true
    choices_more no_choice is all = refl
    choices_more (choice labels body rest) is all =
        let parts = and_parts (body_known known body) (choices_known known rest) is in
        let each = halves (called_in body) (called_in_choices rest) all in
        both (body_known more body) (choices_known more rest) (body_more body parts.0 each.0) (choices_more rest parts.1 each.1)

bytes_same : (x : List ℕ) → bytes_eq x x ≡ true
bytes_same x = (bytes_decides x x).1 refl

-- each of a list's words is among them
all_among : (xs ys : List (List ℕ)) → ((n : List ℕ) → list_any (same_word n) ys ≡ true → list_any (same_word n) xs ≡ true) → list_all (λ n. list_any (same_word n) xs) ys ≡ true
all_among xs [] within = refl
all_among xs (y ∷ ys) within =
    both (list_any (same_word y) xs) (list_all (λ n. list_any (same_word n) xs) ys) (within y (or_left (same_word y y) (list_any (same_word y) ys) (bytes_same (folded y))))
    (all_among xs ys (λ n here. within n (or_right (same_word n y) (list_any (same_word n) ys) here)))

-- each name in a body that has a number is one that the routine calls, where it is called
pub calls_known : (source : Source) (r : PlainRoutine) → body_known (numbered_in source r) r.body ≡ true → body_known (called_known source r) r.body ≡ true
calls_known source r is = body_more (numbered_in source r) (is_called r) r.body is (all_among (called_in r.body) (called_in r.body) (λ n here. here))

-- two names that are the same word are called alike
pub called_alike : (r : PlainRoutine) (a b : List ℕ) → folded a ≡ folded b → is_called r b ≡ true → is_called r a ≡ true
called_alike r a b same is = ap (λ w. list_any (λ n. bytes_eq w (folded n)) (called_in r.body)) same ∙ is
