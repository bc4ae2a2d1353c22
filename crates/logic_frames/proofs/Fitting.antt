-- The names of a body whose kinds are right are known.
use Rattle.std.proofs.Common.{◌≡◌, refl, ℕ, Bool, true, false, List, [], ◌∷◌, Option, Some, None, inl, inr}
use Rattle.std.specs.Prelude.{◌&&◌, if◌then◌else◌, option_and_then}
use Rattle.std.specs.List.{list_all}
use Rattle.std.proofs.lemmas.Bool.{and_parts, or_cases}
use Rattle.plant_types.specs.declared.values.Kind.{Kind}
use Rattle.plant_types.specs.declared.values.Kind.TheVariants as kind
use Rattle.st_tree.specs.Plain.{PlainExpr, literal, read, output_of, element, unary, binary, PlainArgument, input, output}
use Rattle.st_tree.specs.Plain.{PlainStmt, empty, assign, store, call, if_else, case_of, for_to, PlainBody, done, next, Branches, no_branch, branch, Choices, no_choice, choice}
use Rattle.st_tree.specs.Kinds.{unary_kind, binary_kind, kind_of_expr, is_kind, is_bit, same_kind}
use Rattle.st_tree.specs.Fits.{Context, sorts_of, is_of, option_is_of, fits_option, takes, argument_fits, stmt_fits, all_fit, branches_fit, choices_fit}
use Rattle.st_tree.specs.Every.{every, every_inside, every_branch, every_choice}
use Rattle.st_tree.specs.Mapping.{Known, expr_known, option_known, argument_known, stmt_known, body_known, branches_known, choices_known}
use Rattle.logic_frames.specs.Numbers.{KnowsNames}

pub and_then_some : {A B : Type 0} (f : A → Option B) (o : Option A) (b : B) → option_and_then f o ≡ Some b → (a : A) × (o ≡ Some a) × (f a ≡ Some b)
and_then_some f None b is = absurd (cc)
and_then_some f (Some a) b is = (a, refl, is)

pub some_kind : (k : Kind) (o : Option Kind) → is_kind k o ≡ true → (found : Kind) × (o ≡ Some found)
some_kind k None is = absurd (cc)
some_kind k (Some found) is = (found, refl)

-- an element has a kind where its index is a DINT
tested_kind : (o e : Option Kind) (k : Kind) → (if is_kind kind.Dint o then e else None) ≡ Some k → (o ≡ Some kind.Dint) × (e ≡ Some k)
tested_kind None e k is = absurd (cc)
tested_kind (Some kind.Bool) e k is = absurd (cc)
tested_kind (Some kind.Dint) e k is = (refl, is)
tested_kind (Some kind.Time) e k is = absurd (cc)

pub both : (a b : Bool) → a ≡ true → b ≡ true → (a && b) ≡ true
both true b is also = also
both false b is also = is

module _ {V : Type 0} (context : Context V) (known : Known V) (are : KnowsNames context known) (rule : PlainStmt V → Bool)
    (controlled : (number : ℕ) (v : V) (from to : PlainExpr V) (by : Option (PlainExpr V)) (body : PlainBody V) → rule (for_to number v from to by body) ≡ true → known.has_variable v ≡ true) where
  kind_known : (e : PlainExpr V) (k : Kind) → kind_of_expr (sorts_of context) e ≡ Some k → expr_known known e ≡ true
  kind_known (literal n) k is = refl
  kind_known (read v) k is = are.variables v k is
  kind_known (output_of instance name) k is = are.outputs instance name k is
  kind_known (element v bounds index) k is =
      let first = tested_kind (kind_of_expr (sorts_of context) index) (context.element_kind v bounds) k is in
      both (known.has_array v bounds) (expr_known known index) (are.arrays v bounds k first.1) (kind_known index kind.Dint first.0)
  kind_known (unary op a) k is =
      let first = and_then_some (unary_kind op) (kind_of_expr (sorts_of context) a) k is in
      kind_known a first.0 first.1
  kind_known (binary op a b) k is =
      let first = and_then_some (λ j. option_and_then (binary_kind op j) (kind_of_expr (sorts_of context) b)) (kind_of_expr (sorts_of context) a) k is in
      let second = and_then_some (binary_kind op first.0) (kind_of_expr (sorts_of context) b) k first.2 in
      both (expr_known known a) (expr_known known b) (kind_known a first.0 first.1) (kind_known b second.0 second.1)

  of_known : (k : Kind) (e : PlainExpr V) → is_of context k e ≡ true → expr_known known e ≡ true
  of_known k e is = let found = some_kind k (kind_of_expr (sorts_of context) e) is in kind_known e found.0 found.1

  option_of_known : (k : Kind) (e : Option (PlainExpr V)) → option_is_of context k e ≡ true → option_known known e ≡ true
  option_of_known k None is = refl
  option_of_known k (Some e) is = of_known k e is

  bit_known : (e : PlainExpr V) → is_bit e ≡ true → expr_known known e ≡ true
  bit_known (literal n) is = refl
  bit_known (read v) is = absurd (cc)
  bit_known (output_of instance name) is = absurd (cc)
  bit_known (element v bounds index) is = absurd (cc)
  bit_known (unary op a) is = absurd (cc)
  bit_known (binary op a b) is = absurd (cc)

  fitting_known : (o : Option Kind) (e : PlainExpr V) → fits_option context o e ≡ true → (k : Kind) × (o ≡ Some k) × (expr_known known e ≡ true)
  fitting_known None e is = absurd (cc)
  fitting_known (Some k) e is = (
    k,
    refl,
    elim (or_cases (is_of context k e) (same_kind k kind.Bool && is_bit e) is) [
      | inl of ↦ of_known k e of
      | inr bit ↦ bit_known e (and_parts (same_kind k kind.Bool) (is_bit e) bit).1
    ],
  )

  taken_known : (v : V) (e : PlainExpr V) → takes context v e ≡ true → (known.has_variable v ≡ true) × (expr_known known e ≡ true)
  taken_known v e is =
      let parts = and_parts (context.may_assign v) (fits_option context (context.variable_kind v) e) is in
      (are.assigned v parts.0, (fitting_known (context.variable_kind v) e parts.1).2)

  argument_is : (instance : V) (a : PlainArgument V) → argument_fits context instance a ≡ true → argument_known known instance a ≡ true
  argument_is instance (input name e) is =
      let it = fitting_known (context.input_kind instance name) e is in
      both (known.has_input instance name) (expr_known known e) (are.inputs instance name it.0 it.1) it.2
  argument_is instance (output name v) is =
      let it = taken_known v (output_of instance name) is in
      both (known.has_output instance name) (known.has_variable v) it.1 it.0

  arguments_are : (instance : V) (arguments : List (PlainArgument V)) → list_all (argument_fits context instance) arguments ≡ true → list_all (argument_known known instance) arguments ≡ true
  arguments_are instance [] is = refl
  arguments_are instance (a ∷ rest) is =
      let parts = and_parts (argument_fits context instance a) (list_all (argument_fits context instance) rest) is in
      both (argument_known known instance a) (list_all (argument_known known instance) rest) (argument_is instance a parts.0) (arguments_are instance rest parts.1)

  mutual
    stmt_is : (s : PlainStmt V) → stmt_fits context s ≡ true → rule s ≡ true → every_inside rule s ≡ true → stmt_known known s ≡ true
    stmt_is (empty number) is own inside = refl
    stmt_is (assign number v e) is own inside = let it = taken_known v e is in both (known.has_variable v) (expr_known known e) it.0 it.1
    stmt_is (store number v bounds index value) is own inside =
        let parts = and_parts (is_of context kind.Dint index) (fits_option context (context.element_kind v bounds) value) is in
        let it = fitting_known (context.element_kind v bounds) value parts.1 in
        both (known.has_array v bounds) (expr_known known index && expr_known known value) (are.arrays v bounds it.0 it.1)
        (both (expr_known known index) (expr_known known value) (of_known kind.Dint index parts.0) it.2)
    stmt_is (call number instance arguments) is own inside =
        let parts = and_parts (context.is_instance instance) (list_all (argument_fits context instance) arguments) is in
        both (known.has_instance instance) (list_all (argument_known known instance) arguments) (are.instances instance parts.0) (arguments_are instance arguments parts.1)
    stmt_is (if_else number branches last) is own inside =
        let parts = and_parts (branches_fit context branches) (all_fit context last) is in
        let also = and_parts (every_branch rule branches) (every rule last) inside in
        both (branches_known known branches) (body_known known last) (branches_are branches parts.0 also.0) (body_is last parts.1 also.1)
    stmt_is (case_of number e choices last) is own inside =
        let parts = and_parts (is_of context kind.Dint e) (choices_fit context choices && all_fit context last) is in
        let rest = and_parts (choices_fit context choices) (all_fit context last) parts.1 in
        let also = and_parts (every_choice rule choices) (every rule last) inside in
        both (expr_known known e) (choices_known known choices && body_known known last) (of_known kind.Dint e parts.0)
        (both (choices_known known choices) (body_known known last) (choices_are choices rest.0 also.0) (body_is last rest.1 also.1))
    stmt_is (for_to number v from to by body) is own inside =
        let p = and_parts (is_of context kind.Dint from) (is_of context kind.Dint to && (option_is_of context kind.Dint by && all_fit context body)) is in
        let q = and_parts (is_of context kind.Dint to) (option_is_of context kind.Dint by && all_fit context body) p.1 in
        let r = and_parts (option_is_of context kind.Dint by) (all_fit context body) q.1 in
        both (known.has_variable v) (expr_known known from && (expr_known known to && (option_known known by && body_known known body))) (controlled number v from to by body own)
        (both (expr_known known from) (expr_known known to && (option_known known by && body_known known body)) (of_known kind.Dint from p.0)
        (both (expr_known known to) (option_known known by && body_known known body) (of_known kind.Dint to q.0)
        (both (option_known known by) (body_known known body) (option_of_known kind.Dint by r.0) (body_is body r.1 inside))))

    -- each name of a body is known
    pub body_is : (body : PlainBody V) → all_fit context body ≡ true → every rule body ≡ true → body_known known body ≡ true
    body_is done is controls = refl
    body_is (next s rest) is controls =
        let parts = and_parts (stmt_fits context s) (all_fit context rest) is in
        let also = and_parts (rule s) (every_inside rule s && every rule rest) controls in
        let more = and_parts (every_inside rule s) (every rule rest) also.1 in
        both (stmt_known known s) (body_known known rest) (stmt_is s parts.0 also.0 more.0) (body_is rest parts.1 more.1)

    branches_are : (branches : Branches V) → branches_fit context branches ≡ true → every_branch rule branches ≡ true → branches_known known branches ≡ true
    branches_are no_branch is controls = refl
    branches_are (branch test body rest) is controls =
        let parts = and_parts (is_of context kind.Bool test) (all_fit context body && branches_fit context rest) is in
        let more = and_parts (all_fit context body) (branches_fit context rest) parts.1 in
        let also = and_parts (every rule body) (every_branch rule rest) controls in
        both (expr_known known test) (body_known known body && branches_known known rest) (of_known kind.Bool test parts.0)
        (both (body_known known body) (branches_known known rest) (body_is body more.0 also.0) (branches_are rest more.1 also.1))

    choices_are : (choices : Choices V) → choices_fit context choices ≡ true → every_choice rule choices ≡ true → choices_known known choices ≡ true
    choices_are no_choice is controls = refl
    choices_are (choice labels body rest) is controls =
        let parts = and_parts (all_fit context body) (choices_fit context rest) is in
        let also = and_parts (every rule body) (every_choice rule rest) controls in
        both (body_known known body) (choices_known known rest) (body_is body parts.0 also.0) (choices_are rest parts.1 also.1)
