-- A body with other names does what the body does where its names mean what those mean.
use Rattle.std.proofs.Common.{◌≡◌, refl, ap, true}
use Rattle.std.specs.Prelude.{◌&&◌, List, [], ◌∷◌, Option, Some, None}
use Rattle.std.specs.List.{list_all}
use Rattle.st_tree.specs.Plain.{PlainExpr, literal, read, output_of, element, unary, binary, PlainArgument, input, output}
use Rattle.st_tree.specs.Plain.{PlainStmt, empty, assign, store, call, if_else, case_of, for_to, PlainBody, done, next, Branches, no_branch, branch, Choices, no_choice, choice}
use Rattle.st_tree.specs.Meaning.{Space, Ran, Done, Trapped, run_all}
use Rattle.st_tree.specs.Mapping.{mapped_body, identity, renaming, all_known, expr_known, option_known, argument_known, stmt_known, body_known, branches_known, choices_known}
use Rattle.st_tree.specs.Alike.{Agree, renamed_space, renamed_context}
use Rattle.st_tree.specs.Fits.{Context}
use Rattle.st_tree.specs.Ranges.{IsInvariant}
use Rattle.st_tree.proofs.AnyValueLaws.{IsLawfulForAny, body_same}

module _ {V : Type 0} where
  expr_all : (e : PlainExpr V) → expr_known all_known e ≡ true
  expr_all (literal n) = refl
  expr_all (read v) = refl
  expr_all (output_of instance name) = refl
  expr_all (element v bounds index) = expr_all index
  expr_all (unary op a) = expr_all a
  expr_all (binary op a b) = λ i. expr_all a i && expr_all b i

  option_all : (e : Option (PlainExpr V)) → option_known all_known e ≡ true
  option_all None = refl
  option_all (Some e) = expr_all e

  argument_all : (instance : V) (a : PlainArgument V) → argument_known all_known instance a ≡ true
  argument_all instance (input name e) = expr_all e
  argument_all instance (output name v) = refl

  arguments_all : (instance : V) (arguments : List (PlainArgument V)) → list_all (argument_known all_known instance) arguments ≡ true
  arguments_all instance [] = refl
  arguments_all instance (a ∷ rest) = λ i. argument_all instance a i && arguments_all instance rest i

  mutual
    stmt_all : (s : PlainStmt V) → stmt_known all_known s ≡ true
    stmt_all (empty number) = refl
    stmt_all (assign number v e) = expr_all e
    stmt_all (store number v bounds index value) = λ i. expr_all index i && expr_all value i
    stmt_all (call number instance arguments) = arguments_all instance arguments
    stmt_all (if_else number branches last) = λ i. branches_all branches i && body_all last i
    stmt_all (case_of number e choices last) = λ i. expr_all e i && (choices_all choices i && body_all last i)
    stmt_all (for_to number v from to by body) = λ i. expr_all from i && (expr_all to i && (option_all by i && body_all body i))

    pub body_all : (body : PlainBody V) → body_known all_known body ≡ true
    body_all done = refl
    body_all (next s rest) = λ i. stmt_all s i && body_all rest i

    branches_all : (branches : Branches V) → branches_known all_known branches ≡ true
    branches_all no_branch = refl
    branches_all (branch test body rest) = λ i. expr_all test i && (body_all body i && branches_all rest i)

    choices_all : (choices : Choices V) → choices_known all_known choices ≡ true
    choices_all no_choice = refl
    choices_all (choice labels body rest) = λ i. body_all body i && choices_all rest i

module _ {A : Type 0} where
  -- in worlds of one type that are equal
  agree_is : (r q : Ran A) → Agree (λ a b. a ≡ b) r q → r ≡ q
  agree_is (Done a) (Done b) is = ap Done is
  agree_is (Done a) (Trapped b spot trap) is = absurd is
  agree_is (Trapped a spot trap) (Done b) is = absurd is
  agree_is (Trapped a spot trap) (Trapped b other_spot other_trap) is = λ i. Trapped (is.0 i) (is.1.0 i) (is.1.1 i)

  is_agree : (r q : Ran A) → r ≡ q → Agree (λ a b. a ≡ b) r q
  is_agree (Done a) (Done b) is = cc
  is_agree (Done a) (Trapped b spot trap) is = absurd (cc)
  is_agree (Trapped a spot trap) (Done b) is = absurd (cc)
  is_agree (Trapped a spot trap) (Trapped b other_spot other_trap) is = (cc, (cc, cc))

module _ {V W A : Type 0} (f : V → W) (space : Space W A) where
  pub renaming_lawful : IsLawfulForAny all_known (renaming f) (renamed_space f space) space (λ a b. a ≡ b)
  renaming_lawful = record {
    path_is = refl;
    variable_is = λ v a b is same. ap (λ w. space.get w (f v)) same;
    put_matches = λ v n a b is same. ap (λ w. space.put w (f v) n) same;
    element_is = λ v bounds i a b is within same. ap (λ w. space.get_at w (f v) bounds i) same;
    put_at_matches = λ v bounds i n a b is within same. ap (λ w. space.put_at w (f v) bounds i n) same;
    output_is = λ instance name a b is same. ap (λ w. space.get_output w (f instance) (f name)) same;
    put_input_matches = λ instance name n a b is same. ap (λ w. space.put_input w (f instance) (f name) n) same;
    enter_agrees = λ instance a b is same. is_agree (space.enter a (f instance)) (space.enter b (f instance)) (ap (λ w. space.enter w (f instance)) same);
    node_is = λ e a b same. refl;
  }

  -- what worlds keep of the ranges of kinds, they keep under other names
  pub renamed_kept : (context : Context W) (Holds : A → Type 0) → IsInvariant context space Holds → IsInvariant (renamed_context f context) (renamed_space f space) Holds
  renamed_kept context Holds inv = record {
    variable_in_range = λ w v k holds is. inv.variable_in_range w (f v) k holds is;
    output_in_range = λ w instance name k holds is. inv.output_in_range w (f instance) (f name) k holds is;
    element_in_range = λ w v bounds i k holds is within. inv.element_in_range w (f v) bounds i k holds is within;
    put_keeps = λ w v k n holds may is fits. inv.put_keeps w (f v) k n holds may is fits;
    put_at_keeps = λ w v bounds i k n holds is within fits. inv.put_at_keeps w (f v) bounds i k n holds is within fits;
    put_input_keeps = λ w instance name k n holds is_one is fits. inv.put_input_keeps w (f instance) (f name) k n holds is_one is fits;
    enter_keeps = λ w instance holds is_one. inv.enter_keeps w (f instance) holds is_one;
  }

  pub renamed_runs : (body : PlainBody V) (w : A) → run_all (renamed_space f space) body w ≡ run_all space (mapped_body (renaming f) body) w
  renamed_runs body w = agree_is (run_all (renamed_space f space) body w) (run_all space (mapped_body (renaming f) body) w)
      (body_same all_known (renaming f) (renamed_space f space) space (λ a b. a ≡ b) renaming_lawful body (body_all body) w w refl)

-- the mapping that changes nothing
pub identity_lawful : {V A : Type 0} (space : Space V A) → IsLawfulForAny all_known identity space space (λ a b. a ≡ b)
identity_lawful space = renaming_lawful (λ v. v) space
