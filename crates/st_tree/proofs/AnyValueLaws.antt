-- A mapping that keeps worlds matching whatever is assigned keeps each body whose names are known, be its kinds right or wrong; and it is lawful where runs keep the ranges of kinds.
use Rattle.std.proofs.Common.{◌≡◌, ℤ, true, List, [], ◌∷◌}
use Rattle.std.specs.Prelude.{◌&&◌}
use Rattle.std.specs.List.{AllByRecursion, list_all}
use Rattle.std.proofs.lemmas.Bool.{and_parts}
use Rattle.plant_types.specs.declared.values.Bounds.{Bounds}
use Rattle.plant_types.specs.Values.{has_index}
use Rattle.st_tree.specs.Controls.{control_values}
use Rattle.st_tree.specs.Plain.{PlainExpr, PlainBody}
use Rattle.st_tree.specs.Fits.{Context}
use Rattle.st_tree.specs.Meaning.{Space, Ran, Done, Trapped, outcome, run_all}
use Rattle.st_tree.specs.Mapping.{Mapping, mapped_expr, mapped_body, Known, expr_known, option_known, argument_known, stmt_known, body_known, branches_known, choices_known}
use Rattle.st_tree.specs.Alike.{Agree, Same, SameOutcome, IsLawful}
use Rattle.st_tree.specs.Ranges.{Leaves, IsInvariant}
use Rattle.st_tree.proofs.FittedLaws.{index_within}
use Rattle.st_tree.proofs.MappingLaws.{Sets, KeepsValues, Judgement, Steps, expr_alike, body_alike}

-- what IsLawful asks, with any whole number for each known variable and input, and nothing of kinds
pub record IsLawfulForAny {V W A B : Type 0} (known : Known V) (mapping : Mapping V W) (from : Space V A) (to : Space W B) (Matches : A → B → Type 0) : Type 0 where
  pub path_is : from.path ≡ to.path
  pub variable_is : (v : V) (a : A) (b : B) → known.has_variable v ≡ true → Matches a b → from.get a v ≡ to.get b (mapping.variable v)
  pub put_matches : (v : V) (n : ℤ) (a : A) (b : B) → known.has_variable v ≡ true → Matches a b → Matches (from.put a v n) (to.put b (mapping.variable v) n)
  pub element_is : (v : V) (bounds : Bounds) (i : ℤ) (a : A) (b : B) → known.has_array v bounds ≡ true → has_index bounds i ≡ true → Matches a b → from.get_at a v bounds i ≡ to.get_at b (mapping.array v) bounds i
  pub put_at_matches : (v : V) (bounds : Bounds) (i n : ℤ) (a : A) (b : B) → known.has_array v bounds ≡ true → has_index bounds i ≡ true → Matches a b → Matches (from.put_at a v bounds i n) (to.put_at b (mapping.array v) bounds i n)
  pub output_is : (instance name : V) (a : A) (b : B) → known.has_output instance name ≡ true → Matches a b
      → from.get_output a instance name ≡ to.get_output b (mapping.instance instance) (mapping.output_name instance name)
  pub put_input_matches : (instance name : V) (n : ℤ) (a : A) (b : B) → known.has_input instance name ≡ true → Matches a b
      → Matches (from.put_input a instance name n) (to.put_input b (mapping.instance instance) (mapping.input_name instance name) n)
  pub enter_agrees : (instance : V) (a : A) (b : B) → known.has_instance instance ≡ true → Matches a b → Agree Matches (from.enter a instance) (to.enter b (mapping.instance instance))
  pub node_is : (e : PlainExpr W) (a : A) (b : B) → Matches a b → outcome to b (mapping.node e) ≡ outcome to b e

all_of : (P : ℤ → Type 0) → ((n : ℤ) → P n) → (ns : List ℤ) → AllByRecursion P ns
all_of P each [] = tt
all_of P each (n ∷ ns) = (each n, all_of P each ns)

module _ {V W A B : Type 0} (known : Known V) (mapping : Mapping V W) (from : Space V A) (to : Space W B) (Matches : A → B → Type 0) (laws : IsLawfulForAny known mapping from to Matches) where
  values : KeepsValues known mapping from to Matches
  values = record { path_is = laws.path_is; variable_is = laws.variable_is; element_is = laws.element_is; output_is = laws.output_is; node_is = laws.node_is }

  -- that each name is known
  abbrev judged : Judgement V
  judged = record {
    stmt = stmt_known known;
    body = body_known known;
    branches = branches_known known;
    choices = choices_known known;
    arguments = λ instance arguments. list_all (argument_known known instance) arguments;
  }

  steps : Steps known judged mapping from to Matches
  steps = record {
    at_assign = λ number v e is.
        let p = and_parts (known.has_variable v) (expr_known known e) is in
        (p.1, λ a b n m gives. laws.put_matches v n a b p.0 m);
    at_store = λ number v bounds index e is.
        let p = and_parts (known.has_array v bounds) (expr_known known index && expr_known known e) is in
        let q = and_parts (expr_known known index) (expr_known known e) p.1 in
        (q.0, q.1, λ a b i n m told gives. laws.put_at_matches v bounds i n a b p.0 (index_within bounds (outcome from a index) i told) m);
    at_call = λ number instance arguments is.
        let p = and_parts (known.has_instance instance) (list_all (argument_known known instance) arguments) is in
        (λ a b m. laws.enter_agrees instance a b p.0 m, p.1);
    at_input = λ instance name e rest is.
        let p = and_parts (known.has_input instance name && expr_known known e) (list_all (argument_known known instance) rest) is in
        let q = and_parts (known.has_input instance name) (expr_known known e) p.0 in
        (q.1, λ a b n m gives. laws.put_input_matches instance name n a b q.0 m, p.1);
    at_output = λ instance name v rest is.
        let p = and_parts (known.has_output instance name && known.has_variable v) (list_all (argument_known known instance) rest) is in
        let q = and_parts (known.has_output instance name) (known.has_variable v) p.0 in
        (q.0, λ a b m. laws.put_matches v (from.get_output a instance name) a b q.1 m, p.1);
    at_if = λ number branches last is. and_parts (branches_known known branches) (body_known known last) is;
    at_case = λ number e choices last is.
        let p = and_parts (expr_known known e) (choices_known known choices && body_known known last) is in
        let q = and_parts (choices_known known choices) (body_known known last) p.1 in
        (p.0, q.0, q.1);
    at_for = λ number v low high by body is.
        let p = and_parts (known.has_variable v) (expr_known known low && (expr_known known high && (option_known known by && body_known known body))) is in
        let q = and_parts (expr_known known low) (expr_known known high && (option_known known by && body_known known body)) p.1 in
        let r = and_parts (expr_known known high) (option_known known by && body_known known body) q.1 in
        let s = and_parts (option_known known by) (body_known known body) r.1 in
        (q.0, r.0, s.0, λ a b span m gives. all_of (Sets Matches (λ u n. from.put u v n) (λ w n. to.put w (mapping.variable v) n)) (λ n u w k. laws.put_matches v n u w p.0 k) (control_values span), s.1);
    at_next = λ s rest is. and_parts (stmt_known known s) (body_known known rest) is;
    at_branch = λ test body rest is.
        let p = and_parts (expr_known known test) (body_known known body && branches_known known rest) is in
        let q = and_parts (body_known known body) (branches_known known rest) p.1 in
        (p.0, q.0, q.1);
    at_choice = λ labels body rest is. and_parts (body_known known body) (choices_known known rest) is;
  }

  pub expr_same : (e : PlainExpr V) → expr_known known e ≡ true → SameOutcome Matches from to e (mapped_expr mapping e)
  expr_same = expr_alike known mapping from to Matches values

  pub body_same : (body : PlainBody V) → body_known known body ≡ true → Same Matches (run_all from body) (run_all to (mapped_body mapping body))
  body_same = body_alike known mapping from to Matches values judged steps

  -- in worlds that keep the ranges of kinds it is lawful
  module _ (context : Context V) (Holds : A → Type 0) (inv : IsInvariant context from Holds) where
    abbrev Both : A → B → Type 0
    Both a b = Matches a b × Holds a

    both_agree : (r : Ran A) (q : Ran B) → Agree Matches r q → Leaves Holds r → Agree Both r q
    both_agree (Done a) (Done b) same left = (same, left)
    both_agree (Done a) (Trapped b spot trap) same left = absurd same
    both_agree (Trapped a spot trap) (Done b) same left = absurd same
    both_agree (Trapped a spot trap) (Trapped b other kind) same left = ((same.0, left), same.1)

    pub kept_lawful : IsLawful context known mapping from to (λ a b. Matches a b × Holds a)
    kept_lawful = record {
      path_is = laws.path_is;
      variable_is = λ v a b is m. laws.variable_is v a b is m.0;
      variable_in_range = λ v k a b m is. inv.variable_in_range a v k m.1 is;
      put_matches = λ v k n a b there may is fits m. (laws.put_matches v n a b there m.0, inv.put_keeps a v k n m.1 may is fits);
      element_is = λ v bounds i a b is within m. laws.element_is v bounds i a b is within m.0;
      element_in_range = λ v bounds i k a b m is within. inv.element_in_range a v bounds i k m.1 is within;
      put_at_matches = λ v bounds i k n a b there is within fits m. (laws.put_at_matches v bounds i n a b there within m.0, inv.put_at_keeps a v bounds i k n m.1 is within fits);
      output_is = λ instance name a b is m. laws.output_is instance name a b is m.0;
      output_in_range = λ instance name k a b m is. inv.output_in_range a instance name k m.1 is;
      put_input_matches = λ instance name k n a b there is_one is fits m. (laws.put_input_matches instance name n a b there m.0, inv.put_input_keeps a instance name k n m.1 is_one is fits);
      enter_agrees = λ instance a b there is_one m.
          both_agree (from.enter a instance) (to.enter b (mapping.instance instance)) (laws.enter_agrees instance a b there m.0) (inv.enter_keeps a instance m.1 is_one);
      node_is = λ e a b m. laws.node_is e a b m.0;
    }
