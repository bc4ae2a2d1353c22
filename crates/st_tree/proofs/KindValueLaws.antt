-- A lawful mapping keeps each body whose names are known and whose kinds are right: what the body assigns is in the ranges of kinds.
use Rattle.std.proofs.Common.{◌≡◌, refl, ℤ, Bool, true, List, [], ◌∷◌}
use Rattle.std.specs.Prelude.{Option, Some, Ok, ◌&&◌}
use Rattle.std.specs.List.{AllByRecursion, list_all}
use Rattle.std.proofs.lemmas.Bool.{and_parts}
use Rattle.plant_types.specs.declared.values.Bounds.{Bounds}
use Rattle.plant_types.specs.declared.values.Kind.{Kind}
use Rattle.plant_types.specs.declared.values.Kind.TheVariants as kind
use Rattle.st_tree.specs.declared.controls.Span.{Span}
use Rattle.st_tree.specs.Controls.{control_values, span_of}
use Rattle.st_tree.specs.Kinds.{is_kind}
use Rattle.st_tree.specs.Plain.{PlainExpr, output_of, PlainBody}
use Rattle.st_tree.specs.Fits.{Context, sorts_of, is_of, option_is_of, fits_option, takes, argument_fits, stmt_fits, all_fit, branches_fit, choices_fit}
use Rattle.st_tree.specs.Fits.{may_control, stmt_controls_fit, controls_fit, branches_controls_fit, choices_controls_fit}
use Rattle.st_tree.specs.Meaning.{Space, values_in, outcome, index_of, step_of, run_all}
use Rattle.st_tree.specs.Mapping.{Mapping, mapped_expr, mapped_body, Known, expr_known, option_known, argument_known, stmt_known, body_known, branches_known, choices_known}
use Rattle.st_tree.specs.Ranges.{AreInRange}
use Rattle.st_tree.specs.Alike.{Same, SameOutcome, IsLawful, IsKeptBody}
use Rattle.st_tree.proofs.RangeLaws.{InRange}
use Rattle.st_tree.proofs.ControlRangeLaws.{control_values_in_range}
use Rattle.st_tree.proofs.FittedLaws.{kind_is, span_ends, index_within, value_in, fitted_in}
use Rattle.st_tree.proofs.MappingLaws.{Sets, KeepsValues, Judgement, Steps, expr_alike, body_alike}

all_map : (P Q : ℤ → Type 0) → ((n : ℤ) → P n → Q n) → (ns : List ℤ) → AllByRecursion P ns → AllByRecursion Q ns
all_map P Q each [] all = tt
all_map P Q each (n ∷ ns) all = (each n all.0, all_map P Q each ns all.1)

-- three judgements of a part
three : (x y z : Bool) → (x && (y && z)) ≡ true → (x ≡ true) × (y ≡ true) × (z ≡ true)
three x y z is =
    let p = and_parts x (y && z) is in
    let q = and_parts y z p.1 in
    (p.0, q.0, q.1)

joined : (x y z : Bool) → x ≡ true → y ≡ true → z ≡ true → (x && (y && z)) ≡ true
joined x y z first second third = λ i. first i && (second i && third i)

module _ {V W A B : Type 0} (context : Context V) (known : Known V) (mapping : Mapping V W) (from : Space V A) (to : Space W B) (Matches : A → B → Type 0) (laws : IsLawful context known mapping from to Matches) where
  values : KeepsValues known mapping from to Matches
  values = record { path_is = laws.path_is; variable_is = laws.variable_is; element_is = laws.element_is; output_is = laws.output_is; node_is = laws.node_is }

  -- that each name is known, and that kinds and control variables are right
  abbrev judged : Judgement V
  judged = record {
    stmt = λ s. stmt_known known s && (stmt_fits context s && stmt_controls_fit context s);
    body = λ body. body_known known body && (all_fit context body && controls_fit context body);
    branches = λ branches. branches_known known branches && (branches_fit context branches && branches_controls_fit context branches);
    choices = λ choices. choices_known known choices && (choices_fit context choices && choices_controls_fit context choices);
    arguments = λ instance arguments. context.is_instance instance && (list_all (argument_known known instance) arguments && list_all (argument_fits context instance) arguments);
  }

  -- the values that are read in a world that matches are in the ranges of their kinds
  values_within : (a : A) (b : B) → Matches a b → AreInRange (sorts_of context) (values_in from a)
  values_within a b m = record {
    variable_in = λ v k. laws.variable_in_range v k a b m;
    output_in = λ instance name k. laws.output_in_range instance name k a b m;
    element_in = λ v bounds i k. laws.element_in_range v bounds i k a b m;
  }

  -- the value of an expression of a kind
  outcome_in : (e : PlainExpr V) (k : Kind) (a : A) (b : B) (n : ℤ) → Matches a b → is_of context k e ≡ true → outcome from a e ≡ Ok n → InRange k n
  outcome_in e k a b n m is gives =
      value_in context (values_in from a) (values_within a b m) e k n is gives

  -- the kind that is declared where an expression fits, with the range of its value
  outcome_fits : (o : Option Kind) (e : PlainExpr V) (a : A) (b : B) (n : ℤ) → Matches a b → fits_option context o e ≡ true → outcome from a e ≡ Ok n → (k : Kind) × (o ≡ Some k) × InRange k n
  outcome_fits o e a b n m fits gives =
      fitted_in context (values_in from a) (values_within a b m) o e n fits gives

  assigned : (v : V) (e : PlainExpr V) (a : A) (b : B) (n : ℤ) → known.has_variable v ≡ true → takes context v e ≡ true → Matches a b → outcome from a e ≡ Ok n → Matches (from.put a v n) (to.put b (mapping.variable v) n)
  assigned v e a b n there fits m gives =
      let p = and_parts (context.may_assign v) (fits_option context (context.variable_kind v) e) fits in
      let f = outcome_fits (context.variable_kind v) e a b n m p.1 gives in
      laws.put_matches v f.0 n a b there p.0 f.1 f.2 m

  stored : (v : V) (bounds : Bounds) (index e : PlainExpr V) (a : A) (b : B) (i n : ℤ) → known.has_array v bounds ≡ true → fits_option context (context.element_kind v bounds) e ≡ true → Matches a b
      → index_of from a bounds index ≡ Ok i → outcome from a e ≡ Ok n → Matches (from.put_at a v bounds i n) (to.put_at b (mapping.array v) bounds i n)
  stored v bounds index e a b i n there fits m told gives =
      let f = outcome_fits (context.element_kind v bounds) e a b n m fits gives in
      laws.put_at_matches v bounds i f.0 n a b there f.1 (index_within bounds (outcome from a index) i told) f.2 m

  given : (instance name : V) (e : PlainExpr V) (a : A) (b : B) (n : ℤ) → known.has_input instance name ≡ true → context.is_instance instance ≡ true → fits_option context (context.input_kind instance name) e ≡ true → Matches a b → outcome from a e ≡ Ok n
      → Matches (from.put_input a instance name n) (to.put_input b (mapping.instance instance) (mapping.input_name instance name) n)
  given instance name e a b n there is_one fits m gives =
      let f = outcome_fits (context.input_kind instance name) e a b n m fits gives in
      laws.put_input_matches instance name f.0 n a b there is_one f.1 f.2 m

  controlled : (v : V) (low high : PlainExpr V) (by : Option (PlainExpr V)) (a : A) (b : B) (span : Span) → known.has_variable v ≡ true → may_control context v ≡ true → is_of context kind.Dint low ≡ true → is_of context kind.Dint high ≡ true → Matches a b
      → span_of (outcome from a low) (outcome from a high) (step_of from a by) ≡ Ok span → AllByRecursion (Sets Matches (λ u n. from.put u v n) (λ w n. to.put w (mapping.variable v) n)) (control_values span)
  controlled v low high by a b span there may first last m gives =
      let c = and_parts (context.may_assign v) (is_kind kind.Dint (context.variable_kind v)) may in
      let ends = span_ends (outcome from a low) (outcome from a high) (step_of from a by) span gives in
      all_map (InRange kind.Dint) (Sets Matches (λ u n. from.put u v n) (λ w n. to.put w (mapping.variable v) n))
      (λ n fits u w k. laws.put_matches v kind.Dint n u w there c.0 (kind_is kind.Dint (context.variable_kind v) c.1) fits k) (control_values span)
      (control_values_in_range span (outcome_in low kind.Dint a b span.from m first ends.0) (outcome_in high kind.Dint a b span.to m last ends.1))

  steps : Steps known judged mapping from to Matches
  steps = record {
    at_assign = λ number v e is.
        let t = three (known.has_variable v && expr_known known e) (takes context v e) true is in
        let p = and_parts (known.has_variable v) (expr_known known e) t.0 in
        (p.1, λ a b n m gives. assigned v e a b n p.0 t.1 m gives);
    at_store = λ number v bounds index e is.
        let t = three (known.has_array v bounds && (expr_known known index && expr_known known e)) (is_of context kind.Dint index && fits_option context (context.element_kind v bounds) e) true is in
        let p = three (known.has_array v bounds) (expr_known known index) (expr_known known e) t.0 in
        let q = and_parts (is_of context kind.Dint index) (fits_option context (context.element_kind v bounds) e) t.1 in
        (p.1, p.2, λ a b i n m told gives. stored v bounds index e a b i n p.0 q.1 m told gives);
    at_call = λ number instance arguments is.
        let t = three (known.has_instance instance && list_all (argument_known known instance) arguments) (context.is_instance instance && list_all (argument_fits context instance) arguments) true is in
        let p = and_parts (known.has_instance instance) (list_all (argument_known known instance) arguments) t.0 in
        let q = and_parts (context.is_instance instance) (list_all (argument_fits context instance) arguments) t.1 in
        (λ a b m. laws.enter_agrees instance a b p.0 q.0 m, joined (context.is_instance instance) (list_all (argument_known known instance) arguments) (list_all (argument_fits context instance) arguments) q.0 p.1 q.1);
    at_input = λ instance name e rest is.
        let t = three (context.is_instance instance) ((known.has_input instance name && expr_known known e) && list_all (argument_known known instance) rest)
        (fits_option context (context.input_kind instance name) e && list_all (argument_fits context instance) rest) is in
        let p = and_parts (known.has_input instance name && expr_known known e) (list_all (argument_known known instance) rest) t.1 in
        let q = and_parts (known.has_input instance name) (expr_known known e) p.0 in
        let f = and_parts (fits_option context (context.input_kind instance name) e) (list_all (argument_fits context instance) rest) t.2 in
        (q.1, λ a b n m gives. given instance name e a b n q.0 t.0 f.0 m gives, joined (context.is_instance instance) (list_all (argument_known known instance) rest) (list_all (argument_fits context instance) rest) t.0 p.1 f.1);
    at_output = λ instance name v rest is.
        let t = three (context.is_instance instance) ((known.has_output instance name && known.has_variable v) && list_all (argument_known known instance) rest)
        (takes context v (output_of instance name) && list_all (argument_fits context instance) rest) is in
        let p = and_parts (known.has_output instance name && known.has_variable v) (list_all (argument_known known instance) rest) t.1 in
        let q = and_parts (known.has_output instance name) (known.has_variable v) p.0 in
        let f = and_parts (takes context v (output_of instance name)) (list_all (argument_fits context instance) rest) t.2 in (
          q.0,
          λ a b m. assigned v (output_of instance name) a b (from.get_output a instance name) q.1 f.0 m refl,
          joined (context.is_instance instance) (list_all (argument_known known instance) rest) (list_all (argument_fits context instance) rest) t.0 p.1 f.1,
        );
    at_if = λ number branches last is.
        let t = three (branches_known known branches && body_known known last) (branches_fit context branches && all_fit context last) (branches_controls_fit context branches && controls_fit context last) is in
        let p = and_parts (branches_known known branches) (body_known known last) t.0 in
        let q = and_parts (branches_fit context branches) (all_fit context last) t.1 in
        let r = and_parts (branches_controls_fit context branches) (controls_fit context last) t.2 in (
          joined (branches_known known branches) (branches_fit context branches) (branches_controls_fit context branches) p.0 q.0 r.0,
          joined (body_known known last) (all_fit context last) (controls_fit context last) p.1 q.1 r.1,
        );
    at_case = λ number e choices last is.
        let t = three (expr_known known e && (choices_known known choices && body_known known last)) (is_of context kind.Dint e && (choices_fit context choices && all_fit context last))
        (choices_controls_fit context choices && controls_fit context last) is in
        let p = three (expr_known known e) (choices_known known choices) (body_known known last) t.0 in
        let q = three (is_of context kind.Dint e) (choices_fit context choices) (all_fit context last) t.1 in
        let r = and_parts (choices_controls_fit context choices) (controls_fit context last) t.2 in (
          p.0,
          joined (choices_known known choices) (choices_fit context choices) (choices_controls_fit context choices) p.1 q.1 r.0,
          joined (body_known known last) (all_fit context last) (controls_fit context last) p.2 q.2 r.1,
        );
    at_for = λ number v low high by body is.
        let t = three (known.has_variable v && (expr_known known low && (expr_known known high && (option_known known by && body_known known body))))
        (is_of context kind.Dint low && (is_of context kind.Dint high && (option_is_of context kind.Dint by && all_fit context body))) (may_control context v && controls_fit context body) is in
        let p = three (known.has_variable v) (expr_known known low) (expr_known known high && (option_known known by && body_known known body)) t.0 in
        let q = three (expr_known known high) (option_known known by) (body_known known body) p.2 in
        let f = three (is_of context kind.Dint low) (is_of context kind.Dint high) (option_is_of context kind.Dint by && all_fit context body) t.1 in
        let g = and_parts (option_is_of context kind.Dint by) (all_fit context body) f.2 in
        let c = and_parts (may_control context v) (controls_fit context body) t.2 in
        (p.1, q.0, q.1, λ a b span m gives. controlled v low high by a b span p.0 c.0 f.0 f.1 m gives, joined (body_known known body) (all_fit context body) (controls_fit context body) q.2 g.1 c.1);
    at_next = λ s rest is.
        let t = three (stmt_known known s && body_known known rest) (stmt_fits context s && all_fit context rest) (stmt_controls_fit context s && controls_fit context rest) is in
        let p = and_parts (stmt_known known s) (body_known known rest) t.0 in
        let q = and_parts (stmt_fits context s) (all_fit context rest) t.1 in
        let r = and_parts (stmt_controls_fit context s) (controls_fit context rest) t.2 in
        (joined (stmt_known known s) (stmt_fits context s) (stmt_controls_fit context s) p.0 q.0 r.0, joined (body_known known rest) (all_fit context rest) (controls_fit context rest) p.1 q.1 r.1);
    at_branch = λ test body rest is.
        let t = three (expr_known known test && (body_known known body && branches_known known rest)) (is_of context kind.Bool test && (all_fit context body && branches_fit context rest))
        (controls_fit context body && branches_controls_fit context rest) is in
        let p = three (expr_known known test) (body_known known body) (branches_known known rest) t.0 in
        let q = three (is_of context kind.Bool test) (all_fit context body) (branches_fit context rest) t.1 in
        let r = and_parts (controls_fit context body) (branches_controls_fit context rest) t.2 in (
          p.0,
          joined (body_known known body) (all_fit context body) (controls_fit context body) p.1 q.1 r.0,
          joined (branches_known known rest) (branches_fit context rest) (branches_controls_fit context rest) p.2 q.2 r.1,
        );
    at_choice = λ labels body rest is.
        let t = three (body_known known body && choices_known known rest) (all_fit context body && choices_fit context rest) (controls_fit context body && choices_controls_fit context rest) is in
        let p = and_parts (body_known known body) (choices_known known rest) t.0 in
        let q = and_parts (all_fit context body) (choices_fit context rest) t.1 in
        let r = and_parts (controls_fit context body) (choices_controls_fit context rest) t.2 in
        (joined (body_known known body) (all_fit context body) (controls_fit context body) p.0 q.0 r.0, joined (choices_known known rest) (choices_fit context rest) (choices_controls_fit context rest) p.1 q.1 r.1);
  }

  pub kept_expr : (e : PlainExpr V) → expr_known known e ≡ true → SameOutcome Matches from to e (mapped_expr mapping e)
  kept_expr = expr_alike known mapping from to Matches values

  pub kept_body : (body : PlainBody V) → IsKeptBody context known body → Same Matches (run_all from body) (run_all to (mapped_body mapping body))
  kept_body body is =
      body_alike known mapping from to Matches values judged steps body (joined (body_known known body) (all_fit context body) (controls_fit context body) is.names is.kinds is.controls)
