-- A run of a body whose kinds are right keeps an invariant, be it to a trap.
use Rattle.std.proofs.Common.{◌≡◌, refl, ℕ, ℤ, Bool, true, false, List, [], ◌∷◌}
use Rattle.std.specs.Prelude.{Option, Some, Result, Ok, Err, ◌&&◌, if◌then◌else◌}
use Rattle.std.specs.List.{AllByRecursion, list_all}
use Rattle.std.proofs.lemmas.Bool.{and_parts}
use Rattle.plant_types.specs.declared.values.Bounds.{Bounds}
use Rattle.plant_types.specs.declared.values.Kind.{Kind}
use Rattle.plant_types.specs.declared.values.Kind.TheVariants as kind
use Rattle.plant_types.specs.declared.values.Trap.{Trap}
use Rattle.plant_types.specs.Values.{is_true}
use Rattle.st_tree.specs.Plain.{PlainExpr, output_of, PlainArgument, input, output}
use Rattle.st_tree.specs.Plain.{PlainStmt, empty, assign, store, call, if_else, case_of, for_to, PlainBody, done, next, Branches, no_branch, branch, Choices, no_choice, choice}
use Rattle.st_tree.specs.Operators.{Outcome}
use Rattle.st_tree.specs.Controls.{control_values, span_of}
use Rattle.st_tree.specs.Kinds.{is_kind}
use Rattle.st_tree.specs.Fits.{Context, sorts_of, is_of, option_is_of, fits_option, takes, argument_fits, stmt_fits, all_fit, branches_fit, choices_fit}
use Rattle.st_tree.specs.Fits.{may_control, stmt_controls_fit, controls_fit, branches_controls_fit, choices_controls_fit}
use Rattle.st_tree.specs.Meaning.{Spot, Space, Ran, Done, Trapped, then_run, with_value, turns, labels_fit, Chosen, Took, Passed, or_else, on_test, statement_spot, values_in, outcome, index_of, step_of, take_inputs, give_outputs, run, run_all, first_true, first_fit}
use Rattle.st_tree.specs.Ranges.{Leaves, AreInRange, IsInvariant}
use Rattle.st_tree.proofs.RangeLaws.{InRange}
use Rattle.st_tree.proofs.FittedLaws.{kind_is, span_ends, index_within, value_in, fitted_in}
use Rattle.st_tree.proofs.ControlRangeLaws.{control_values_in_range}

module _ {V W : Type 0} (context : Context V) (space : Space V W) (Holds : W → Type 0) (inv : IsInvariant context space Holds) where
  abbrev ChosenLeaves : Chosen W → Type 0
  ChosenLeaves (Took r) = Leaves Holds r
  ChosenLeaves (Passed w) = Holds w

  -- the values that are read in a world are in the ranges of their kinds
  values_within : (w : W) → Holds w → AreInRange (sorts_of context) (values_in space w)
  values_within w holds = record {
    variable_in = λ v k. inv.variable_in_range w v k holds;
    output_in = λ instance name k. inv.output_in_range w instance name k holds;
    element_in = λ v bounds i k. inv.element_in_range w v bounds i k holds;
  }

  -- the value of an expression of a kind
  outcome_in : (w : W) (e : PlainExpr V) (k : Kind) (n : ℤ) → Holds w → is_of context k e ≡ true → outcome space w e ≡ Ok n → InRange k n
  outcome_in w e k n holds is gives =
      value_in context (values_in space w) (values_within w holds) e k n is gives

  -- the kind that is declared where an expression fits, with the range of its value
  outcome_fits : (o : Option Kind) (e : PlainExpr V) (w : W) (n : ℤ) → Holds w → fits_option context o e ≡ true → outcome space w e ≡ Ok n → (k : Kind) × (o ≡ Some k) × InRange k n
  outcome_fits o e w n holds fits gives =
      fitted_in context (values_in space w) (values_within w holds) o e n fits gives

  -- an assignment that fits keeps the invariant, and so do one of an element and an input of a call
  taken : (v : V) (e : PlainExpr V) (w : W) (n : ℤ) → Holds w → takes context v e ≡ true → outcome space w e ≡ Ok n → Holds (space.put w v n)
  taken v e w n holds fits gives =
      let parts = and_parts (context.may_assign v) (fits_option context (context.variable_kind v) e) fits in
      let f = outcome_fits (context.variable_kind v) e w n holds parts.1 gives in
      inv.put_keeps w v f.0 n holds parts.0 f.1 f.2

  stored : (v : V) (bounds : Bounds) (index e : PlainExpr V) (w : W) (i n : ℤ) → Holds w → fits_option context (context.element_kind v bounds) e ≡ true → index_of space w bounds index ≡ Ok i → outcome space w e ≡ Ok n → Holds (space.put_at w v bounds i n)
  stored v bounds index e w i n holds fits told gives =
      let f = outcome_fits (context.element_kind v bounds) e w n holds fits gives in
      inv.put_at_keeps w v bounds i f.0 n holds f.1 (index_within bounds (outcome space w index) i told) f.2

  put_input_fits : (instance name : V) (e : PlainExpr V) (w : W) (n : ℤ) → Holds w → context.is_instance instance ≡ true → fits_option context (context.input_kind instance name) e ≡ true → outcome space w e ≡ Ok n
      → Holds (space.put_input w instance name n)
  put_input_fits instance name e w n holds is_one fits gives =
      let f = outcome_fits (context.input_kind instance name) e w n holds fits gives in
      inv.put_input_keeps w instance name f.0 n holds is_one f.1 f.2

  after_value : {A : Type 0} (w : W) (spot : Spot) (o : Result A Trap) (rest : A → Ran W) → Holds w → ((a : A) → o ≡ Ok a → Leaves Holds (rest a)) → Leaves Holds (with_value w spot o rest)
  after_value w spot (Ok a) rest holds later = later a refl
  after_value w spot (Err trap) rest holds later = holds

  after_run : (r : Ran W) (rest : W → Ran W) → Leaves Holds r → ((u : W) → Holds u → Leaves Holds (rest u)) → Leaves Holds (then_run r rest)
  after_run (Done w) rest left later = later w left
  after_run (Trapped w spot trap) rest left later = left

  after_choice : (c : Chosen W) (last : W → Ran W) → ChosenLeaves c → ((u : W) → Holds u → Leaves Holds (last u)) → Leaves Holds (or_else c last)
  after_choice (Took r) last left later = left
  after_choice (Passed w) last left later = later w left

  chosen_by : (b : Bool) (r : Ran W) (c : Chosen W) → Leaves Holds r → ChosenLeaves c → ChosenLeaves (if b then Took r else c)
  chosen_by true r c left later = left
  chosen_by false r c left later = later

  after_test : (w : W) (spot : Spot) (o : Outcome) (body : W → Ran W) (later : W → Chosen W) → Holds w → Leaves Holds (body w) → ChosenLeaves (later w) → ChosenLeaves (on_test w spot o body later)
  after_test w spot (Ok n) body later holds left passed = chosen_by (is_true n) (body w) (later w) left passed
  after_test w spot (Err trap) body later holds left passed = holds

  after_turns : (v : V) (body : W → Ran W) (ns : List ℤ) (w : W) → ((u : W) (n : ℤ) → Holds u → InRange kind.Dint n → Holds (space.put u v n)) → ((u : W) → Holds u → Leaves Holds (body u)) → AllByRecursion (InRange kind.Dint) ns → Holds w
      → Leaves Holds (turns (λ u n. space.put u v n) body ns w)
  after_turns v body [] w set each ins holds = holds
  after_turns v body (n ∷ ns) w set each ins holds =
      after_run (body (space.put w v n)) (turns (λ u n. space.put u v n) body ns) (each (space.put w v n) (set w n holds ins.0)) (λ u h. after_turns v body ns u set each ins.1 h)

  -- the inputs of a call
  inputs_keep : (number : ℕ) (instance : V) (arguments : List (PlainArgument V)) (w : W) → context.is_instance instance ≡ true → list_all (argument_fits context instance) arguments ≡ true → Holds w → Leaves Holds (take_inputs space number instance arguments w)
  inputs_keep number instance [] w is_one fits holds = holds
  inputs_keep number instance (input name e ∷ rest) w is_one fits holds =
      let f = and_parts (fits_option context (context.input_kind instance name) e) (list_all (argument_fits context instance) rest) fits in
      after_value w (statement_spot space number) (outcome space w e) (λ n. take_inputs space number instance rest (space.put_input w instance name n)) holds
      (λ n gives. inputs_keep number instance rest (space.put_input w instance name n) is_one f.1 (put_input_fits instance name e w n holds is_one f.0 gives))
  inputs_keep number instance (output name v ∷ rest) w is_one fits holds =
      inputs_keep number instance rest w is_one (and_parts (takes context v (output_of instance name)) (list_all (argument_fits context instance) rest) fits).1 holds

  -- the outputs of a call
  outputs_keep : (instance : V) (arguments : List (PlainArgument V)) (w : W) → list_all (argument_fits context instance) arguments ≡ true → Holds w → Holds (give_outputs space instance arguments w)
  outputs_keep instance [] w fits holds = holds
  outputs_keep instance (input name e ∷ rest) w fits holds =
      outputs_keep instance rest w (and_parts (fits_option context (context.input_kind instance name) e) (list_all (argument_fits context instance) rest) fits).1 holds
  outputs_keep instance (output name v ∷ rest) w fits holds =
      let f = and_parts (takes context v (output_of instance name)) (list_all (argument_fits context instance) rest) fits in
      outputs_keep instance rest (space.put w v (space.get_output w instance name)) f.1 (taken v (output_of instance name) w (space.get_output w instance name) holds f.0 refl)

  mutual
    pub run_keeps : (s : PlainStmt V) (w : W) → stmt_fits context s ≡ true → stmt_controls_fit context s ≡ true → Holds w → Leaves Holds (run space s w)
    run_keeps (empty number) w fits may holds = holds
    run_keeps (assign number v e) w fits may holds =
        after_value w (statement_spot space number) (outcome space w e) (λ n. Done (space.put w v n)) holds (λ n gives. taken v e w n holds fits gives)
    run_keeps (store number v bounds index value) w fits may holds =
        let f = and_parts (is_of context kind.Dint index) (fits_option context (context.element_kind v bounds) value) fits in
        after_value w (statement_spot space number) (index_of space w bounds index) (λ i. with_value w (statement_spot space number) (outcome space w value) (λ n. Done (space.put_at w v bounds i n))) holds
        (λ i told. after_value w (statement_spot space number) (outcome space w value) (λ n. Done (space.put_at w v bounds i n)) holds
        (λ n gives. stored v bounds index value w i n holds f.1 told gives))
    run_keeps (call number instance arguments) w fits may holds =
        let f = and_parts (context.is_instance instance) (list_all (argument_fits context instance) arguments) fits in
        after_run (then_run (take_inputs space number instance arguments w) (λ u. space.enter u instance)) (λ u. Done (give_outputs space instance arguments u))
        (after_run (take_inputs space number instance arguments w) (λ u. space.enter u instance) (inputs_keep number instance arguments w f.0 f.1 holds) (λ u h. inv.enter_keeps u instance h f.0))
        (λ u h. outputs_keep instance arguments u f.1 h)
    run_keeps (if_else number branches last) w fits may holds =
        let f = and_parts (branches_fit context branches) (all_fit context last) fits in
        let m = and_parts (branches_controls_fit context branches) (controls_fit context last) may in
        after_choice (first_true space number branches w) (run_all space last) (first_true_keeps branches number w f.0 m.0 holds) (λ u h. run_all_keeps last u f.1 m.1 h)
    run_keeps (case_of number e choices last) w fits may holds =
        let f = and_parts (is_of context kind.Dint e) (choices_fit context choices && all_fit context last) fits in
        let g = and_parts (choices_fit context choices) (all_fit context last) f.1 in
        let m = and_parts (choices_controls_fit context choices) (controls_fit context last) may in
        after_value w (statement_spot space number) (outcome space w e) (λ n. or_else (first_fit space n choices w) (run_all space last)) holds
        (λ n gives. after_choice (first_fit space n choices w) (run_all space last) (first_fit_keeps choices n w g.0 m.0 holds) (λ u h. run_all_keeps last u g.1 m.1 h))
    run_keeps (for_to number v from to by body) w fits may holds =
        let f = and_parts (is_of context kind.Dint from) (is_of context kind.Dint to && (option_is_of context kind.Dint by && all_fit context body)) fits in
        let g = and_parts (is_of context kind.Dint to) (option_is_of context kind.Dint by && all_fit context body) f.1 in
        let h = and_parts (option_is_of context kind.Dint by) (all_fit context body) g.1 in
        let m = and_parts (may_control context v) (controls_fit context body) may in
        let c = and_parts (context.may_assign v) (is_kind kind.Dint (context.variable_kind v)) m.0 in
        after_value w (statement_spot space number) (span_of (outcome space w from) (outcome space w to) (step_of space w by)) (λ span. turns (λ u n. space.put u v n) (run_all space body) (control_values span) w) holds
        (λ span gives.
        let ends = span_ends (outcome space w from) (outcome space w to) (step_of space w by) span gives in
        let low = outcome_in w from kind.Dint span.from holds f.0 ends.0 in
        let high = outcome_in w to kind.Dint span.to holds g.0 ends.1 in
        after_turns v (run_all space body) (control_values span) w (λ u n k i. inv.put_keeps u v kind.Dint n k c.0 (kind_is kind.Dint (context.variable_kind v) c.1) i) (λ u k. run_all_keeps body u h.1 m.1 k)
        (control_values_in_range span low high) holds)

    pub run_all_keeps : (body : PlainBody V) (w : W) → all_fit context body ≡ true → controls_fit context body ≡ true → Holds w → Leaves Holds (run_all space body w)
    run_all_keeps done w fits may holds = holds
    run_all_keeps (next s rest) w fits may holds =
        let f = and_parts (stmt_fits context s) (all_fit context rest) fits in
        let m = and_parts (stmt_controls_fit context s) (controls_fit context rest) may in
        after_run (run space s w) (run_all space rest) (run_keeps s w f.0 m.0 holds) (λ u h. run_all_keeps rest u f.1 m.1 h)

    first_true_keeps : (branches : Branches V) (number : ℕ) (w : W) → branches_fit context branches ≡ true → branches_controls_fit context branches ≡ true → Holds w → ChosenLeaves (first_true space number branches w)
    first_true_keeps no_branch number w fits may holds = holds
    first_true_keeps (branch test body rest) number w fits may holds =
        let f = and_parts (is_of context kind.Bool test) (all_fit context body && branches_fit context rest) fits in
        let g = and_parts (all_fit context body) (branches_fit context rest) f.1 in
        let m = and_parts (controls_fit context body) (branches_controls_fit context rest) may in
        after_test w (statement_spot space number) (outcome space w test) (run_all space body) (first_true space number rest) holds (run_all_keeps body w g.0 m.0 holds) (first_true_keeps rest number w g.1 m.1 holds)

    first_fit_keeps : (choices : Choices V) (n : ℤ) (w : W) → choices_fit context choices ≡ true → choices_controls_fit context choices ≡ true → Holds w → ChosenLeaves (first_fit space n choices w)
    first_fit_keeps no_choice n w fits may holds = holds
    first_fit_keeps (choice labels body rest) n w fits may holds =
        let f = and_parts (all_fit context body) (choices_fit context rest) fits in
        let m = and_parts (controls_fit context body) (choices_controls_fit context rest) may in
        chosen_by (labels_fit n labels) (run_all space body w) (first_fit space n rest w) (run_all_keeps body w f.0 m.0 holds) (first_fit_keeps rest n w f.1 m.1 holds)
