-- A mapped body does what the body does, where worlds that match do so after each step of the body. What is known of the body is left open here.
use Rattle.std.proofs.Common.{◌≡◌, ◌∙◌, ap, sym, subst, refl, ℕ, ℤ, Bool, true, false, List, [], ◌∷◌}
use Rattle.std.specs.Prelude.{Option, Some, None, Result, Ok, Err, map, if◌then◌else◌}
use Rattle.std.specs.List.{AllByRecursion}
use Rattle.std.proofs.lemmas.Bool.{and_parts}
use Rattle.plant_types.specs.declared.values.Bounds.{Bounds}
use Rattle.plant_types.specs.declared.values.Trap.{Trap}
use Rattle.plant_types.specs.Values.{is_true, has_index, indexed}
use Rattle.st_tree.specs.declared.controls.Span.{Span}
use Rattle.st_tree.specs.declared.tree.Label.{Label}
use Rattle.st_tree.specs.Operators.{Outcome, eval_unary, eval_binary}
use Rattle.st_tree.specs.Controls.{control_values, span_of}
use Rattle.st_tree.specs.Plain.{PlainExpr, literal, read, output_of, element, unary, binary, PlainArgument, input, output}
use Rattle.st_tree.specs.Plain.{PlainStmt, empty, assign, store, call, if_else, case_of, for_to, PlainBody, done, next, Branches, no_branch, branch, Choices, no_choice, choice}
use Rattle.st_tree.specs.Meaning.{Spot, Space, Ran, Done, Trapped, then_one, then_two, then_run, with_value, turns, labels_fit, Chosen, Took, Passed, or_else, on_test, statement_spot, outcome, index_of, step_of, take_inputs, give_outputs, run, run_all, first_true, first_fit}
use Rattle.st_tree.specs.Mapping.{Mapping, mapped_expr, mapped_option, mapped_argument, mapped_stmt, mapped_body, mapped_branches, mapped_choices}
use Rattle.st_tree.specs.Mapping.{Known, expr_known, option_known}
use Rattle.st_tree.specs.Alike.{Agree, Same, SameOutcome}
use Rattle.st_tree.proofs.FittedLaws.{index_within}

module _ {A B : Type 0} (Matches : A → B → Type 0) where
  pub then_alike : (r : Ran A) (q : Ran B) (g : A → Ran A) (h : B → Ran B) → Agree Matches r q → Same Matches g h → Agree Matches (then_run r g) (then_run q h)
  then_alike (Done a) (Done b) g h same rest = rest a b same
  then_alike (Done a) (Trapped b spot trap) g h same rest = absurd same
  then_alike (Trapped a spot trap) (Done b) g h same rest = absurd same
  then_alike (Trapped a spot trap) (Trapped b other kind) g h same rest = same

  value_alike : {X : Type 0} (spot : Spot) (o : Result X Trap) (a : A) (b : B) (g : X → Ran A) (h : X → Ran B) → Matches a b → ((x : X) → o ≡ Ok x → Agree Matches (g x) (h x)) → Agree Matches (with_value a spot o g) (with_value b spot o h)
  value_alike spot (Ok x) a b g h m rest = rest x refl
  value_alike spot (Err trap) a b g h m rest = (m, (refl, refl))

  pub valued : {X : Type 0} (spot place : Spot) (o p : Result X Trap) (a : A) (b : B) (g : X → Ran A) (h : X → Ran B) → Matches a b → spot ≡ place → o ≡ p → ((x : X) → o ≡ Ok x → Agree Matches (g x) (h x))
      → Agree Matches (with_value a spot o g) (with_value b place p h)
  valued spot place o p a b g h m at same rest =
      subst (λ s. Agree Matches (with_value a spot o g) (with_value b s p h)) at (subst (λ x. Agree Matches (with_value a spot o g) (with_value b spot x h)) same (value_alike spot o a b g h m rest))

  abbrev pub ChosenAlike : Chosen A → Chosen B → Type 0
  ChosenAlike (Took r) (Took q) = Agree Matches r q
  ChosenAlike (Took r) (Passed b) = ⊥
  ChosenAlike (Passed a) (Took q) = ⊥
  ChosenAlike (Passed a) (Passed b) = Matches a b

  else_alike : (r : Chosen A) (q : Chosen B) (g : A → Ran A) (h : B → Ran B) → ChosenAlike r q → Same Matches g h → Agree Matches (or_else r g) (or_else q h)
  else_alike (Took r) (Took q) g h same rest = same
  else_alike (Took r) (Passed b) g h same rest = absurd same
  else_alike (Passed a) (Took q) g h same rest = absurd same
  else_alike (Passed a) (Passed b) g h same rest = rest a b same

  chosen_alike : (c : Bool) (r : Ran A) (q : Ran B) (r' : Chosen A) (q' : Chosen B) → Agree Matches r q → ChosenAlike r' q' → ChosenAlike (if c then Took r else r') (if c then Took q else q')
  chosen_alike true r q r' q' same later = same
  chosen_alike false r q r' q' same later = later

  test_alike : (spot : Spot) (o : Outcome) (a : A) (b : B) (g : A → Ran A) (h : B → Ran B) (g' : A → Chosen A) (h' : B → Chosen B) → Matches a b → Agree Matches (g a) (h b) → ChosenAlike (g' a) (h' b)
      → ChosenAlike (on_test a spot o g g') (on_test b spot o h h')
  test_alike spot (Ok n) a b g h g' h' m same later = chosen_alike (is_true n) (g a) (h b) (g' a) (h' b) same later
  test_alike spot (Err trap) a b g h g' h' m same later = (m, (refl, refl))

  tested : (spot place : Spot) (o p : Outcome) (a : A) (b : B) (g : A → Ran A) (h : B → Ran B) (g' : A → Chosen A) (h' : B → Chosen B) → Matches a b → spot ≡ place → o ≡ p → Agree Matches (g a) (h b) → ChosenAlike (g' a) (h' b)
      → ChosenAlike (on_test a spot o g g') (on_test b place p h h')
  tested spot place o p a b g h g' h' m at is same later =
      subst (λ s. ChosenAlike (on_test a spot o g g') (on_test b s p h h')) at (subst (λ x. ChosenAlike (on_test a spot o g g') (on_test b spot x h h')) is (test_alike spot o a b g h g' h' m same later))

  -- both sides go on matching when the control variable takes these values
  abbrev pub Sets : (A → ℤ → A) → (B → ℤ → B) → ℤ → Type 0
  Sets set put n = (u : A) (w : B) → Matches u w → Matches (set u n) (put w n)

  turns_alike : (set : A → ℤ → A) (put : B → ℤ → B) (g : A → Ran A) (h : B → Ran B) (ns : List ℤ) (a : A) (b : B) → AllByRecursion (Sets set put) ns → Same Matches g h → Matches a b
      → Agree Matches (turns set g ns a) (turns put h ns b)
  turns_alike set put g h [] a b sets same m = m
  turns_alike set put g h (n ∷ ns) a b sets same m =
      then_alike (g (set a n)) (h (put b n)) (turns set g ns) (turns put h ns) (same (set a n) (put b n) (sets.0 a b m)) (λ u w k. turns_alike set put g h ns u w sets.1 same k)

-- what a mapping keeps of expressions, and of calls, in worlds that match
pub record KeepsValues {V W A B : Type 0} (known : Known V) (mapping : Mapping V W) (from : Space V A) (to : Space W B) (Matches : A → B → Type 0) : Type 0 where
  pub path_is : from.path ≡ to.path
  pub variable_is : (v : V) (a : A) (b : B) → known.has_variable v ≡ true → Matches a b → from.get a v ≡ to.get b (mapping.variable v)
  pub element_is : (v : V) (bounds : Bounds) (i : ℤ) (a : A) (b : B) → known.has_array v bounds ≡ true → has_index bounds i ≡ true → Matches a b → from.get_at a v bounds i ≡ to.get_at b (mapping.array v) bounds i
  pub output_is : (instance name : V) (a : A) (b : B) → known.has_output instance name ≡ true → Matches a b
      → from.get_output a instance name ≡ to.get_output b (mapping.instance instance) (mapping.output_name instance name)
  pub node_is : (e : PlainExpr W) (a : A) (b : B) → Matches a b → outcome to b (mapping.node e) ≡ outcome to b e

-- a judgement of the parts of a body
pub record Judgement (V : Type 0) : Type 0 where
  pub stmt : PlainStmt V → Bool
  pub body : PlainBody V → Bool
  pub branches : Branches V → Bool
  pub choices : Choices V → Bool
  -- the arguments of a call of an instance
  pub arguments : V → List (PlainArgument V) → Bool

-- a judgement from which follows, part by part, that names are known, that worlds which match do so after each value that is assigned, and that calls agree
pub record Steps {V W A B : Type 0} (known : Known V) (judged : Judgement V) (mapping : Mapping V W) (from : Space V A) (to : Space W B) (Matches : A → B → Type 0) : Type 0 where
  pub at_assign : (number : ℕ) (v : V) (e : PlainExpr V) → judged.stmt (assign number v e) ≡ true
      → (expr_known known e ≡ true) × ((a : A) (b : B) (n : ℤ) → Matches a b → outcome from a e ≡ Ok n → Matches (from.put a v n) (to.put b (mapping.variable v) n))
  pub at_store : (number : ℕ) (v : V) (bounds : Bounds) (index e : PlainExpr V) → judged.stmt (store number v bounds index e) ≡ true
      → (expr_known known index ≡ true) × (expr_known known e ≡ true)
      × ((a : A) (b : B) (i n : ℤ) → Matches a b → index_of from a bounds index ≡ Ok i → outcome from a e ≡ Ok n → Matches (from.put_at a v bounds i n) (to.put_at b (mapping.array v) bounds i n))
  pub at_call : (number : ℕ) (instance : V) (arguments : List (PlainArgument V)) → judged.stmt (call number instance arguments) ≡ true
      → ((a : A) (b : B) → Matches a b → Agree Matches (from.enter a instance) (to.enter b (mapping.instance instance))) × (judged.arguments instance arguments ≡ true)
  pub at_input : (instance name : V) (e : PlainExpr V) (rest : List (PlainArgument V)) → judged.arguments instance (input name e ∷ rest) ≡ true
      → (expr_known known e ≡ true)
      × ((a : A) (b : B) (n : ℤ) → Matches a b → outcome from a e ≡ Ok n → Matches (from.put_input a instance name n) (to.put_input b (mapping.instance instance) (mapping.input_name instance name) n))
      × (judged.arguments instance rest ≡ true)
  pub at_output : (instance name v : V) (rest : List (PlainArgument V)) → judged.arguments instance (output name v ∷ rest) ≡ true
      → (known.has_output instance name ≡ true)
      × ((a : A) (b : B) → Matches a b → Matches (from.put a v (from.get_output a instance name)) (to.put b (mapping.variable v) (from.get_output a instance name)))
      × (judged.arguments instance rest ≡ true)
  pub at_if : (number : ℕ) (branches : Branches V) (last : PlainBody V) → judged.stmt (if_else number branches last) ≡ true → (judged.branches branches ≡ true) × (judged.body last ≡ true)
  pub at_case : (number : ℕ) (e : PlainExpr V) (choices : Choices V) (last : PlainBody V) → judged.stmt (case_of number e choices last) ≡ true
      → (expr_known known e ≡ true) × (judged.choices choices ≡ true) × (judged.body last ≡ true)
  pub at_for : (number : ℕ) (v : V) (low high : PlainExpr V) (by : Option (PlainExpr V)) (body : PlainBody V) → judged.stmt (for_to number v low high by body) ≡ true
      → (expr_known known low ≡ true) × (expr_known known high ≡ true) × (option_known known by ≡ true)
      × ((a : A) (b : B) (span : Span) → Matches a b → span_of (outcome from a low) (outcome from a high) (step_of from a by) ≡ Ok span
      → AllByRecursion (Sets Matches (λ u n. from.put u v n) (λ w n. to.put w (mapping.variable v) n)) (control_values span))
      × (judged.body body ≡ true)
  pub at_next : (s : PlainStmt V) (rest : PlainBody V) → judged.body (next s rest) ≡ true → (judged.stmt s ≡ true) × (judged.body rest ≡ true)
  pub at_branch : (test : PlainExpr V) (body : PlainBody V) (rest : Branches V) → judged.branches (branch test body rest) ≡ true
      → (expr_known known test ≡ true) × (judged.body body ≡ true) × (judged.branches rest ≡ true)
  pub at_choice : (labels : List Label) (body : PlainBody V) (rest : Choices V) → judged.choices (choice labels body rest) ≡ true → (judged.body body ≡ true) × (judged.choices rest ≡ true)

element_alike : (o p : Outcome) (f g : ℤ → ℤ) → o ≡ p → ((i : ℤ) → o ≡ Ok i → f i ≡ g i) → then_one o (λ i. Ok (f i)) ≡ then_one p (λ i. Ok (g i))
element_alike (Ok i) p f g is same = (λ j. Ok (same i refl j)) ∙ ap (λ q. then_one q (λ i. Ok (g i))) is
element_alike (Err trap) p f g is same = ap (λ q. then_one q (λ i. Ok (g i))) is

module _ {V W A B : Type 0} (known : Known V) (mapping : Mapping V W) (from : Space V A) (to : Space W B) (Matches : A → B → Type 0) (laws : KeepsValues known mapping from to Matches) where
  at : (number : ℕ) → statement_spot from number ≡ statement_spot to number
  at number = ap (λ p. record { path = p; statement = number }) laws.path_is

  pub expr_alike : (e : PlainExpr V) → expr_known known e ≡ true → SameOutcome Matches from to e (mapped_expr mapping e)
  expr_alike (literal n) is a b m = refl
  expr_alike (read v) is a b m = ap Ok (laws.variable_is v a b is m)
  expr_alike (output_of instance name) is a b m = ap Ok (laws.output_is instance name a b is m)
  expr_alike (element v bounds index) is a b m =
      let parts = and_parts (known.has_array v bounds) (expr_known known index) is in
      element_alike (index_of from a bounds index) (index_of to b bounds (mapped_expr mapping index)) (from.get_at a v bounds) (to.get_at b (mapping.array v) bounds) (ap (λ o. then_one o (indexed bounds)) (expr_alike index parts.1 a b m))
      (λ i told. laws.element_is v bounds i a b parts.0 (index_within bounds (outcome from a index) i told) m)
  expr_alike (unary op x) is a b m =
      ap (λ o. then_one o (eval_unary op)) (expr_alike x is a b m) ∙ sym (laws.node_is (unary op (mapped_expr mapping x)) a b m)
  expr_alike (binary op x y) is a b m =
      let parts = and_parts (expr_known known x) (expr_known known y) is in
      let left = expr_alike x parts.0 a b m in
      let right = expr_alike y parts.1 a b m in
      (λ i. then_two (left i) (right i) (eval_binary op)) ∙ sym (laws.node_is (binary op (mapped_expr mapping x) (mapped_expr mapping y)) a b m)

  -- an index that is tested
  index_alike : (bounds : Bounds) (index : PlainExpr V) → expr_known known index ≡ true → (a : A) (b : B) → Matches a b → index_of from a bounds index ≡ index_of to b bounds (mapped_expr mapping index)
  index_alike bounds index is a b m = ap (λ o. then_one o (indexed bounds)) (expr_alike index is a b m)

  step_alike : (by : Option (PlainExpr V)) → option_known known by ≡ true → (a : A) (b : B) → Matches a b → step_of from a by ≡ step_of to b (mapped_option mapping by)
  step_alike None is a b m = refl
  step_alike (Some e) is a b m = expr_alike e is a b m

  module _ (judged : Judgement V) (steps : Steps known judged mapping from to Matches) where
    inputs_alike : (number : ℕ) (instance : V) (arguments : List (PlainArgument V)) (a : A) (b : B) → Matches a b → judged.arguments instance arguments ≡ true
        → Agree Matches (take_inputs from number instance arguments a) (take_inputs to number (mapping.instance instance) (map (mapped_argument mapping instance) arguments) b)
    inputs_alike number instance [] a b m is = m
    inputs_alike number instance (input name e ∷ rest) a b m is =
        let s = steps.at_input instance name e rest is in
        valued Matches (statement_spot from number) (statement_spot to number) (outcome from a e) (outcome to b (mapped_expr mapping e)) a b
        (λ n. take_inputs from number instance rest (from.put_input a instance name n))
        (λ n. take_inputs to number (mapping.instance instance) (map (mapped_argument mapping instance) rest) (to.put_input b (mapping.instance instance) (mapping.input_name instance name) n))
        m (at number) (expr_alike e s.0 a b m)
        (λ n gives. inputs_alike number instance rest (from.put_input a instance name n) (to.put_input b (mapping.instance instance) (mapping.input_name instance name) n) (s.1 a b n m gives) s.2)
    inputs_alike number instance (output name v ∷ rest) a b m is = inputs_alike number instance rest a b m (steps.at_output instance name v rest is).2

    outputs_match : (instance : V) (arguments : List (PlainArgument V)) (a : A) (b : B) → Matches a b → judged.arguments instance arguments ≡ true
        → Matches (give_outputs from instance arguments a) (give_outputs to (mapping.instance instance) (map (mapped_argument mapping instance) arguments) b)
    outputs_match instance [] a b m is = m
    outputs_match instance (input name e ∷ rest) a b m is = outputs_match instance rest a b m (steps.at_input instance name e rest is).2
    outputs_match instance (output name v ∷ rest) a b m is =
        let s = steps.at_output instance name v rest is in
        let x = from.get_output a instance name in
        let y = to.get_output b (mapping.instance instance) (mapping.output_name instance name) in
        let same : x ≡ y = laws.output_is instance name a b s.0 m in
        outputs_match instance rest (from.put a v x) (to.put b (mapping.variable v) y) (subst (λ n. Matches (from.put a v x) (to.put b (mapping.variable v) n)) same (s.1 a b m)) s.2

    mutual
      pub stmt_alike : (s : PlainStmt V) → judged.stmt s ≡ true → Same Matches (run from s) (run to (mapped_stmt mapping s))
      stmt_alike (empty number) is a b m = m
      stmt_alike (assign number v e) is a b m =
          let s = steps.at_assign number v e is in
          valued Matches (statement_spot from number) (statement_spot to number) (outcome from a e) (outcome to b (mapped_expr mapping e)) a b
          (λ n. Done (from.put a v n)) (λ n. Done (to.put b (mapping.variable v) n)) m (at number) (expr_alike e s.0 a b m) (λ n gives. s.1 a b n m gives)
      stmt_alike (store number v bounds index e) is a b m =
          let s = steps.at_store number v bounds index e is in
          valued Matches (statement_spot from number) (statement_spot to number) (index_of from a bounds index) (index_of to b bounds (mapped_expr mapping index)) a b
          (λ i. with_value a (statement_spot from number) (outcome from a e) (λ n. Done (from.put_at a v bounds i n)))
          (λ i. with_value b (statement_spot to number) (outcome to b (mapped_expr mapping e)) (λ n. Done (to.put_at b (mapping.array v) bounds i n)))
          m (at number) (index_alike bounds index s.0 a b m)
          (λ i told. valued Matches (statement_spot from number) (statement_spot to number) (outcome from a e) (outcome to b (mapped_expr mapping e)) a b
          (λ n. Done (from.put_at a v bounds i n)) (λ n. Done (to.put_at b (mapping.array v) bounds i n)) m (at number) (expr_alike e s.1 a b m) (λ n gives. s.2 a b i n m told gives))
      stmt_alike (call number instance arguments) is a b m =
          let s = steps.at_call number instance arguments is in
          let own = mapping.instance instance in
          let given = map (mapped_argument mapping instance) arguments in
          then_alike Matches (then_run (take_inputs from number instance arguments a) (λ u. from.enter u instance)) (then_run (take_inputs to number own given b) (λ u. to.enter u own))
          (λ u. Done (give_outputs from instance arguments u)) (λ u. Done (give_outputs to own given u))
          (then_alike Matches (take_inputs from number instance arguments a) (take_inputs to number own given b) (λ u. from.enter u instance) (λ u. to.enter u own)
          (inputs_alike number instance arguments a b m s.1) (λ u w k. s.0 u w k))
          (λ u w k. outputs_match instance arguments u w k s.1)
      stmt_alike (if_else number branches last) is a b m =
          let s = steps.at_if number branches last is in
          else_alike Matches (first_true from number branches a) (first_true to number (mapped_branches mapping branches) b) (run_all from last) (run_all to (mapped_body mapping last))
          (branches_alike branches number s.0 a b m) (body_alike last s.1)
      stmt_alike (case_of number e choices last) is a b m =
          let s = steps.at_case number e choices last is in
          valued Matches (statement_spot from number) (statement_spot to number) (outcome from a e) (outcome to b (mapped_expr mapping e)) a b
          (λ n. or_else (first_fit from n choices a) (run_all from last)) (λ n. or_else (first_fit to n (mapped_choices mapping choices) b) (run_all to (mapped_body mapping last)))
          m (at number) (expr_alike e s.0 a b m)
          (λ n gives. else_alike Matches (first_fit from n choices a) (first_fit to n (mapped_choices mapping choices) b) (run_all from last) (run_all to (mapped_body mapping last))
          (choices_alike choices n s.1 a b m) (body_alike last s.2))
      stmt_alike (for_to number v low high by body) is a b m =
          let s = steps.at_for number v low high by body is in
          let low_same = expr_alike low s.0 a b m in
          let high_same = expr_alike high s.1 a b m in
          let by_same = step_alike by s.2 a b m in
          valued Matches (statement_spot from number) (statement_spot to number) (span_of (outcome from a low) (outcome from a high) (step_of from a by))
          (span_of (outcome to b (mapped_expr mapping low)) (outcome to b (mapped_expr mapping high)) (step_of to b (mapped_option mapping by))) a b
          (λ span. turns (λ u n. from.put u v n) (run_all from body) (control_values span) a) (λ span. turns (λ u n. to.put u (mapping.variable v) n) (run_all to (mapped_body mapping body)) (control_values span) b)
          m (at number) (λ i. span_of (low_same i) (high_same i) (by_same i))
          (λ span gives. turns_alike Matches (λ u n. from.put u v n) (λ u n. to.put u (mapping.variable v) n) (run_all from body) (run_all to (mapped_body mapping body)) (control_values span) a b
          (s.3 a b span m gives) (body_alike body s.4) m)

      pub body_alike : (body : PlainBody V) → judged.body body ≡ true → Same Matches (run_all from body) (run_all to (mapped_body mapping body))
      body_alike done is a b m = m
      body_alike (next s rest) is a b m =
          let parts = steps.at_next s rest is in
          then_alike Matches (run from s a) (run to (mapped_stmt mapping s) b) (run_all from rest) (run_all to (mapped_body mapping rest)) (stmt_alike s parts.0 a b m) (body_alike rest parts.1)

      branches_alike : (branches : Branches V) (number : ℕ) → judged.branches branches ≡ true → (a : A) (b : B) → Matches a b
          → ChosenAlike Matches (first_true from number branches a) (first_true to number (mapped_branches mapping branches) b)
      branches_alike no_branch number is a b m = m
      branches_alike (branch test body rest) number is a b m =
          let s = steps.at_branch test body rest is in
          tested Matches (statement_spot from number) (statement_spot to number) (outcome from a test) (outcome to b (mapped_expr mapping test)) a b
          (run_all from body) (run_all to (mapped_body mapping body)) (first_true from number rest) (first_true to number (mapped_branches mapping rest))
          m (at number) (expr_alike test s.0 a b m) (body_alike body s.1 a b m) (branches_alike rest number s.2 a b m)

      choices_alike : (choices : Choices V) (n : ℤ) → judged.choices choices ≡ true → (a : A) (b : B) → Matches a b
          → ChosenAlike Matches (first_fit from n choices a) (first_fit to n (mapped_choices mapping choices) b)
      choices_alike no_choice n is a b m = m
      choices_alike (choice labels body rest) n is a b m =
          let s = steps.at_choice labels body rest is in
          chosen_alike Matches (labels_fit n labels) (run_all from body a) (run_all to (mapped_body mapping body) b) (first_fit from n rest a) (first_fit to n (mapped_choices mapping rest) b)
          (body_alike body s.0 a b m) (choices_alike rest n s.1 a b m)
