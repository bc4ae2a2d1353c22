-- Each FOR in the frames of well-formed units has constant bounds, which are DINTs, and a constant step.
use Rattle.std.proofs.Common.{◌≡◌, ◌∙◌, ◌<◌, ◌+◌, ◌-◌, ap, sym, subst, refl, ℕ, zero, suc, ℤ, pos, Bool, true, false, List, [], ◌∷◌, length, nat_lt, Option, Some, None, slice_get, inl, inr, arith}
use Rattle.std.specs.Prelude.{◌&&◌, if◌then◌else◌, unwrap_or, option_map, option_and_then, Ok, Err}
use Rattle.std.proofs.lemmas.Bool.{and_parts, cases_Bool}
use Rattle.std.proofs.lemmas.Bool.Decides.{nat_tests}
use Rattle.std.proofs.lemmas.Option.{slice_get_within}
use Rattle.plant_types.specs.declared.values.Kind.{Kind}
use Rattle.plant_types.specs.declared.values.Kind.TheVariants as kind
use Rattle.plant_types.specs.Values.{is_in_range}
use Rattle.st_tree.specs.declared.tree.Unary.{Unary}
use Rattle.st_tree.specs.declared.tree.Unary.TheVariants.{Not, Negate, NegateTime}
use Rattle.st_tree.specs.declared.tree.Binary.{Binary}
use Rattle.st_tree.specs.declared.tree.Binary.TheVariants.{And, Xor, Or, Equal, Unequal, Less, Greater, AtMost, AtLeast, Add, AddTime, Subtract, SubtractTime, Multiply, Divide, Mod}
use Rattle.st_tree.specs.Plain.{PlainExpr, literal, read, output_of, element, unary, binary}
use Rattle.st_tree.specs.Plain.{PlainStmt, empty, assign, store, call, if_else, case_of, for_to, PlainBody, done, next, Branches, no_branch, branch, Choices, no_choice, choice}
use Rattle.st_tree.specs.View.{view_body}
use Rattle.st_tree.specs.Operators.{Outcome, eval_unary, eval_binary}
use Rattle.st_tree.specs.Meaning.{ValuesOf, then_one, then_two}
use Rattle.st_tree.specs.Constants.{constant_of}
use Rattle.st_tree.specs.Kinds.{Sorts, KindsOf, AreSorts, unary_kind, binary_kind, unary_result, binary_result, kind_of_expr, kind_in, is_kind, resolved_unary, resolved_binary, resolved_expr, resolved_stmt, resolved_body, resolved_branches, resolved_choices}
use Rattle.st_tree.specs.Numbers.{numbered_stmt, numbered, numbered_branches, numbered_choices, count_stmt, count_body, count_branches, count_choices}
use Rattle.st_tree.specs.Mapping.{mapped_expr, mapped_option, mapped_stmt, mapped_body, mapped_branches, mapped_choices}
use Rattle.st_tree.specs.Every.{every, every_inside, every_branch, every_choice}
use Rattle.st_tree.specs.Fits.{Context, sorts_of, is_of, option_is_of, stmt_fits, all_fit, branches_fit, choices_fit}
use Rattle.st_tree.proofs.ConstantLaws.{constant_of_is_value_of}
use Rattle.st_tree.proofs.KindLaws.{kind_of_expr_is_kind_in}
use Rattle.st_tree.proofs.RangeLaws.{InRange, value_in_range}
use Rattle.logic_source.specs.StParserUnits.{PlainPou, PlainUnit}
use Rattle.logic_source.specs.DeclaredNames.{PlainDeclared, declared_in}
use Rattle.logic_source.specs.Scopes.{is_control}
use Rattle.logic_source.specs.Constants.{has_value, is_step, no_kinds, meant_constant, constant_step, bounds_allowed, never_assigns, stmt_allowed}
use Rattle.logic_source.specs.Faults.{AreTyped}
use Rattle.logic_source.specs.Kinds.{context_of}
use Rattle.logic_source.specs.Source.{PlainRoutine, Source}
use Rattle.logic_source.specs.Pous.{block_names}
use Rattle.logic_source.specs.Units.{routine_of, source_in}
use Rattle.logic_source.specs.Names.{kinds_named, meant_in}
use Rattle.logic_source.specs.Blocks.{AreBelow}
use Rattle.logic_source.proofs.Agreeing.{among_at}
use Rattle.logic_source.proofs.Ranging.{IsTypedPou, IsTypedRoutine, block_typed, program_typed}
use Rattle.logic_walk.specs.declared.frame.Frame.{Frame}
use Rattle.logic_frames.specs.Numbers.{numbers}
use Rattle.logic_frames.specs.Frames.{IsFrame, framed, IsFrames}
use Rattle.logic_frames.specs.Reached.{flagged}
use Rattle.vm_programs.specs.Sizes.{number_of, constant_number, step_number, span_from, constant_span}
use Rattle.vm_programs.specs.CodegenCodes.{IsSteady, SteadyStmt, SteadyBody, SteadyBranches, SteadyChoices, AreSteady}

abbrev pub Name : Type 0
Name = List ℕ

-- an item that a list is long enough for
item_there : {A : Type 0} (xs : List A) (n : ℕ) → n < length xs → (x : A) × (slice_get xs n ≡ Some x)
item_there [] n less = absurd (omega arith)
item_there (x ∷ xs) zero less = (x, refl)
item_there (x ∷ xs) (suc n) less = item_there xs n (omega (arith, less))

-- ---- a constant expression is resolved in one way
module _ (k l : KindsOf Name) where
  unary_alike : (op : Unary) (a b : Kind) (u v : Option Outcome) (x : Outcome) → ((y : Outcome) → u ≡ Some y → (v ≡ Some y) × (a ≡ b)) → option_map (λ y. then_one y (eval_unary (resolved_unary op a))) u ≡ Some x
      → (option_map (λ y. then_one y (eval_unary (resolved_unary op b))) v ≡ Some x) × (unary_result op a ≡ unary_result op b)
  unary_alike op a b None v x same is = absurd (cc)
  unary_alike op a b (Some y) v x same is =
      let both = same y refl in
      ((λ i. option_map (λ y. then_one y (eval_unary (resolved_unary op (sym both.1 i)))) (both.0 i)) ∙ is, ap (unary_result op) both.1)

  binary_alike : (op : Binary) (a b : Kind) (u v s t : Option Outcome) (x : Outcome) → ((y : Outcome) → u ≡ Some y → (v ≡ Some y) × (a ≡ b)) → ((y : Outcome) → s ≡ Some y → t ≡ Some y)
      → option_and_then (λ y. option_map (λ z. then_two y z (eval_binary (resolved_binary op a))) s) u ≡ Some x
      → (option_and_then (λ y. option_map (λ z. then_two y z (eval_binary (resolved_binary op b))) t) v ≡ Some x) × (binary_result op a ≡ binary_result op b)
  binary_alike op a b None v s t x same other is = absurd (cc)
  binary_alike op a b (Some y) v None t x same other is = absurd (cc)
  binary_alike op a b (Some y) v (Some z) t x same other is =
      let both = same y refl in
      let right = other z refl in
      ((λ i. option_and_then (λ y. option_map (λ z. then_two y z (eval_binary (resolved_binary op (sym both.1 i)))) (right i)) (both.0 i)) ∙ is, ap (binary_result op) both.1)

  pub constant_alike : (e : PlainExpr Name) (x : Outcome) → constant_of (resolved_expr k e) ≡ Some x → (constant_of (resolved_expr l e) ≡ Some x) × (kind_in k e ≡ kind_in l e)
  constant_alike (literal n) x is = (is, refl)
  constant_alike (read v) x is = absurd (cc)
  constant_alike (output_of instance name) x is = absurd (cc)
  constant_alike (element v bounds index) x is = absurd (cc)
  constant_alike (unary op a) x is = unary_alike op (kind_in k a) (kind_in l a) (constant_of (resolved_expr k a)) (constant_of (resolved_expr l a)) x (λ y e. constant_alike a y e) is
  constant_alike (binary op a b) x is =
      binary_alike op (kind_in k a) (kind_in l a) (constant_of (resolved_expr k a)) (constant_of (resolved_expr l a)) (constant_of (resolved_expr k b)) (constant_of (resolved_expr l b)) x
      (λ y e. constant_alike a y e) (λ y e. (constant_alike b y e).0) is

-- ---- numbers in the place of names change no constant
module _ (source : Source) (r : PlainRoutine) where
  pub constant_mapped : (e : PlainExpr Name) → constant_of (mapped_expr (numbers source r) e) ≡ constant_of e
  constant_mapped (literal n) = refl
  constant_mapped (read v) = refl
  constant_mapped (output_of instance name) = refl
  constant_mapped (element v bounds index) = refl
  constant_mapped (unary op a) = ap (option_map (λ x. then_one x (eval_unary op))) (constant_mapped a)
  constant_mapped (binary op a b) = λ i. option_and_then (λ x. option_map (λ y. then_two x y (eval_binary op)) (constant_mapped b i)) (constant_mapped a i)

-- ---- a resolved operator takes what the operator took
unary_still : (op : Unary) (a r : Kind) → unary_kind op a ≡ Some r → unary_kind (resolved_unary op a) a ≡ Some r
unary_still Not a r is = is
unary_still Negate kind.Bool r is = is
unary_still Negate kind.Dint r is = is
unary_still Negate kind.Time r is = is
unary_still NegateTime a r is = is

binary_still : (op : Binary) (a b r : Kind) → binary_kind op a b ≡ Some r → binary_kind (resolved_binary op a) a b ≡ Some r
binary_still And a b r is = is
binary_still Xor a b r is = is
binary_still Or a b r is = is
binary_still Equal a b r is = is
binary_still Unequal a b r is = is
binary_still Less a b r is = is
binary_still Greater a b r is = is
binary_still AtMost a b r is = is
binary_still AtLeast a b r is = is
binary_still Add kind.Bool b r is = is
binary_still Add kind.Dint b r is = is
binary_still Add kind.Time kind.Bool r is = is
binary_still Add kind.Time kind.Dint r is = is
binary_still Add kind.Time kind.Time r is = is
binary_still AddTime a b r is = is
binary_still Subtract kind.Bool b r is = is
binary_still Subtract kind.Dint b r is = is
binary_still Subtract kind.Time kind.Bool r is = is
binary_still Subtract kind.Time kind.Dint r is = is
binary_still Subtract kind.Time kind.Time r is = is
binary_still SubtractTime a b r is = is
binary_still Multiply a b r is = is
binary_still Divide a b r is = is
binary_still Mod a b r is = is

zero_in : (k : Kind) → InRange k (pos 0)
zero_in kind.Bool = refl
zero_in kind.Dint = refl
zero_in kind.Time = refl

mapped_there : {A B : Type 0} (f : A → B) (o : Option A) (b : B) → option_map f o ≡ Some b → (a : A) × (o ≡ Some a)
mapped_there f None b is = absurd (cc)
mapped_there f (Some a) b is = (a, refl)

chained_there : {A B : Type 0} (f : A → Option B) (o : Option A) (b : B) → option_and_then f o ≡ Some b → (a : A) × (o ≡ Some a) × (f a ≡ Some b)
chained_there f None b is = absurd (cc)
chained_there f (Some a) b is = (a, refl, is)

no_kind_either_way : (b : Bool) (r : Kind) (o : Option Kind) → (if b then None else None) ≡ Some r → o ≡ Some r
no_kind_either_way true r o is = absurd (cc)
no_kind_either_way false r o is = absurd (cc)

-- ---- the value of a constant expression is in the range of its kind
module _ (sorts : Sorts Name) where
  -- a constant expression reads no element
  abbrev bare : Sorts Name
  bare = record { variable = sorts.variable; output = sorts.output; element = λ v bounds. None }

  abbrev told : KindsOf Name
  told = record {
    variable = λ v. unwrap_or (sorts.variable v) kind.Bool;
    output = λ instance name. unwrap_or (sorts.output instance name) kind.Bool;
    element = λ v. kind.Bool;
    bounds = λ v. record { low = pos 0; high = pos 0 };
  }

  told_are : AreSorts bare told
  told_are = record {
    variable_is = λ v k is. ap (λ o. unwrap_or o kind.Bool) is;
    output_is = λ instance name k is. ap (λ o. unwrap_or o kind.Bool) is;
    element_is = λ v bounds k is. absurd (cc);
  }

  -- where each variable, each output and each element holds 0
  abbrev zeros : ValuesOf Name
  zeros = record { variable = λ v. pos 0; output = λ instance name. pos 0; element = λ v bounds i. pos 0 }

  in_one : (e : PlainExpr Name) (k : Kind) → kind_of_expr bare e ≡ Some k → kind_in told e ≡ k
  in_one = kind_of_expr_is_kind_in bare told told_are

  unary_kept : (op : Unary) (o p : Option Kind) (a r : Kind) → ((k : Kind) → o ≡ Some k → p ≡ Some k) → ((k : Kind) → o ≡ Some k → a ≡ k) → option_and_then (unary_kind op) o ≡ Some r → option_and_then (unary_kind (resolved_unary op a)) p ≡ Some r
  unary_kept op None p a r kept same is = absurd (cc)
  unary_kept op (Some k) p a r kept same is = (λ i. option_and_then (unary_kind (resolved_unary op (same k refl i))) (kept k refl i)) ∙ unary_still op k r is

  binary_kept : (op : Binary) (o p s t : Option Kind) (a r : Kind) → ((k : Kind) → o ≡ Some k → p ≡ Some k) → ((k : Kind) → s ≡ Some k → t ≡ Some k) → ((k : Kind) → o ≡ Some k → a ≡ k)
      → option_and_then (λ k. option_and_then (binary_kind op k) s) o ≡ Some r → option_and_then (λ k. option_and_then (binary_kind (resolved_binary op a) k) t) p ≡ Some r
  binary_kept op None p s t a r kept other same is = absurd (cc)
  binary_kept op (Some k) p None t a r kept other same is = absurd (cc)
  binary_kept op (Some k) p (Some l) t a r kept other same is =
      (λ i. option_and_then (λ m. option_and_then (binary_kind (resolved_binary op (same k refl i)) m) (other l refl i)) (kept k refl i)) ∙ binary_still op k l r is

  kind_kept : (e : PlainExpr Name) (r : Kind) → kind_of_expr bare e ≡ Some r → kind_of_expr bare (resolved_expr told e) ≡ Some r
  kind_kept (literal n) r is = is
  kind_kept (read v) r is = is
  kind_kept (output_of instance name) r is = is
  kind_kept (element v bounds index) r is =
      no_kind_either_way (is_kind kind.Dint (kind_of_expr bare index)) r (kind_of_expr bare (resolved_expr told (element v bounds index))) is
  kind_kept (unary op a) r is =
      unary_kept op (kind_of_expr bare a) (kind_of_expr bare (resolved_expr told a)) (kind_in told a) r (λ k e. kind_kept a k e) (λ k e. in_one a k e) is
  kind_kept (binary op a b) r is =
      binary_kept op (kind_of_expr bare a) (kind_of_expr bare (resolved_expr told a)) (kind_of_expr bare b)
      (kind_of_expr bare (resolved_expr told b)) (kind_in told a) r (λ k e. kind_kept a k e) (λ k e. kind_kept b k e) (λ k e. in_one a k e) is

  bare_kind : (e : PlainExpr Name) (o : Outcome) → constant_of (resolved_expr told e) ≡ Some o → kind_of_expr bare e ≡ kind_of_expr sorts e
  bare_kind (literal n) o gives = refl
  bare_kind (read v) o gives = refl
  bare_kind (output_of instance name) o gives = refl
  bare_kind (element v bounds index) o gives = absurd (cc)
  bare_kind (unary op a) o gives =
      let part = mapped_there _ (constant_of (resolved_expr told a)) o gives in
      ap (option_and_then (unary_kind op)) (bare_kind a part.0 part.1)
  bare_kind (binary op a b) o gives =
      let first = chained_there _ (constant_of (resolved_expr told a)) o gives in
      let second = mapped_there _ (constant_of (resolved_expr told b)) o first.2 in
      λ i. option_and_then (λ k. option_and_then (binary_kind op k) (bare_kind b second.0 second.1 i)) (bare_kind a first.0 first.1 i)

  constant_in_range : (e : PlainExpr Name) (k : Kind) (n : ℤ) → kind_of_expr sorts e ≡ Some k → constant_of (resolved_expr told e) ≡ Some (Ok n) → InRange k n
  constant_in_range e k n is gives =
      value_in_range bare zeros (record { variable_in = λ v k is. zero_in k; output_in = λ instance name k is. zero_in k; element_in = λ v bounds i k is within. zero_in k }) (resolved_expr told e) k n
      (kind_kept e k (bare_kind e (Ok n) gives ∙ is))
      (constant_of_is_value_of zeros (resolved_expr told e) (Ok n) gives)

-- ---- bounds and steps
value_there : (o : Option Outcome) → has_value o ≡ true → (n : ℤ) × (o ≡ Some (Ok n))
value_there None has = absurd (cc)
value_there (Some (Ok n)) has = (n, refl)
value_there (Some (Err trap)) has = absurd (cc)

step_there : (o : Option Outcome) → is_step o ≡ true → (n : ℤ) × (o ≡ Some (Ok n))
step_there None has = absurd (cc)
step_there (Some (Ok n)) has = (n, refl)
step_there (Some (Err trap)) has = absurd (cc)

dint_there : (o : Option Kind) → is_kind kind.Dint o ≡ true → o ≡ Some kind.Dint
dint_there None is = absurd (cc)
dint_there (Some kind.Bool) is = absurd (cc)
dint_there (Some kind.Dint) is = refl
dint_there (Some kind.Time) is = absurd (cc)

-- the FORs of a block or program, when it is meant and has numbers for names
module _ (source : Source) (r : PlainRoutine) (context : Context Name) (own : List PlainDeclared) where
  abbrev kinds : KindsOf Name
  kinds = kinds_named source r

  abbrev plain : PlainExpr Name → PlainExpr ℕ
  plain e = mapped_expr (numbers source r) (resolved_expr kinds e)

  number_is : (e : PlainExpr Name) (n : ℤ) → meant_constant e ≡ Some (Ok n) → constant_number (plain e) ≡ Some n
  number_is e n is = ap number_of (constant_mapped source r (resolved_expr kinds e) ∙ (constant_alike no_kinds kinds e (Ok n) is).0)

  bound_is : (e : PlainExpr Name) → is_of context kind.Dint e ≡ true → has_value (meant_constant e) ≡ true → (n : ℤ) × (constant_number (plain e) ≡ Some n) × (is_in_range kind.Dint n ≡ true)
  bound_is e fits has =
      let there = value_there (meant_constant e) has in
      let dint = dint_there (kind_of_expr (sorts_of context) e) fits in
      let alike = constant_alike no_kinds (told (sorts_of context)) e (Ok there.0) there.1 in
      (there.0, number_is e there.0 there.1, constant_in_range (sorts_of context) e kind.Dint there.0 dint alike.0)

  step_is : (by : Option (PlainExpr Name)) → is_step (constant_step by) ≡ true → (n : ℤ) × (step_number (mapped_option (numbers source r) (option_map (resolved_expr kinds) by)) ≡ Some n)
  step_is None has = (pos 1, refl)
  step_is (Some e) has = let there = step_there (meant_constant e) has in (there.0, number_is e there.0 there.1)

  loop_steady : (from to : PlainExpr Name) (by : Option (PlainExpr Name)) → bounds_allowed from to by ≡ true → is_of context kind.Dint from ≡ true → is_of context kind.Dint to ≡ true
      → IsSteady (constant_span (plain from) (plain to) (mapped_option (numbers source r) (option_map (resolved_expr kinds) by)))
  loop_steady from to by allowed from_fits to_fits =
      let p = and_parts (has_value (meant_constant from)) (has_value (meant_constant to) && is_step (constant_step by)) allowed in
      let q = and_parts (has_value (meant_constant to)) (is_step (constant_step by)) p.1 in
      let f = bound_is from from_fits p.0 in
      let t = bound_is to to_fits q.0 in
      let s = step_is by q.1 in
      let span : constant_span (plain from) (plain to) (mapped_option (numbers source r) (option_map (resolved_expr kinds) by)) ≡ span_from (Some f.0) (Some t.0) (Some s.0) = λ i. span_from (f.1 i) (t.1 i) (s.1 i) in
      subst IsSteady (sym span) (f.2, t.2)

  mutual
    stmt_steady : (n : ℕ) (s : PlainStmt Name) → stmt_allowed own s ≡ true → every_inside (stmt_allowed own) s ≡ true → stmt_fits context s ≡ true → SteadyStmt (mapped_stmt (numbers source r) (resolved_stmt kinds (numbered_stmt n s)))
    stmt_steady n (empty number) allowed inside fits = tt
    stmt_steady n (assign number v e) allowed inside fits = tt
    stmt_steady n (store number v bounds index value) allowed inside fits = tt
    stmt_steady n (call number instance arguments) allowed inside fits = tt
    stmt_steady n (if_else number branches last) allowed inside fits =
        let p = and_parts (every_branch (stmt_allowed own) branches) (every (stmt_allowed own) last) inside in
        let q = and_parts (branches_fit context branches) (all_fit context last) fits in
        (branches_steady (n + 1) branches p.0 q.0, body_steady (n + 1 + count_branches branches) last p.1 q.1)
    stmt_steady n (case_of number e choices last) allowed inside fits =
        let p = and_parts (every_choice (stmt_allowed own) choices) (every (stmt_allowed own) last) inside in
        let q = and_parts (is_of context kind.Dint e) (choices_fit context choices && all_fit context last) fits in
        let u = and_parts (choices_fit context choices) (all_fit context last) q.1 in
        (choices_steady (n + 1) choices p.0 u.0, body_steady (n + 1 + count_choices choices) last p.1 u.1)
    stmt_steady n (for_to number v from to by body) allowed inside fits =
        let a = and_parts (is_control own v) (bounds_allowed from to by && never_assigns v body) allowed in
        let b = and_parts (bounds_allowed from to by) (never_assigns v body) a.1 in
        let p = and_parts (is_of context kind.Dint from) (is_of context kind.Dint to && (option_is_of context kind.Dint by && all_fit context body)) fits in
        let q = and_parts (is_of context kind.Dint to) (option_is_of context kind.Dint by && all_fit context body) p.1 in
        let u = and_parts (option_is_of context kind.Dint by) (all_fit context body) q.1 in
        (loop_steady from to by b.0 p.0 q.0, body_steady (n + 1) body inside u.1)

    body_steady : (n : ℕ) (body : PlainBody Name) → every (stmt_allowed own) body ≡ true → all_fit context body ≡ true → SteadyBody (mapped_body (numbers source r) (resolved_body kinds (numbered n body)))
    body_steady n done allowed fits = tt
    body_steady n (next s rest) allowed fits =
        let p = and_parts (stmt_allowed own s) (every_inside (stmt_allowed own) s && every (stmt_allowed own) rest) allowed in
        let q = and_parts (every_inside (stmt_allowed own) s) (every (stmt_allowed own) rest) p.1 in
        let f = and_parts (stmt_fits context s) (all_fit context rest) fits in
        (stmt_steady n s p.0 q.0 f.0, body_steady (n + count_stmt s) rest q.1 f.1)

    branches_steady : (n : ℕ) (branches : Branches Name) → every_branch (stmt_allowed own) branches ≡ true → branches_fit context branches ≡ true → SteadyBranches (mapped_branches (numbers source r) (resolved_branches kinds (numbered_branches n branches)))
    branches_steady n no_branch allowed fits = tt
    branches_steady n (branch e body rest) allowed fits =
        let p = and_parts (every (stmt_allowed own) body) (every_branch (stmt_allowed own) rest) allowed in
        let q = and_parts (is_of context kind.Bool e) (all_fit context body && branches_fit context rest) fits in
        let f = and_parts (all_fit context body) (branches_fit context rest) q.1 in
        (body_steady n body p.0 f.0, branches_steady (n + count_body body) rest p.1 f.1)

    choices_steady : (n : ℕ) (choices : Choices Name) → every_choice (stmt_allowed own) choices ≡ true → choices_fit context choices ≡ true → SteadyChoices (mapped_choices (numbers source r) (resolved_choices kinds (numbered_choices n choices)))
    choices_steady n no_choice allowed fits = tt
    choices_steady n (choice labels body rest) allowed fits =
        let p = and_parts (every (stmt_allowed own) body) (every_choice (stmt_allowed own) rest) allowed in
        let f = and_parts (all_fit context body) (choices_fit context rest) fits in
        (body_steady n body p.0 f.0, choices_steady (n + count_body body) rest p.1 f.1)

-- ---- the frames of well-formed units
module _ (units : List PlainUnit) (typed : AreTyped units) (order : List ℕ) (frames : List Frame) (below : AreBelow (source_in units).blocks order) (are : IsFrames (source_in units) order frames) where
  abbrev source : Source
  source = source_in units

  pou_steady : (p : PlainPou) → IsTypedPou units p → SteadyBody (mapped_body (numbers source (routine_of (block_names units) p)) (meant_in source (routine_of (block_names units) p) p.body))
  pou_steady p is = body_steady source (routine_of (block_names units) p) (context_of units (declared_in p.sections)) (declared_in p.sections) 1 p.body is.allowed is.fits

  routine_steady : (r : PlainRoutine) → IsTypedRoutine units r → SteadyBody (mapped_body (numbers source r) (meant_in source r r.body))
  routine_steady r is = subst (λ (r : PlainRoutine). SteadyBody (mapped_body (numbers source r) (meant_in source r r.body))) is.is (pou_steady is.p is.typed)

  run_steady : (b : Bool) (r : PlainRoutine) (frame : Frame) → IsTypedRoutine units r → IsFrame source order (framed b r) frame → SteadyBody (view_body frame.body.items)
  run_steady true r frame is it = subst SteadyBody (sym it.body_is) (routine_steady r is)
  run_steady false r frame is it = subst SteadyBody (sym it.body_is) tt

  block_steady : (k n : ℕ) (frame : Frame) → slice_get order k ≡ Some n → slice_get frames k ≡ Some frame → flagged are.used n ≡ true → SteadyBody (view_body frame.body.items)
  block_steady k n frame at here used =
      let r = item_there source.blocks n (below.within n (among_at order k n at)) in
      run_steady (flagged are.run n) r.0 frame (block_typed units typed r.0 (among_at source.blocks n r.0 r.1)) (are.of_blocks k n r.0 frame at r.1 here used)

  blank_steady : (k n : ℕ) (frame : Frame) → slice_get order k ≡ Some n → slice_get frames k ≡ Some frame → flagged are.used n ≡ false → SteadyBody (view_body frame.body.items)
  blank_steady k n frame at here off = subst (λ l. SteadyBody (view_body l)) (sym (are.of_others k n frame at here off).body_is) tt

  program_steady : (k : ℕ) (frame : Frame) → k < length source.programs → slice_get frames (length order + k) ≡ Some frame → SteadyBody (view_body frame.body.items)
  program_steady k frame less here =
      let p = item_there source.programs k less in
      run_steady true p.0 frame (program_typed units typed p.0 (among_at source.programs k p.0 p.1)) (are.of_programs k p.0 frame p.1 here)

  -- each FOR of a frame has constant bounds, which are DINTs, and a constant step
  pub frames_are_steady : AreSteady frames
  frames_are_steady k frame here =
      let within = slice_get_within frames k frame here in
      let whole = are.whole in
      elim (cases_Bool (nat_lt k (length order))) [
        | inl less ↦ (
            let n = item_there order k (grind (arith, nat_tests)) in
            elim (cases_Bool (flagged are.used n.0)) [
              | inl used ↦ block_steady k n.0 frame n.1 here used
              | inr off ↦ blank_steady k n.0 frame n.1 here off
            ])
        | inr past ↦ (
            let most : length order + (k - length order) ≡ k = grind (arith, nat_tests) in
            let small : k - length order < length source.programs = grind (arith, nat_tests, within, whole) in
            program_steady (k - length order) frame small (ap (slice_get frames) most ∙ here))
      ]
