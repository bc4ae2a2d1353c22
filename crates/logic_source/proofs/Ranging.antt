-- What routines of well-formed units do keeps each value in the range of its kind.
use Rattle.std.proofs.Common.{◌≡◌, ◌∙◌, ap, sym, subst, refl, ℕ, ℤ, zero, suc, Bool, true, false, List, [], ◌∷◌, map, Option, Some, None, slice_get, inl, inr}
use Rattle.std.specs.Prelude.{◌&&◌, not, if◌then◌else◌, option_map, option_and_then}
use Rattle.std.specs.List.{list_all, All}
use Rattle.std.specs.Option.{option_map_or}
use Rattle.std.proofs.lemmas.Bool.{and_parts, or_parts}
use Rattle.std.proofs.lemmas.List.Elements.{All-nil, All-cons, All-head, All-tail, All-filter, All-weaker}
use Rattle.plant_types.specs.Words.{folded}
use Rattle.plant_types.specs.declared.values.Bounds.{Bounds}
use Rattle.plant_types.specs.declared.values.Kind.{Kind}
use Rattle.plant_types.specs.declared.values.Kind.TheVariants as kind
use Rattle.plant_types.specs.Values.{is_in_range, has_index, Path}
use Rattle.std_blocks.specs.Calls.{Call}
use Rattle.st_blocks.specs.Chains.{Among}
use Rattle.st_tree.specs.Every.{every}
use Rattle.st_tree.specs.Fits.{Context, all_fit, may_control}
use Rattle.st_tree.specs.Kinds.{is_kind}
use Rattle.st_tree.specs.Meaning.{Ran, Done, run_all}
use Rattle.st_tree.specs.Plain.{PlainExpr, PlainStmt, for_to, PlainBody}
use Rattle.st_tree.specs.Ranges.{IsInvariant, Leaves}
use Rattle.st_tree.proofs.RangeLaws.{InRange}
use Rattle.st_tree.proofs.RunLaws.{run_all_keeps}
use Rattle.st_typing.specs.Units.{PlainPou, PlainUnit}
use Rattle.st_typing.specs.BlockTypes.{Member, inputs_of, outputs_of, find_member}
use Rattle.st_typing.specs.DeclaredNames.{PlainDeclared, declared_in, declared_words, find_declared, sort_kind, is_instance_sort}
use Rattle.st_typing.specs.Known.{body_known, declared_known, globals_misnamed, pou_misnamed}
use Rattle.st_typing.specs.Scopes.{variable_kind, element_kind, instance_type, input_named, input_kind, output_named, output_kind, is_external, can_control, is_control}
use Rattle.st_typing.specs.Shared.{shared_in, is_block, global_named}
use Rattle.st_typing.specs.Taken.{repeats}
use Rattle.st_typing.specs.Constants.{declared_constant, bounds_allowed, never_assigns, stmt_allowed, globals_inconstant, pou_inconstant}
use Rattle.st_typing.specs.Faults.{AreTyped}
use Rattle.st_typing.specs.Kinds.{context_of, declared_fits, globals_misfit, pou_misfit}
use Rattle.logic_source.specs.declared.logic.Instance.{Instance}
use Rattle.logic_source.specs.declared.logic.BlockRef.{BlockRef}
use Rattle.logic_source.specs.declared.logic.BlockRef.TheVariants.{Ton, Tof, RTrig, Declared}
use Rattle.logic_source.specs.Source.{PlainRoutine, Source}
use Rattle.logic_source.specs.Pous.{pous_of, block_pous, program_pous, block_names}
use Rattle.logic_source.specs.Units.{routine_of, source_in}
use Rattle.logic_source.specs.Names.{instance_named, block_named, same_bounds, bounds_named, kinds_named, output_kind_of, output_kind_named, meant_in}
use Rattle.logic_source.specs.Blocks.{levels, AreBelow}
use Rattle.logic_source.specs.Layout.{IsDistinctlyNamed}
use Rattle.logic_source.specs.Worlds.{World, same_path, words_of, path_in, element_path, pt_word, with_call, timer_call, trigger_call, output_at, called, called_named, routine_space, run_rule, run_routine, run_in, run_program}
use Rattle.logic_source.specs.Ranges.{KindAt, kind_at, element_at, own_kinds, block_kinds, instance_kinds, kinds_rule, routine_kinds, all_kinds, AllInRange}
use Rattle.logic_source.proofs.Agreeing.{among_at, named_among}
use Rattle.logic_source.proofs.Apart.{none_misnamed, shared_word, words_apart}
use Rattle.logic_source.proofs.Distinct.{each_pou, typed_distinct}
use Rattle.logic_source.proofs.Fitting.{freely, bounds_are, meant_fits, meant_controls}
use Rattle.logic_source.proofs.KindPaths.{Within, left_within, right_within, instance_within, program_home, type_kinds, value_in, put_in}
use Rattle.logic_source.proofs.Scopes.{IsScope, routine_scope, variable_at, array_at}
use Rattle.logic_source.proofs.Holdings.{IsDeclaredWell, among_map, blocks, instance_at, input_stands, output_kind_is, output_in}

and_then_some : {A B : Type 0} (f : A → Option B) (o : Option A) (b : B) → option_and_then f o ≡ Some b → (a : A) × (o ≡ Some a) × (f a ≡ Some b)
and_then_some f None b is = absurd (cc)
and_then_some f (Some a) b is = (a, refl, is)

pub each_among : {A : Type 0} (P : A → Type 0) (xs : List A) (x : A) → All P xs → Among xs x → P x
each_among P [] x all here = elim here [ ]
each_among P (y ∷ ys) x all (inl is) = subst P is (All-head P y ys all)
each_among P (y ∷ ys) x all (inr later) = each_among P ys x (All-tail P y ys all) later

-- ---- what holds of the blocks and programs of well-formed units
pub record IsTypedPou (units : List PlainUnit) (p : PlainPou) : Type 0 where
  pub well : IsDeclaredWell units p
  pub fits : all_fit (context_of units (declared_in p.sections)) p.body ≡ true
  pub allowed : every (stmt_allowed (declared_in p.sections)) p.body ≡ true

not_bad : (b : Bool) → not b ≡ false → b ≡ true
not_bad true is = refl
not_bad false is = absurd (cc)

typed_pou : (units : List PlainUnit) (p : PlainPou) → pou_misnamed units p ≡ false → pou_misfit units p ≡ false → pou_inconstant p ≡ false → IsTypedPou units p
typed_pou units p names kinds constants =
    let own = declared_in p.sections in
    let named = or_parts (repeats (declared_words own)) (not (list_all (declared_known units own) own && body_known units own p.body)) names in
    let fits = and_parts (list_all (declared_fits units own) own) (all_fit (context_of units own) p.body) (not_bad (list_all (declared_fits units own) own && all_fit (context_of units own) p.body) kinds) in
    let constant = and_parts (list_all declared_constant own) (every (stmt_allowed own) p.body) (not_bad (list_all declared_constant own && every (stmt_allowed own) p.body) constants) in
    record { well = record { once = named.0; fit = fits.0 }; fits = fits.1; allowed = constant.1 }

all_typed : (units : List PlainUnit) (ps : List PlainPou) → All (λ p. pou_misnamed units p ≡ false) ps → All (λ p. pou_misfit units p ≡ false) ps → All (λ p. pou_inconstant p ≡ false) ps → All (IsTypedPou units) ps
all_typed units [] names kinds constants = All-nil (IsTypedPou units)
all_typed units (p ∷ ps) names kinds constants =
    All-cons (IsTypedPou units) p ps (typed_pou units p (All-head (λ p. pou_misnamed units p ≡ false) p ps names) (All-head (λ p. pou_misfit units p ≡ false) p ps kinds) (All-head (λ p. pou_inconstant p ≡ false) p ps constants))
    (all_typed units ps (All-tail (λ p. pou_misnamed units p ≡ false) p ps names) (All-tail (λ p. pou_misfit units p ≡ false) p ps kinds) (All-tail (λ p. pou_inconstant p ≡ false) p ps constants))

pub typed_pous : (units : List PlainUnit) → AreTyped units → All (IsTypedPou units) (pous_of units)
typed_pous units typed =
    let constant = typed.are_few.are_shallow.are_short.constant in
    let kinded = constant.are_apart.kinded in
    all_typed units (pous_of units) (each_pou (globals_misnamed units) (pou_misnamed units) 0 units (none_misnamed units kinded.named.names).1)
    (each_pou (globals_misfit units) (pou_misfit units) 0 units kinded.kinds) (each_pou globals_inconstant pou_inconstant 0 units constant.constants)

-- a routine is that of a block or program of well-formed units
pub record IsTypedRoutine (units : List PlainUnit) (r : PlainRoutine) : Type 0 where
  pub p : PlainPou
  pub typed : IsTypedPou units p
  pub is : routine_of (block_names units) p ≡ r

routine_typed : (units : List PlainUnit) (ps : List PlainPou) (r : PlainRoutine) → All (IsTypedPou units) ps → Among (map (routine_of (block_names units)) ps) r → IsTypedRoutine units r
routine_typed units ps r all here =
    let p = among_map (routine_of (block_names units)) ps r here in
    record { p = p.0; typed = each_among (IsTypedPou units) ps p.0 all p.1; is = p.2 }

pub block_typed : (units : List PlainUnit) → AreTyped units → (r : PlainRoutine) → Among (source_in units).blocks r → IsTypedRoutine units r
block_typed units typed r here = routine_typed units (block_pous (pous_of units)) r (All-filter (λ p. is_block p.kind) (IsTypedPou units) (pous_of units) (typed_pous units typed)) here

pub program_typed : (units : List PlainUnit) → AreTyped units → (r : PlainRoutine) → Among (source_in units).programs r → IsTypedRoutine units r
program_typed units typed r here = routine_typed units (program_pous (pous_of units)) r (All-filter (λ p. not (is_block p.kind)) (IsTypedPou units) (pous_of units) (typed_pous units typed)) here

-- ---- a call that is noted
noted : (source : Source) (w : World) (path : Path) (c : Call) → InRange kind.Time c.pt → AllInRange source w → AllInRange source (with_call w path c)
noted source w path c fits holds = record { values = holds.values; calls = λ q. by_path q (same_path path q) }
  where
    by_path : (q : Path) (b : Bool) → All (λ (c : Call). is_in_range kind.Time c.pt ≡ true) (if b then c ∷ w.calls q else w.calls q)
    by_path q true = All-cons (λ (c : Call). is_in_range kind.Time c.pt ≡ true) c (w.calls q) fits (holds.calls q)
    by_path q false = holds.calls q

module _ (units : List PlainUnit) (typed : AreTyped units) (order : List ℕ) (below : AreBelow (source_in units).blocks order) (no_globals : (name : List ℕ) (d : PlainDeclared) → global_named units name ≡ Some d → is_instance_sort d.sort ≡ false) where
  abbrev source : Source
  source = source_in units

  abbrev Holds : World → Type 0
  Holds w = AllInRange source w

  abbrev all : List KindAt
  all = all_kinds source

  named : IsDistinctlyNamed source
  named = typed_distinct units typed

  apart : repeats (map shared_word (shared_in units)) ≡ false
  apart = words_apart units typed.are_few.are_shallow.are_short.constant.are_apart.kinded.named.names

  well : All (IsDeclaredWell units) (blocks units)
  well =
      All-filter (λ p. is_block p.kind) (IsDeclaredWell units) (pous_of units)
      (All-weaker (IsTypedPou units) (IsDeclaredWell units) (λ p t. t.well) (pous_of units) (typed_pous units typed))

  -- the values of the block type of a number at a path are among all
  abbrev pub IsHome : ℕ → Path → Type 0
  IsHome n path = Within all (routine_kinds source.blocks n (words_of path))

  module _ (own : List PlainDeclared) (r : PlainRoutine) (scope : IsScope units own r) (path : Path) (home : Within all (kinds_rule (routine_kinds source.blocks) r (words_of path))) where
    own_home : Within all (own_kinds r (words_of path))
    own_home = left_within all (own_kinds r (words_of path)) (instance_kinds (routine_kinds source.blocks) r.instances (words_of path)) home

    held_home : Within all (instance_kinds (routine_kinds source.blocks) r.instances (words_of path))
    held_home = right_within all (own_kinds r (words_of path)) (instance_kinds (routine_kinds source.blocks) r.instances (words_of path)) home

    instance_home : (i : Instance) → Among r.instances i → Within all (block_kinds (routine_kinds source.blocks) i.of (folded i.name ∷ words_of path))
    instance_home i here = instance_within (routine_kinds source.blocks) all r.instances (words_of path) i held_home here

    variable_here : (name : List ℕ) (k : Kind) → variable_kind units own name ≡ Some k → Among all (kind_at (path_in r path name) k)
    variable_here name k is = (variable_at units apart own r scope name k is).stands path own_home

    abbrev free : Context (List ℕ)
    free = freely (context_of units own) (kinds_named source r)

    element_by : (name : List ℕ) (bounds : Bounds) (i : ℤ) (k : Kind) (b : Bool) → same_bounds bounds (bounds_named source r name) ≡ b → (if b then element_kind units own name else None) ≡ Some k → has_index bounds i ≡ true → Among all (element_at k (bounds_named source r name) (element_path r path name i))
    element_by name bounds i k false same is within = absurd (cc)
    element_by name bounds i k true same is within =
        (array_at units apart own r scope name k is).stands path i own_home (ap (λ b. has_index b i) (sym (bounds_are bounds (bounds_named source r name) same)) ∙ within)

    -- an element of an array of the declared bounds
    element_here : (name : List ℕ) (bounds : Bounds) (i : ℤ) (k : Kind) → free.element_kind name bounds ≡ Some k → has_index bounds i ≡ true → Among all (element_at k (bounds_named source r name) (element_path r path name i))
    element_here name bounds i k is within = element_by name bounds i k (same_bounds bounds (bounds_named source r name)) refl is within

    input_here : (instance name : List ℕ) (k : Kind) → input_kind units own instance name ≡ Some k → Among all (kind_at (folded name ∷ folded instance ∷ words_of path) k)
    input_here instance name k is =
        let m = and_then_some (λ (m : Member). m.kind) (input_named units own instance name) k is in
        let t = and_then_some (λ t. find_member (inputs_of t) name) (instance_type units own instance) m.0 m.1 in
        let x = instance_at units apart own r scope no_globals instance t.0 t.1 in
        let there = subst (λ word. Within all (block_kinds (routine_kinds source.blocks) x.i.of (word ∷ words_of path))) x.word (instance_home x.i x.among) in
        input_stands units order below well all (folded instance ∷ words_of path) name k m.0 m.2 t.0 x.i.of x.meets t.2 there

    block_is : (instance : List ℕ) (i : Instance) → instance_named r instance ≡ Some i → block_named r instance ≡ Some i.of
    block_is instance i is = ap (option_map (λ (i : Instance). i.of)) is

    output_here : (w : World) (instance name : List ℕ) (k : Kind) → Holds w → output_kind units own instance name ≡ Some k → InRange k (output_at w (words_of (instance ∷ path)) (block_named r instance) name)
    output_here w instance name k holds is =
        let m = and_then_some (λ (m : Member). m.kind) (output_named units own instance name) k is in
        let t = and_then_some (λ t. find_member (outputs_of t) name) (instance_type units own instance) m.0 m.1 in
        let x = instance_at units apart own r scope no_globals instance t.0 t.1 in
        let there = subst (λ word. Within all (block_kinds (routine_kinds source.blocks) x.i.of (word ∷ words_of path))) x.word (instance_home x.i x.among) in
        subst (λ b. InRange k (output_at w (words_of (instance ∷ path)) b name)) (sym (block_is instance x.i x.named))
        (output_in units order below well name k m.0 m.2 w (folded instance ∷ words_of path) holds t.0 x.i.of x.meets t.2 there)

    output_agrees : (instance name : List ℕ) (k : Kind) → output_kind units own instance name ≡ Some k → output_kind_named source.blocks r instance name ≡ k
    output_agrees instance name k is =
        let m = and_then_some (λ (m : Member). m.kind) (output_named units own instance name) k is in
        let t = and_then_some (λ t. find_member (outputs_of t) name) (instance_type units own instance) m.0 m.1 in
        let x = instance_at units apart own r scope no_globals instance t.0 t.1 in
        ap (λ b. output_kind_of source.blocks b name) (block_is instance x.i x.named) ∙ output_kind_is units order below well name k m.0 m.2 t.0 x.i.of x.meets t.2

    module _ (t : ℕ) (inner : ℕ → Path → World → Ran World) (inner_keeps : (n : ℕ) (q : Path) (w : World) → IsHome n q → Holds w → Leaves Holds (inner n q w)) where
      pt_fits : (w : World) (name : List ℕ) → Holds w → Among all (kind_at (pt_word ∷ words_of (name ∷ path)) kind.Time) → InRange kind.Time (timer_call t w (words_of (name ∷ path))).pt
      pt_fits w name holds here = value_in source w (kind_at (pt_word ∷ words_of (name ∷ path)) kind.Time) holds here

      called_keeps : (w : World) (name : List ℕ) (b : BlockRef) → Holds w → Within all (block_kinds (routine_kinds source.blocks) b (words_of (name ∷ path))) → Leaves Holds (called t inner path w name b)
      called_keeps w name Ton holds within = noted source w (words_of (name ∷ path)) (timer_call t w (words_of (name ∷ path))) (pt_fits w name holds (within (kind_at (pt_word ∷ words_of (name ∷ path)) kind.Time) (inr (inl refl)))) holds
      called_keeps w name Tof holds within = noted source w (words_of (name ∷ path)) (timer_call t w (words_of (name ∷ path))) (pt_fits w name holds (within (kind_at (pt_word ∷ words_of (name ∷ path)) kind.Time) (inr (inl refl)))) holds
      called_keeps w name RTrig holds within = noted source w (words_of (name ∷ path)) (trigger_call t w (words_of (name ∷ path))) refl holds
      called_keeps w name (Declared n) holds within = inner_keeps n (name ∷ path) w within holds

      entered : (w : World) (name : List ℕ) (o : Option Instance) → instance_named r name ≡ o → Holds w → Leaves Holds (called_named t inner path w o)
      entered w name None is holds = holds
      entered w name (Some i) is holds = called_keeps w i.name i.of holds (instance_home i (named_among r name i is))

      invariant : IsInvariant free (routine_space t inner r path) Holds
      invariant =
          record {
            variable_in_range = λ w v k holds is. value_in source w (kind_at (path_in r path v) k) holds (variable_here v k is);
            output_in_range = λ w instance name k holds is. output_here w instance name k holds is;
            element_in_range = λ w v bounds i k holds is within. value_in source w (element_at k (bounds_named source r v) (element_path r path v i)) holds (element_here v bounds i k is within);
            put_at_keeps = λ w v bounds i k n holds is within fits. put_in source w (element_at k (bounds_named source r v) (element_path r path v i)) n named (element_here v bounds i k is within) fits holds;
            put_keeps = λ w v k n holds may is fits. put_in source w (kind_at (path_in r path v) k) n named (variable_here v k is) fits holds;
            put_input_keeps = λ w instance name k n holds is_one is fits. put_in source w (kind_at (folded name ∷ folded instance ∷ words_of path) k) n named (input_here instance name k is) fits holds;
            enter_keeps = λ w instance holds is_one. entered w instance (instance_named r instance) refl holds;
          }

      -- a body that fits keeps each value in range
      pub body_keeps : (rule : PlainStmt (List ℕ) → Bool) (body : PlainBody (List ℕ)) (w : World)
          → ((number : ℕ) (v : List ℕ) (from to : PlainExpr (List ℕ)) (by : Option (PlainExpr (List ℕ))) (body : PlainBody (List ℕ)) → rule (for_to number v from to by body) ≡ true → may_control free v ≡ true)
          → every rule body ≡ true → all_fit free (meant_in source r body) ≡ true → Holds w → Leaves Holds (run_all (routine_space t inner r path) (meant_in source r body) w)
      body_keeps rule body w controls allowed fits holds =
          run_all_keeps free (routine_space t inner r path) Holds invariant (meant_in source r body) w fits
          (meant_controls free (kinds_named source r) rule controls body allowed) holds

    -- what fits as it is declared fits as it is meant
    pub body_fits : (context : Context (List ℕ)) (body : PlainBody (List ℕ)) → freely context (kinds_named source r) ≡ free → ((v : List ℕ) (k : Kind) → context.variable_kind v ≡ Some k → variable_kind units own v ≡ Some k)
        → ((instance name : List ℕ) (k : Kind) → context.output_kind instance name ≡ Some k → output_kind units own instance name ≡ Some k) → ((v : List ℕ) (bounds : Bounds) → context.element_kind v bounds ≡ element_kind units own v)
        → all_fit context body ≡ true → all_fit free (meant_in source r body) ≡ true
    body_fits context body same variables outputs elements fits =
        subst (λ c. all_fit c (meant_in source r body) ≡ true) same
        (meant_fits context (kinds_named source r)
        (record {
          variable_is = λ v k is. (variable_at units apart own r scope v k (variables v k is)).kind_is;
          output_is = λ instance name k is. output_agrees instance name k (outputs instance name k is);
          element_is = λ v bounds k is. (array_at units apart own r scope v k (sym (elements v bounds) ∙ is)).kind_is;
        })
        (λ v bounds k is. elements v (bounds_named source r v) ∙ sym (elements v bounds) ∙ is) body fits)

  -- a control variable of a FOR that is allowed is a DINT
  control_by : (own : List PlainDeclared) (name : List ℕ) (o : Option PlainDeclared) → find_declared own name ≡ o → can_control o ≡ true → is_kind kind.Dint (variable_kind units own name) ≡ true
  control_by own name None found control = absurd (cc)
  control_by own name (Some d) found control =
      let parts = and_parts (not (is_external d.section)) (is_kind kind.Dint (sort_kind d.sort)) control in
      rw found parts.1

  controlled : (own : List PlainDeclared) (number : ℕ) (v : List ℕ) (from to : PlainExpr (List ℕ)) (by : Option (PlainExpr (List ℕ))) (body : PlainBody (List ℕ)) → stmt_allowed own (for_to number v from to by body) ≡ true → is_kind kind.Dint (variable_kind units own v) ≡ true
  controlled own number v from to by body allowed =
      let control = (and_parts (is_control own v) (bounds_allowed from to by && never_assigns v body) allowed).0 in
      control_by own v (find_declared own v) refl control

  -- what a block or program does keeps each value in range
  pou_keeps : (p : PlainPou) (t : ℕ) (inner : ℕ → Path → World → Ran World) (path : Path) (w : World) → IsTypedPou units p → ((n : ℕ) (q : Path) (w : World) → IsHome n q → Holds w → Leaves Holds (inner n q w))
      → Within all (kinds_rule (routine_kinds source.blocks) (routine_of (block_names units) p) (words_of path)) → Holds w → Leaves Holds (run_rule source t inner (routine_of (block_names units) p) path w)
  pou_keeps p t inner path w is keeps home holds =
      let own = declared_in p.sections in
      let r = routine_of (block_names units) p in
      let scope = routine_scope units p is.well.once is.well.fit in
      body_keeps own r scope path home t inner keeps (stmt_allowed own) p.body w (controlled own) is.allowed (body_fits own r scope path home (context_of units own) p.body refl (λ v k is. is) (λ instance name k is. is) (λ v bounds. refl) is.fits) holds

  routine_keeps : (r : PlainRoutine) (t : ℕ) (inner : ℕ → Path → World → Ran World) (path : Path) (w : World) → IsTypedRoutine units r → ((n : ℕ) (q : Path) (w : World) → IsHome n q → Holds w → Leaves Holds (inner n q w))
      → Within all (kinds_rule (routine_kinds source.blocks) r (words_of path)) → Holds w → Leaves Holds (run_rule source t inner r path w)
  routine_keeps r t inner path w is keeps home holds =
      subst (λ r. Leaves Holds (run_rule source t inner r path w)) is.is (pou_keeps is.p t inner path w is.typed keeps (subst (λ r. Within all (kinds_rule (routine_kinds source.blocks) r (words_of path))) (sym is.is) home) holds)

  module _ (t : ℕ) where
    abbrev run_levels : ℕ → ℕ → Path → World → Ran World
    run_levels d = levels (λ path w. Done w) (run_rule source t) source.blocks d

    type_keeps : (inner : ℕ → Path → World → Ran World) → ((n : ℕ) (q : Path) (w : World) → IsHome n q → Holds w → Leaves Holds (inner n q w)) → (n : ℕ) (path : Path) (w : World) (o : Option PlainRoutine) → slice_get source.blocks n ≡ o → IsHome n path → Holds w
        → Leaves Holds (option_map_or (run_rule source t inner) o (λ path w. Done w) path w)
    type_keeps inner keeps n path w None at home holds = holds
    type_keeps inner keeps n path w (Some r) at home holds =
        let rule = type_kinds source.blocks order n r below at in
        routine_keeps r t inner path w (block_typed units typed r (among_at source.blocks n r at)) keeps (subst (λ f. Within all (f (words_of path))) rule home) holds

    level_keeps : (d n : ℕ) (path : Path) (w : World) → IsHome n path → Holds w → Leaves Holds (run_levels d n path w)
    level_keeps zero n path w home holds = holds
    level_keeps (suc d) n path w home holds = type_keeps (run_levels d) (λ n q w. level_keeps d n q w) n path w (slice_get source.blocks n) refl home holds

    program_by : (n : ℕ) (o : Option PlainRoutine) (w : World) → slice_get source.programs n ≡ o → Holds w → Leaves Holds (run_in source t o w)
    program_by n None w at holds = holds
    program_by n (Some p) w at holds =
        let here = among_at source.programs n p at in
        routine_keeps p t (run_routine source t) (p.name ∷ []) w (program_typed units typed p here) (λ n q w. level_keeps _ n q w) (program_home source p here) holds

    -- a run of a program keeps each value in range
    pub program_keeps : (n : ℕ) (w : World) → Holds w → Leaves Holds (run_program source n t w)
    program_keeps n w holds = program_by n (slice_get source.programs n) w refl holds
