-- Initial values of well-formed units are in the ranges of their kinds.
use Rattle.std.proofs.Common.{◌≡◌, ◌∙◌, ap, sym, subst, refl, ℕ, zero, suc, pos, Bool, true, false, List, [], ◌∷◌, ◌++◌, map, Option, Some, None, slice_get, inl, inr}
use Rattle.std.specs.Prelude.{◌&&◌, not, if◌then◌else◌, is_none, option_and_then, flat_map}
use Rattle.std.specs.List.{list_all, AllByRecursion}
use Rattle.std.specs.Option.{option_map_or}
use Rattle.std.proofs.lemmas.Bool.{and_parts}
use Rattle.std.proofs.lemmas.List.Elements.{All-nil, All-from_recursion}
use Rattle.std.proofs.lemmas.List.Folds.{list_all-append}
use Rattle.plant_types.specs.Words.{folded}
use Rattle.plant_types.specs.declared.values.Kind.{Kind}
use Rattle.plant_types.specs.declared.values.Kind.TheVariants as kind
use Rattle.plant_types.specs.Values.{is_in_range, Path}
use Rattle.st_blocks.specs.Chains.{Among}
use Rattle.st_tree.specs.Every.{every}
use Rattle.st_tree.specs.Fits.{Context, all_fit, fits_option}
use Rattle.st_tree.specs.Kinds.{is_kind}
use Rattle.st_tree.specs.Meaning.{Ran, Done, Trapped, run_all}
use Rattle.st_tree.specs.Plain.{PlainExpr, PlainStmt, assign, for_to, PlainBody}
use Rattle.st_tree.specs.Ranges.{Leaves}
use Rattle.st_tree.proofs.RangeLaws.{InRange}
use Rattle.st_typing.specs.SectionKind.{SectionKind}
use Rattle.st_typing.specs.SectionKind.TheVariants as sections
use Rattle.st_typing.specs.Sort.{Sort}
use Rattle.st_typing.specs.Sort.TheVariants as sort
use Rattle.st_typing.specs.Units.{PlainSection, PlainPou, PlainUnit}
use Rattle.st_typing.specs.DeclaredNames.{PlainDeclared, declared_in, declared_words, find_declared, sort_kind, is_instance_sort}
use Rattle.st_typing.specs.StNamesFaults.{first_pou, first_unit}
use Rattle.st_typing.specs.Scopes as scopes
use Rattle.st_typing.specs.Scopes.{or_other, is_external, variable_kind}
use Rattle.st_typing.specs.Shared.{global, pou, shared_by, shared_in, find_shared, as_global, global_named}
use Rattle.st_typing.specs.Taken.{or_place, repeats}
use Rattle.st_typing.specs.Faults.{AreTyped}
use Rattle.st_typing.specs.Kinds.{context_of, initial_fits, instance_fits, array_stands, sort_fits, declared_fits, is_global, pou_misfit}
use Rattle.logic_source.specs.declared.logic.Instance.{Instance}
use Rattle.logic_source.specs.declared.logic.BlockRef.{BlockRef}
use Rattle.logic_source.specs.declared.logic.BlockRef.TheVariants.{Ton, Tof, RTrig, Declared}
use Rattle.logic_source.specs.Source.{PlainRoutine, Source}
use Rattle.logic_source.specs.Pous.{block_names}
use Rattle.logic_source.specs.Units.{start_by, start_of, listed, starts_in, routine_of, declared_globals, source_in}
use Rattle.logic_source.specs.Names.{meant_in}
use Rattle.logic_source.specs.Blocks.{levels, AreBelow}
use Rattle.logic_source.specs.Worlds.{World, words_of, routine_space, left_by, no_calls, begun, block_begun, instances_begun, begin_rule, routine_begun, programs_begun, globals_routine, zero_world, opening}
use Rattle.logic_source.specs.Ranges.{KindAt, own_kinds, block_kinds, instance_kinds, kinds_rule, routine_kinds, all_kinds, AllInRange}
use Rattle.logic_source.proofs.Agreeing.{among_at}
use Rattle.logic_source.proofs.Apart.{none_if, none_or, shared_word, words_apart}
use Rattle.logic_source.proofs.Fitting.{assigning}
use Rattle.logic_source.proofs.KindPaths.{Within, left_within, right_within, program_home, type_kinds}
use Rattle.logic_source.proofs.Scopes.{IsScope, routine_scope, globals_scope}
use Rattle.logic_source.proofs.Belows.{among_left, among_flat, flat_among}
use Rattle.logic_source.proofs.Firsts.{self_first}
use Rattle.logic_source.proofs.Ranging.{IsTypedPou, IsTypedRoutine, block_typed, program_typed, IsHome, body_keeps, body_fits}

-- ---- initial values are assignments of what fits
-- a declaration's name is that of a variable of the declared kind, and it fits
record IsStarted (units : List PlainUnit) (own : List PlainDeclared) (d : PlainDeclared) : Type 0 where
  kind_is : variable_kind units own d.name ≡ sort_kind d.sort
  fits : declared_fits units own d ≡ true

-- an instance has no initial value
instance_none : {P : Type 0} (s : SectionKind) (e : PlainExpr (List ℕ)) → instance_fits s (Some e) ≡ true → P
instance_none sections.Local e h = absurd (cc)
instance_none sections.Input e h = absurd (cc)
instance_none sections.Output e h = absurd (cc)
instance_none sections.External e h = absurd (cc)
instance_none sections.Global e h = absurd (cc)

-- a statement is an assignment of an initial value
abbrev is_start : PlainStmt (List ℕ) → Bool
is_start (assign number v e) = true
is_start _ = false

one_start : (name : List ℕ) (o : Option (PlainExpr (List ℕ))) (rest : List (PlainStmt (List ℕ))) → every is_start (listed rest) ≡ true → every is_start (listed (start_by name o ++ rest)) ≡ true
one_start name None rest more = more
one_start name (Some e) rest more = more

all_starts : (ds : List PlainDeclared) → every is_start (starts_in ds) ≡ true
all_starts [] = refl
all_starts (d ∷ ds) = one_start d.name d.initial (flat_map start_of ds) (all_starts ds)

module _ (units : List PlainUnit) (own : List PlainDeclared) where
  variable_start : (external other : Bool) (k : Kind) (e : PlainExpr (List ℕ)) → (if external then is_none (Some e) && other else initial_fits units own (Some k) (Some e)) ≡ true → fits_option (context_of units own) (Some k) e ≡ true
  variable_start true other k e h = absurd (cc)
  variable_start false other k e h = h

  sort_start : (d : PlainDeclared) (s : Sort) (e : PlainExpr (List ℕ)) → d.initial ≡ Some e → sort_fits units own d s ≡ true → fits_option (context_of units own) (sort_kind s) e ≡ true
  sort_start d (sort.Kind k) e is h =
      variable_start (is_external d.section) (is_kind k (scopes.global_kind units d.name)) k e
      (ap (λ o. if is_external d.section then is_none o && is_kind k (scopes.global_kind units d.name) else initial_fits units own (Some k) o) (sym is) ∙ h)
  sort_start d (sort.Array bounds k) e is h = (let none = (and_parts (is_none d.initial) (array_stands units d.name bounds k d.section) h).0 in let some : is_none d.initial ≡ false = ap is_none is in absurd (cc))
  sort_start d (sort.Block word) e is h = instance_none d.section e (ap (instance_fits d.section) (sym is) ∙ h)

  abbrev free : Context (List ℕ)
  free = assigning (context_of units own)

  one_fits : (d : PlainDeclared) (o : Option (PlainExpr (List ℕ))) (rest : List (PlainStmt (List ℕ))) → d.initial ≡ o → IsStarted units own d → all_fit free (listed rest) ≡ true → all_fit free (listed (start_by d.name o ++ rest)) ≡ true
  one_fits d None rest is started more = more
  one_fits d (Some e) rest is started more =
      let fits = ap (λ k. fits_option (context_of units own) k e) started.kind_is ∙ sort_start d d.sort e is started.fits in
      λ i. fits i && more i

  all_fits : (ds : List PlainDeclared) → AllByRecursion (IsStarted units own) ds → all_fit free (starts_in ds) ≡ true
  all_fits [] each = refl
  all_fits (d ∷ ds) each = one_fits d d.initial (flat_map start_of ds) refl each.0 (all_fits ds each.1)

-- a routine's own declarations
own_started : (units : List PlainUnit) (own ds : List PlainDeclared) → repeats (declared_words own) ≡ false → ((d : PlainDeclared) → Among ds d → Among own d) → list_all (declared_fits units own) ds ≡ true → AllByRecursion (IsStarted units own) ds
own_started units own [] once within fits = tt
own_started units own (d ∷ ds) once within fits =
    let parts = and_parts (declared_fits units own d) (list_all (declared_fits units own) ds) fits in
    let found : find_declared own d.name ≡ Some d = self_first (λ (d : PlainDeclared). folded d.name) own d (folded d.name) once (within d (inl refl)) refl in (
      record { kind_is = ap (λ o. option_and_then (λ (d : PlainDeclared). sort_kind d.sort) (or_other o (global_named units d.name))) found; fits = parts.0 },
      own_started units own ds once (λ x here. within x (inr here)) parts.1,
    )

-- the declarations of globals
mapped : {A B : Type 0} (f : A → B) (xs : List A) (x : A) → Among xs x → Among (map f xs) (f x)
mapped f [] x here = elim here [ ]
mapped f (y ∷ ys) x (inl is) = inl (ap f is)
mapped f (y ∷ ys) x (inr later) = inr (mapped f ys x later)

shared_among : (units : List PlainUnit) (d : PlainDeclared) → Among (declared_globals units) d → Among (shared_in units) (global d)
shared_among units d here =
    let u = among_flat (λ (u : PlainUnit). declared_in u.globals) units d here in
    flat_among shared_by units u.0 (global d) u.1 (among_left (map global (declared_in u.0.globals)) (map pou u.0.pous) (global d) (mapped global (declared_in u.0.globals) d u.2))

globals_started : (units : List PlainUnit) (ds : List PlainDeclared) → repeats (map shared_word (shared_in units)) ≡ false → ((d : PlainDeclared) → Among ds d → Among (shared_in units) (global d)) → list_all (declared_fits units []) ds ≡ true → AllByRecursion (IsStarted units []) ds
globals_started units [] once within fits = tt
globals_started units (d ∷ ds) once within fits =
    let parts = and_parts (declared_fits units [] d) (list_all (declared_fits units []) ds) fits in
    let found : find_shared units d.name ≡ Some (global d) = self_first shared_word (shared_in units) (global d) (folded d.name) once (within d (inl refl)) refl in (
      record { kind_is = ap (λ o. option_and_then (λ (d : PlainDeclared). sort_kind d.sort) (as_global o)) found; fits = parts.0 },
      globals_started units ds once (λ x here. within x (inr here)) parts.1,
    )

-- ---- what holds of each unit's globals
not_bad : (b : Bool) → not b ≡ false → b ≡ true
not_bad true is = refl
not_bad false is = absurd (cc)

globals_pass : (stands : PlainSection → Bool) (test : PlainDeclared → Bool) (bad_pou : PlainPou → Bool) (source : ℕ) (units : List PlainUnit) → first_unit (λ (ss : List PlainSection). not (list_all stands ss && list_all test (declared_in ss))) bad_pou source units ≡ None → list_all test (declared_globals units) ≡ true
globals_pass stands test bad_pou source [] e = refl
globals_pass stands test bad_pou source (u ∷ us) e =
    let bad = λ (ss : List PlainSection). not (list_all stands ss && list_all test (declared_in ss)) in
    let parts = none_if (bad u.globals) (record { source = source; pou = None }) (or_place (first_pou bad bad_pou source 0 u.pous) (first_unit bad bad_pou (suc source) us)) e in
    let rest = none_or (first_pou bad bad_pou source 0 u.pous) (first_unit bad bad_pou (suc source) us) parts.1 in
    list_all-append test (declared_in u.globals) (declared_globals us) ∙ (λ i. (and_parts (list_all stands u.globals) (list_all test (declared_in u.globals)) (not_bad (list_all stands u.globals && list_all test (declared_in u.globals)) parts.0)).1 i && globals_pass stands test bad_pou (suc source) us rest.1 i)

-- 0 is in the range of each kind
zero_in_range : (k : Kind) → InRange k (pos 0)
zero_in_range kind.Bool = refl
zero_in_range kind.Dint = refl
zero_in_range kind.Time = refl

all_zero : (vs : List KindAt) → AllByRecursion (λ (v : KindAt). is_in_range v.kind (pos 0) ≡ true) vs
all_zero [] = tt
all_zero (v ∷ vs) = (zero_in_range v.kind, all_zero vs)

zero_in : (source : Source) → AllInRange source zero_world
zero_in source = record {
  values = All-from_recursion (λ (v : KindAt). is_in_range v.kind (pos 0) ≡ true) (all_kinds source) (all_zero (all_kinds source));
  calls = λ path. All-nil _;
}

left_holds : (Holds : World → Type 0) (r : Ran World) → Leaves Holds r → Holds (left_by r)
left_holds Holds (Done w) h = h
left_holds Holds (Trapped w spot trap) h = h

start_controls : {P : Type 0} (number : ℕ) (v : List ℕ) (from to : PlainExpr (List ℕ)) (by : Option (PlainExpr (List ℕ))) (body : PlainBody (List ℕ)) → is_start (for_to number v from to by body) ≡ true → P
start_controls number v from to by body is = absurd (cc)

module _ (units : List PlainUnit) (typed : AreTyped units) (order : List ℕ) (below : AreBelow (source_in units).blocks order) (no_globals : (name : List ℕ) (d : PlainDeclared) → global_named units name ≡ Some d → is_instance_sort d.sort ≡ false) where
  abbrev source : Source
  source = source_in units

  abbrev Holds : World → Type 0
  Holds w = AllInRange source w

  abbrev all : List KindAt
  all = all_kinds source

  abbrev Home : ℕ → Path → Type 0
  Home n path = IsHome units typed order below no_globals n path

  -- assigning the initial values of declarations keeps each value in range
  starts_keep : (own ds : List PlainDeclared) (r : PlainRoutine) (scope : IsScope units own r) (path : Path) (w : World) → Within all (kinds_rule (routine_kinds source.blocks) r (words_of path)) → r.starts ≡ starts_in ds → AllByRecursion (IsStarted units own) ds
      → Holds w → Holds (begun source r path w)
  starts_keep own ds r scope path w home is each holds =
      let context = assigning (context_of units own) in
      let fits : all_fit context r.starts ≡ true = ap (all_fit context) is ∙ all_fits units own ds each in
      left_holds Holds (run_all (routine_space 0 no_calls r path) (meant_in source r r.starts) w)
      (body_keeps units typed order below no_globals own r scope path home 0 no_calls (λ n q w here holds. holds) is_start r.starts w (λ number v from to by body start. start_controls number v from to by body start) (ap (every is_start) is ∙ all_starts ds)
      (body_fits units typed order below no_globals own r scope path home context r.starts refl (λ v k is. is) (λ instance name k is. is) (λ v bounds. refl) fits) holds)

  pou_begun : (p : PlainPou) (path : Path) (w : World) → IsTypedPou units p → Within all (kinds_rule (routine_kinds source.blocks) (routine_of (block_names units) p) (words_of path)) → Holds w → Holds (begun source (routine_of (block_names units) p) path w)
  pou_begun p path w is home holds =
      let own = declared_in p.sections in
      starts_keep own own (routine_of (block_names units) p) (routine_scope units p is.well.once is.well.fit) path w home refl (own_started units own own is.well.once (λ d here. here) is.well.fit) holds

  routine_begins : (r : PlainRoutine) (path : Path) (w : World) → IsTypedRoutine units r → Within all (kinds_rule (routine_kinds source.blocks) r (words_of path)) → Holds w → Holds (begun source r path w)
  routine_begins r path w is home holds =
      subst (λ r. Holds (begun source r path w)) is.is (pou_begun is.p path w is.typed (subst (λ r. Within all (kinds_rule (routine_kinds source.blocks) r (words_of path))) (sym is.is) home) holds)

  module _ (inner : ℕ → Path → World → World) (inner_keeps : (n : ℕ) (q : Path) (w : World) → Home n q → Holds w → Holds (inner n q w)) where
    block_begins : (path : Path) (b : BlockRef) (w : World) → Within all (block_kinds (routine_kinds source.blocks) b (words_of path)) → Holds w → Holds (block_begun inner path b w)
    block_begins path Ton w within holds = holds
    block_begins path Tof w within holds = holds
    block_begins path RTrig w within holds = holds
    block_begins path (Declared n) w within holds = inner_keeps n path w within holds

    instances_begin : (path : Path) (is : List Instance) (w : World) → Within all (instance_kinds (routine_kinds source.blocks) is (words_of path)) → Holds w → Holds (instances_begun inner path is w)
    instances_begin path [] w within holds = holds
    instances_begin path (i ∷ is) w within holds =
        let first = left_within all (block_kinds (routine_kinds source.blocks) i.of (folded i.name ∷ words_of path)) (instance_kinds (routine_kinds source.blocks) is (words_of path)) within in
        let rest = right_within all (block_kinds (routine_kinds source.blocks) i.of (folded i.name ∷ words_of path)) (instance_kinds (routine_kinds source.blocks) is (words_of path)) within in
        instances_begin path is (block_begun inner (i.name ∷ path) i.of w) rest (block_begins (i.name ∷ path) i.of w first holds)

    rule_begins : (r : PlainRoutine) (path : Path) (w : World) → IsTypedRoutine units r → Within all (kinds_rule (routine_kinds source.blocks) r (words_of path)) → Holds w → Holds (begin_rule source inner r path w)
    rule_begins r path w is home holds =
        let held = right_within all (own_kinds r (words_of path)) (instance_kinds (routine_kinds source.blocks) r.instances (words_of path)) home in
        instances_begin path r.instances (begun source r path w) held (routine_begins r path w is home holds)

  abbrev begin_levels : ℕ → ℕ → Path → World → World
  begin_levels d = levels (λ path w. w) (begin_rule source) source.blocks d

  type_begins : (inner : ℕ → Path → World → World) → ((n : ℕ) (q : Path) (w : World) → Home n q → Holds w → Holds (inner n q w)) → (n : ℕ) (path : Path) (w : World) (o : Option PlainRoutine) → slice_get source.blocks n ≡ o → Home n path → Holds w
      → Holds (option_map_or (begin_rule source inner) o (λ path w. w) path w)
  type_begins inner keeps n path w None at home holds = holds
  type_begins inner keeps n path w (Some r) at home holds =
      let rule = type_kinds source.blocks order n r below at in
      rule_begins inner keeps r path w (block_typed units typed r (among_at source.blocks n r at)) (subst (λ f. Within all (f (words_of path))) rule home) holds

  level_begins : (d n : ℕ) (path : Path) (w : World) → Home n path → Holds w → Holds (begin_levels d n path w)
  level_begins zero n path w home holds = holds
  level_begins (suc d) n path w home holds = type_begins (begin_levels d) (λ n q w. level_begins d n q w) n path w (slice_get source.blocks n) refl home holds

  programs_begin : (ps : List PlainRoutine) (w : World) → ((p : PlainRoutine) → Among ps p → Among source.programs p) → Holds w → Holds (programs_begun source ps w)
  programs_begin [] w within holds = holds
  programs_begin (p ∷ ps) w within holds =
      let here = within p (inl refl) in
      programs_begin ps (begin_rule source (routine_begun source) p (p.name ∷ []) w) (λ q later. within q (inr later))
      (rule_begins (routine_begun source) (λ n q w. level_begins _ n q w) p (p.name ∷ []) w (program_typed units typed p here) (program_home source p here) holds)

  none_home : Within all (kinds_rule (routine_kinds source.blocks) (globals_routine source) (words_of []))
  none_home v here = elim here [ ]

  -- before the first scan each value is in range
  pub opening_in_range : Holds (opening source)
  opening_in_range =
      let kinded = typed.are_few.are_shallow.are_short.constant.are_apart.kinded in
      let apart = words_apart units kinded.named.names in
      let fits : list_all (declared_fits units []) (declared_globals units) ≡ true = globals_pass is_global (declared_fits units []) (pou_misfit units) 0 units kinded.kinds in
      programs_begin source.programs (begun source (globals_routine source) [] zero_world) (λ p here. here)
      (starts_keep [] (declared_globals units) (globals_routine source) (globals_scope units) [] zero_world none_home refl (globals_started units (declared_globals units) apart (λ d here. shared_among units d here) fits) (zero_in source))
