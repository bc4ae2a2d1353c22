-- Each name in the source of well-formed units has a number.
use Rattle.std.proofs.Common.{◌≡◌, ◌∙◌, ap, sym, refl, ℕ, suc, Bool, true, false, not, List, [], ◌∷◌, ◌++◌, map, Option, Some, None}
use Rattle.std.specs.Prelude.{◌&&◌, is_some, flat_map}
use Rattle.std.specs.List.{list_all, All}
use Rattle.std.specs.Str.{bytes_eq}
use Rattle.std.proofs.lemmas.Bool.{and_parts, and_from}
use Rattle.std.proofs.lemmas.List.Folds.{list_all-append, list_all-map}
use Rattle.std.proofs.lemmas.List.Elements.{All-nil, All-cons, All-head, All-tail, All-filter}
use Rattle.plant_types.specs.Words.{folded, same_word}
use Rattle.plant_types.specs.declared.values.Kind.{Kind}
use Rattle.st_blocks.specs.Chains.{Among}
use Rattle.st_tree.specs.Every.{every}
use Rattle.st_tree.specs.Fits.{all_fit}
use Rattle.st_tree.specs.Plain.{PlainExpr, for_to, PlainBody}
use Rattle.st_tree.specs.Mapping.{body_known}
use Rattle.logic_source.specs.SectionKind.{SectionKind}
use Rattle.logic_source.specs.SectionKind.TheVariants as sections
use Rattle.logic_source.specs.Sort.{Sort}
use Rattle.logic_source.specs.Sort.TheVariants as sort
use Rattle.logic_source.specs.StParserUnits.{PlainDeclaration, PlainSection, PlainPou, PlainUnit}
use Rattle.logic_source.specs.First.{first_that}
use Rattle.logic_source.specs.DeclaredNames.{PlainDeclared, declared_as, declared_together, declared_by, declared_in, declared_words, is_instance_sort}
use Rattle.logic_source.specs.Shared.{Shared, global, pou, shared_name, shared_in, is_block, as_global, global_named}
use Rattle.logic_source.specs.Scopes.{variable_kind, region_named, is_input, is_assignable, is_control}
use Rattle.logic_source.specs.Taken.{or_place, repeats}
use Rattle.logic_source.specs.StNamesFaults.{first_pou, first_unit}
use Rattle.logic_source.specs.Kinds.{context_of, instance_fits, sort_fits, declared_fits, is_global_section, is_global, globals_misfit, pou_misfit}
use Rattle.logic_source.specs.Constants.{declared_constant, bounds_allowed, never_assigns, stmt_allowed, globals_inconstant, pou_inconstant}
use Rattle.logic_source.specs.Faults.{AreTyped}
use Rattle.logic_source.specs.Source.{PlainRoutine, Source, global_cells}
use Rattle.logic_source.specs.Pous.{pous_of, block_pous, program_pous, block_names}
use Rattle.logic_source.specs.Units.{routine_of, declared_globals, source_in}
use Rattle.logic_source.specs.Names.{global_words, own_words, find_word}
use Rattle.logic_source.specs.Worlds.{globals_routine}
use Rattle.logic_source.proofs.Apart.{none_if, none_or, shared_word, words_apart}
use Rattle.logic_source.proofs.Distinct.{each_pou, each_declared_once}
use Rattle.logic_source.proofs.Scopes.{routine_scope, array_at}
use Rattle.logic_frames.specs.Numbers.{numbered_in, variables_in, HasItsNames, HasAllNames}
use Rattle.logic_frames.proofs.Fitting.{body_is}
use Rattle.logic_frames.proofs.Typed.{placed_some, own_first, global_next, not_false, first_passes, variable_numbered, control_numbered, instance_numbered, declared_all}
use Rattle.logic_frames.proofs.Shown.{input_numbered, output_numbered}
use Rattle.logic_frames.proofs.Initials.{initials_constant, starts_known, passes_among, initial_variable, own_among, global_among}

-- what is so of the globals of each unit is so of all globals
module _ (bad_globals : List PlainSection → Bool) (bad_pou : PlainPou → Bool) (test : PlainDeclared → Bool) (good : (sections : List PlainSection) → bad_globals sections ≡ false → list_all test (declared_in sections) ≡ true) where
  pub each_global : (source : ℕ) (units : List PlainUnit) → first_unit bad_globals bad_pou source units ≡ None → list_all test (declared_globals units) ≡ true
  each_global source [] e = refl
  each_global source (unit ∷ units) e =
      let parts = none_if (bad_globals unit.globals) (record { source = source; pou = None }) (or_place (first_pou bad_globals bad_pou source 0 unit.pous) (first_unit bad_globals bad_pou (suc source) units)) e in
      let rest = none_or (first_pou bad_globals bad_pou source 0 unit.pous) (first_unit bad_globals bad_pou (suc source) units) parts.1 in
      list_all-append test (declared_in unit.globals) (declared_globals units)
      ∙ and_from (list_all test (declared_in unit.globals)) (list_all test (declared_globals units)) (good unit.globals parts.0) (each_global (suc source) units rest.1)

-- the sections of globals are VAR_GLOBAL, and so is that of each name
abbrev stands_global : PlainDeclared → Bool
stands_global d = is_global_section d.section

names_global : (kind : SectionKind) (d : PlainDeclaration) (names : List (List ℕ)) → is_global_section kind ≡ true → list_all stands_global (map (declared_as kind d) names) ≡ true
names_global kind d [] is = refl
names_global kind d (name ∷ names) is = and_from (is_global_section kind) (list_all stands_global (map (declared_as kind d) names)) is (names_global kind d names is)

section_global : (kind : SectionKind) (ds : List PlainDeclaration) → is_global_section kind ≡ true → list_all stands_global (flat_map (declared_together kind) ds) ≡ true
section_global kind [] is = refl
section_global kind (d ∷ ds) is =
    list_all-append stands_global (declared_together kind d) (flat_map (declared_together kind) ds)
    ∙ and_from (list_all stands_global (declared_together kind d)) (list_all stands_global (flat_map (declared_together kind) ds)) (names_global kind d d.names is) (section_global kind ds is)

sections_global : (ss : List PlainSection) → list_all is_global ss ≡ true → list_all stands_global (declared_in ss) ≡ true
sections_global [] all = refl
sections_global (s ∷ ss) all =
    let parts = and_parts (is_global s) (list_all is_global ss) all in
    list_all-append stands_global (declared_by s) (declared_in ss)
    ∙ and_from (list_all stands_global (declared_by s)) (list_all stands_global (declared_in ss)) (section_global s.kind s.declarations parts.0) (sections_global ss parts.1)

-- a name that stands in VAR_GLOBAL and fits is a variable
abbrev is_variable : PlainDeclared → Bool
is_variable d = not (is_instance_sort d.sort)

no_global_instance : (section : SectionKind) (o : Option (PlainExpr (List ℕ))) → is_global_section section ≡ true → instance_fits section o ≡ false
no_global_instance sections.Local o is = absurd (cc)
no_global_instance sections.External o is = refl
no_global_instance sections.Input o is = refl
no_global_instance sections.Output o is = refl
no_global_instance sections.Global o is = refl

variable_by : (units : List PlainUnit) (own : List PlainDeclared) (d : PlainDeclared) (s : Sort) → stands_global d ≡ true → sort_fits units own d s ≡ true → not (is_instance_sort s) ≡ true
variable_by units own d (sort.Kind k) stands fit = refl
variable_by units own d (sort.Array bounds k) stands fit = refl
variable_by units own d (sort.Block word) stands fit = let none = no_global_instance d.section d.initial stands in absurd (cc)

are_variables : (units : List PlainUnit) (own ds : List PlainDeclared) → list_all stands_global ds ≡ true → list_all (declared_fits units own) ds ≡ true → list_all is_variable ds ≡ true
are_variables units own [] stand fit = refl
are_variables units own (d ∷ ds) stand fit =
    let first = and_parts (stands_global d) (list_all stands_global ds) stand in
    let second = and_parts (declared_fits units own d) (list_all (declared_fits units own) ds) fit in
    and_from (is_variable d) (list_all is_variable ds) (variable_by units own d d.sort first.0 second.0) (are_variables units own ds first.1 second.1)

module _ (units : List PlainUnit) where
  pub globals_fit : (ss : List PlainSection) → globals_misfit units ss ≡ false → (list_all is_global ss ≡ true) × (list_all (declared_fits units []) (declared_in ss) ≡ true)
  globals_fit ss fits = and_parts (list_all is_global ss) (list_all (declared_fits units []) (declared_in ss)) (not_false (list_all is_global ss && list_all (declared_fits units []) (declared_in ss)) fits)

  variables_only : (ss : List PlainSection) → globals_misfit units ss ≡ false → list_all is_variable (declared_in ss) ≡ true
  variables_only ss fits = let parts = globals_fit ss fits in are_variables units [] (declared_in ss) (sections_global ss parts.0) parts.1

-- what is shared is no instance
abbrev no_instance : Shared → Bool
no_instance (global d) = is_variable d
no_instance (pou p) = true

pous_pass : (ps : List PlainPou) → list_all no_instance (map pou ps) ≡ true
pous_pass [] = refl
pous_pass (p ∷ ps) = pous_pass ps

shared_pass : (units : List PlainUnit) → list_all is_variable (declared_globals units) ≡ true → list_all no_instance (shared_in units) ≡ true
shared_pass [] all = refl
shared_pass (unit ∷ units) all =
    let ds = declared_in unit.globals in
    let parts = and_parts (list_all is_variable ds) (list_all is_variable (declared_globals units)) (sym (list_all-append is_variable ds (declared_globals units)) ∙ all) in
    let globals = map global ds in
    let pous = map pou unit.pous in
    let here : list_all no_instance (globals ++ pous) ≡ true =
    list_all-append no_instance globals pous ∙ and_from (list_all no_instance globals) (list_all no_instance pous) (list_all-map no_instance global ds ∙ parts.0) (pous_pass unit.pous) in
    list_all-append no_instance (globals ++ pous) (shared_in units) ∙ and_from (list_all no_instance (globals ++ pous)) (list_all no_instance (shared_in units)) here (shared_pass units parts.1)

global_is : (o : Option Shared) (d : PlainDeclared) → as_global o ≡ Some d → o ≡ Some (global d)
global_is None d is = absurd (cc)
global_is (Some (global e)) d is = let same : e ≡ d = cc in ap (λ x. Some (global x)) same
global_is (Some (pou p)) d is = absurd (cc)

not_true : (b : Bool) → not b ≡ true → b ≡ false
not_true true is = absurd (cc)
not_true false is = refl

-- no global is an instance where all are variables
no_global_is_instance : (units : List PlainUnit) → list_all is_variable (declared_globals units) ≡ true → (name : List ℕ) (d : PlainDeclared) → global_named units name ≡ Some d → is_instance_sort d.sort ≡ false
no_global_is_instance units all name d found =
    not_true (is_instance_sort d.sort) (first_passes (λ s. same_word (shared_name s) name) no_instance (shared_in units) (global d) (shared_pass units all) (global_is (first_that (λ s. same_word (shared_name s) name) (shared_in units)) d found))

module _ (units : List PlainUnit) where
  abbrev source : Source
  source = source_in units

  abbrev routine : PlainPou → PlainRoutine
  routine p = routine_of (block_names units) p

  -- each name in a routine's body, and in its initial values, has a number
  module _ (variables : (name : List ℕ) (d : PlainDeclared) → global_named units name ≡ Some d → is_instance_sort d.sort ≡ false) (apart : repeats (map shared_word (shared_in units)) ≡ false)
      (p : PlainPou) (once : repeats (declared_words (declared_in p.sections)) ≡ false) (fits : pou_misfit units p ≡ false) (constant : pou_inconstant p ≡ false) where
    abbrev own : List PlainDeclared
    own = declared_in p.sections

    constants : (list_all declared_constant own ≡ true) × (every (stmt_allowed own) p.body ≡ true)
    constants = and_parts (list_all declared_constant own) (every (stmt_allowed own) p.body) (not_false (list_all declared_constant own && every (stmt_allowed own) p.body) constant)

    body_fits : all_fit (context_of units own) p.body ≡ true
    body_fits = (and_parts (list_all (declared_fits units own) own) (all_fit (context_of units own) p.body) (not_false (list_all (declared_fits units own) own && all_fit (context_of units own) p.body) fits)).1

    assigned_numbered : (name : List ℕ) → is_assignable units own name ≡ true → (numbered_in source (routine p)).has_variable name ≡ true
    assigned_numbered name assignable =
        let there = (and_parts (is_some (variable_kind units own name)) (not (is_input (region_named units own name))) assignable).0 in
        by_kind name (variable_kind units own name) refl there
      where
        by_kind : (name : List ℕ) (o : Option Kind) → variable_kind units own name ≡ o → is_some o ≡ true → (numbered_in source (routine p)).has_variable name ≡ true
        by_kind name None is there = absurd (cc)
        by_kind name (Some k) is there = variable_numbered units p fits name k is

    allowed_numbered : (number : ℕ) (v : List ℕ) (from to : PlainExpr (List ℕ)) (by : Option (PlainExpr (List ℕ))) (body : PlainBody (List ℕ)) → stmt_allowed own (for_to number v from to by body) ≡ true → (numbered_in source (routine p)).has_variable v ≡ true
    allowed_numbered number v from to by body allowed = control_numbered units p fits v (and_parts (is_control own v) (bounds_allowed from to by && never_assigns v body) allowed).0

    body_numbered : body_known (numbered_in source (routine p)) p.body ≡ true
    body_numbered =
        body_is (context_of units own) (numbered_in source (routine p))
        (record {
          variables = variable_numbered units p fits;
          arrays = λ v bounds k is. (array_at units apart own (routine p) (routine_scope units p once (declared_all units p fits)) v k is).numbered (global_cells source);
          assigned = assigned_numbered;
          instances = instance_numbered units p fits variables;
          inputs = input_numbered units p fits variables;
          outputs = output_numbered units p fits variables;
        })
        (stmt_allowed own) allowed_numbered p.body body_fits constants.1

    start_numbered : (d : PlainDeclared) → Among own d → (e : PlainExpr (List ℕ)) → d.initial ≡ Some e → (variables_in source (routine p)).has_variable d.name ≡ true
    start_numbered d among e is =
        let v = initial_variable units own d e is (passes_among (declared_fits units own) own d (declared_all units p fits) among) in
        own_first (global_cells source) (find_word (own_words (routine p).locals) d.name) (find_word (global_words source.globals) d.name)
        (placed_some (bytes_eq (folded d.name)) (own_words (routine p).locals) (own_among own d v.0 among v.2 v.1))

    has_its_names : HasItsNames source (routine p)
    has_its_names = record { in_body = body_numbered; in_starts = starts_known (variables_in source (routine p)) own (initials_constant (variables_in source (routine p)) own constants.0) start_numbered }

  -- each name in the initial values of globals has a number
  global_starts : list_all (declared_fits units []) (declared_globals units) ≡ true → list_all declared_constant (declared_globals units) ≡ true → body_known (variables_in source (globals_routine source)) source.starts ≡ true
  global_starts fit constant = starts_known (variables_in source (globals_routine source)) (declared_globals units) (initials_constant (variables_in source (globals_routine source)) (declared_globals units) constant) numbered
    where
      numbered : (d : PlainDeclared) → Among (declared_globals units) d → (e : PlainExpr (List ℕ)) → d.initial ≡ Some e → (variables_in source (globals_routine source)).has_variable d.name ≡ true
      numbered d among e is =
          let v = initial_variable units [] d e is (passes_among (declared_fits units []) (declared_globals units) d fit among) in
          global_next (global_cells source) (find_word (own_words (globals_routine source).locals) d.name) (find_word (global_words source.globals) d.name)
          (placed_some (bytes_eq (folded d.name)) (global_words source.globals) (global_among (declared_globals units) d v.0 among v.1))

  abbrev IsOnce : PlainPou → Type 0
  IsOnce p = repeats (declared_words (declared_in p.sections)) ≡ false

  all_have : ((p : PlainPou) → IsOnce p → pou_misfit units p ≡ false → pou_inconstant p ≡ false → HasItsNames source (routine p)) → (ps : List PlainPou) → All IsOnce ps → All (λ p. pou_misfit units p ≡ false) ps → All (λ p. pou_inconstant p ≡ false) ps
      → All (HasItsNames source) (map routine ps)
  all_have each [] once fit constant = All-nil (HasItsNames source)
  all_have each (p ∷ ps) once fit constant =
      All-cons (HasItsNames source) (routine p) (map routine ps)
      (each p (All-head IsOnce p ps once) (All-head (λ p. pou_misfit units p ≡ false) p ps fit) (All-head (λ p. pou_inconstant p ≡ false) p ps constant))
      (all_have each ps (All-tail IsOnce p ps once) (All-tail (λ p. pou_misfit units p ≡ false) p ps fit) (All-tail (λ p. pou_inconstant p ≡ false) p ps constant))

  constant_globals : (ss : List PlainSection) → globals_inconstant ss ≡ false → list_all declared_constant (declared_in ss) ≡ true
  constant_globals ss constant = not_false (list_all declared_constant (declared_in ss)) constant

-- no global of well-formed units is an instance
pub typed_globals : (units : List PlainUnit) → AreTyped units → (name : List ℕ) (d : PlainDeclared) → global_named units name ≡ Some d → is_instance_sort d.sort ≡ false
typed_globals units typed =
    no_global_is_instance units (each_global (globals_misfit units) (pou_misfit units) is_variable (variables_only units) 0 units typed.are_few.are_shallow.are_short.constant.are_apart.kinded.kinds)

-- each name in the source of well-formed units has a number
pub typed_known : (units : List PlainUnit) → AreTyped units → HasAllNames (source_in units)
typed_known units typed =
    let constant = typed.are_few.are_shallow.are_short.constant in
    let kinds = constant.are_apart.kinded.kinds in
    let pous = pous_of units in
    let fit = each_pou (globals_misfit units) (pou_misfit units) 0 units kinds in
    let held = each_pou globals_inconstant pou_inconstant 0 units constant.constants in
    let variables = typed_globals units typed in
    let names = constant.are_apart.kinded.named.names in
    let each = has_its_names units variables (words_apart units names) in
    let once = each_declared_once units names in
    record {
      in_globals = global_starts units
          (each_global (globals_misfit units) (pou_misfit units) (declared_fits units []) (λ ss fits. (globals_fit units ss fits).1) 0 units kinds)
          (each_global globals_inconstant pou_inconstant declared_constant (constant_globals units) 0 units constant.constants);
      in_programs = all_have units each (program_pous pous) (All-filter (λ p. not (is_block p.kind)) (IsOnce units) pous once) (All-filter (λ p. not (is_block p.kind)) (λ p. pou_misfit units p ≡ false) pous fit) (All-filter (λ p. not (is_block p.kind)) (λ p. pou_inconstant p ≡ false) pous held);
      in_blocks = all_have units each (block_pous pous) (All-filter (λ p. is_block p.kind) (IsOnce units) pous once) (All-filter (λ p. is_block p.kind) (λ p. pou_misfit units p ≡ false) pous fit) (All-filter (λ p. is_block p.kind) (λ p. pou_inconstant p ≡ false) pous held);
    }
