-- Well-formed units have no more initial values than variables.
use Rattle.std.proofs.Common.{◌≡◌, ◌∙◌, ap, sym, subst, ℕ, ◌+◌, ◌≤◌, Bool, true, false, List, [], ◌∷◌, ◌++◌, length, length-append, Option, Some, None, arith}
use Rattle.std.specs.Prelude.{◌&&◌, if◌then◌else◌, is_none, flat_map, slice_get}
use Rattle.std.specs.List.{list_all}
use Rattle.std.proofs.lemmas.Bool.{and_parts}
use Rattle.plant_types.specs.declared.values.Kind.{Kind}
use Rattle.st_tree.specs.Plain.{PlainExpr, PlainStmt}
use Rattle.st_tree.specs.Kinds.{is_kind}
use Rattle.st_tree.specs.Numbers.{count_body}
use Rattle.logic_source.specs.SectionKind.{SectionKind}
use Rattle.logic_source.specs.SectionKind.TheVariants as sections
use Rattle.logic_source.specs.Sort.{Sort}
use Rattle.logic_source.specs.Sort.TheVariants as sort
use Rattle.logic_source.specs.StParserUnits.{PlainUnit}
use Rattle.logic_source.specs.DeclaredNames.{PlainDeclared, declared_in}
use Rattle.logic_source.specs.Scopes as scopes
use Rattle.logic_source.specs.Scopes.{is_external}
use Rattle.logic_source.specs.Faults.{AreTyped}
use Rattle.logic_source.specs.Kinds.{initial_fits, instance_fits, array_stands, sort_fits, declared_fits, globals_misfit, pou_misfit}
use Rattle.logic_source.specs.declared.logic.Variable.{Variable}
use Rattle.logic_source.specs.declared.logic.Local.{Local}
use Rattle.logic_source.specs.Source.{PlainRoutine}
use Rattle.logic_source.specs.Units.{global_by, global_of, local_by, local_of, start_by, start_of, listed, declared_globals, source_in}
use Rattle.logic_source.proofs.Agreeing.{among_at}
use Rattle.logic_source.proofs.Ranging.{block_typed, program_typed, IsTypedRoutine}
use Rattle.logic_frames.proofs.Known.{each_global, globals_fit}

-- an instance has no initial value
instance_none : {P : Type 0} (s : SectionKind) (e : PlainExpr (List ℕ)) → instance_fits s (Some e) ≡ true → P
instance_none sections.Local e h = absurd (cc)
instance_none sections.Input e h = absurd (cc)
instance_none sections.Output e h = absurd (cc)
instance_none sections.External e h = absurd (cc)
instance_none sections.Global e h = absurd (cc)

-- an array has none
array_none : {P : Type 0} (stands : Bool) (e : PlainExpr (List ℕ)) → (is_none (Some e) && stands) ≡ true → P
array_none stands e h = absurd (cc)

-- a VAR_EXTERNAL has none
inside : (external other fit : Bool) (e : PlainExpr (List ℕ)) → (if external then is_none (Some e) && other else fit) ≡ true → external ≡ false
inside true other fit e h = absurd (cc)
inside false other fit e h = λ i. false

module _ (units : List PlainUnit) (own : List PlainDeclared) where
  own_start : (d : PlainDeclared) (s : Sort) (o : Option (PlainExpr (List ℕ))) (rest : List (PlainStmt (List ℕ))) (locals : List Local) → d.initial ≡ o → sort_fits units own d s ≡ true → count_body (listed rest) ≤ length locals
      → count_body (listed (start_by d.name o ++ rest)) ≤ length ((if is_external d.section then [] else local_by d s) ++ locals)
  own_start d s None rest locals is fit less = let sum = length-append (if is_external d.section then [] else local_by d s) locals in omega (arith, less, sum)
  own_start d (sort.Kind k) (Some e) rest locals is fit less =
      let within = inside (is_external d.section) (is_kind k (scopes.global_kind units d.name)) (initial_fits units own (Some k) (Some e)) e
      (ap (λ o. if is_external d.section then is_none o && is_kind k (scopes.global_kind units d.name) else initial_fits units own (Some k) o) (sym is) ∙ fit) in
      rw within (omega (arith, less))
  own_start d (sort.Array bounds k) (Some e) rest locals is fit less = array_none (array_stands units d.name bounds k d.section) e (ap (λ o. is_none o && array_stands units d.name bounds k d.section) (sym is) ∙ fit)
  own_start d (sort.Block word) (Some e) rest locals is fit less = instance_none d.section e (ap (instance_fits d.section) (sym is) ∙ fit)

  own_starts : (ds : List PlainDeclared) → list_all (declared_fits units own) ds ≡ true → count_body (listed (flat_map start_of ds)) ≤ length (flat_map local_of ds)
  own_starts [] fits = omega arith
  own_starts (d ∷ ds) fits =
      let parts = and_parts (declared_fits units own d) (list_all (declared_fits units own) ds) fits in
      own_start d d.sort d.initial (flat_map start_of ds) (flat_map local_of ds) (λ i. d.initial) parts.0 (own_starts ds parts.1)

  global_start : (d : PlainDeclared) (s : Sort) (o : Option (PlainExpr (List ℕ))) (rest : List (PlainStmt (List ℕ))) (globals : List Variable) → d.initial ≡ o → sort_fits units own d s ≡ true → count_body (listed rest) ≤ length globals
      → count_body (listed (start_by d.name o ++ rest)) ≤ length (global_by d s ++ globals)
  global_start d s None rest globals is fit less = let sum = length-append (global_by d s) globals in omega (arith, less, sum)
  global_start d (sort.Kind k) (Some e) rest globals is fit less = omega (arith, less)
  global_start d (sort.Array bounds k) (Some e) rest globals is fit less = array_none (array_stands units d.name bounds k d.section) e (ap (λ o. is_none o && array_stands units d.name bounds k d.section) (sym is) ∙ fit)
  global_start d (sort.Block word) (Some e) rest globals is fit less = instance_none d.section e (ap (instance_fits d.section) (sym is) ∙ fit)

  global_starts : (ds : List PlainDeclared) → list_all (declared_fits units own) ds ≡ true → count_body (listed (flat_map start_of ds)) ≤ length (flat_map global_of ds)
  global_starts [] fits = omega arith
  global_starts (d ∷ ds) fits =
      let parts = and_parts (declared_fits units own d) (list_all (declared_fits units own) ds) fits in
      global_start d d.sort d.initial (flat_map start_of ds) (flat_map global_of ds) (λ i. d.initial) parts.0 (global_starts ds parts.1)

-- a routine of well-formed units
routine_starts : (units : List PlainUnit) (r : PlainRoutine) → IsTypedRoutine units r → count_body r.starts ≤ length r.locals
routine_starts units r typed = subst (λ (x : PlainRoutine). count_body x.starts ≤ length x.locals) typed.is (own_starts units (declared_in typed.p.sections) (declared_in typed.p.sections) typed.typed.well.fit)

pub program_starts_few : (units : List PlainUnit) → AreTyped units → (k : ℕ) (p : PlainRoutine) → slice_get (source_in units).programs k ≡ Some p → count_body p.starts ≤ length p.locals
program_starts_few units typed k p at = routine_starts units p (program_typed units typed p (among_at (source_in units).programs k p at))

pub block_starts_few : (units : List PlainUnit) → AreTyped units → (n : ℕ) (r : PlainRoutine) → slice_get (source_in units).blocks n ≡ Some r → count_body r.starts ≤ length r.locals
block_starts_few units typed n r at = routine_starts units r (block_typed units typed r (among_at (source_in units).blocks n r at))

pub global_starts_few : (units : List PlainUnit) → AreTyped units → count_body (source_in units).starts ≤ length (source_in units).globals
global_starts_few units typed =
    global_starts units [] (declared_globals units)
    (each_global (globals_misfit units) (pou_misfit units) (declared_fits units []) (λ ss fits. (globals_fit units ss fits).1) 0 units typed.are_few.are_shallow.are_short.constant.are_apart.kinded.kinds)
