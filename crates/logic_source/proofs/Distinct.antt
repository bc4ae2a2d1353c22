-- The names that well-formed units declare are distinct in their source.
use Rattle.std.proofs.Common.{◌≡◌, ◌∙◌, ap, sym, refl, ℕ, suc, Bool, true, false, not, cond, if◌then◌else◌, List, [], ◌∷◌, ◌++◌, append-nil, map, Option, Some, None}
use Rattle.std.proofs.lemmas.Bool.{or_parts, or_from}
use Rattle.std.proofs.lemmas.List.Concat.{flat_map-append}
use Rattle.std.proofs.lemmas.List.Elements.{All-nil, All-cons, All-append, All-filter, All-weaker, All-head, All-tail, filter-append, filter_map-append}
use Rattle.std.specs.Prelude.{◌&&◌, filter_map, flat_map}
use Rattle.std.specs.List.{list_all, cons_option, All}
use Rattle.std.specs.Str.{bytes_eq}
use Rattle.plant_types.specs.Words.{folded}
use Rattle.st_typing.specs.Sort.{Sort}
use Rattle.st_typing.specs.Sort.TheVariants as sort
use Rattle.st_typing.specs.Units.{PlainSection, PlainPou, PlainUnit}
use Rattle.st_typing.specs.DeclaredNames.{PlainDeclared, declared_in, declared_words}
use Rattle.st_typing.specs.Shared.{Shared, global, pou, shared_in, is_block}
use Rattle.st_typing.specs.Scopes.{is_external}
use Rattle.st_typing.specs.Taken as taken
use Rattle.st_typing.specs.Taken.{is_among, repeats, or_place}
use Rattle.st_typing.specs.Known.{body_known, declared_known, globals_misnamed, pou_misnamed}
use Rattle.st_typing.specs.StNamesFaults.{first_pou, first_unit, first_misnamed}
use Rattle.st_typing.specs.Faults.{AreTyped}
use Rattle.logic_source.specs.declared.logic.Variable.{Variable}
use Rattle.logic_source.specs.declared.logic.Local.{Local}
use Rattle.logic_source.specs.declared.logic.Row.{Row}
use Rattle.logic_source.specs.declared.logic.Instance.{Instance}
use Rattle.logic_source.specs.Source.{PlainRoutine}
use Rattle.logic_source.specs.Pous.{pous_of, block_pous, program_pous, block_names, pou_word}
use Rattle.logic_source.specs.Units.{global_by, global_of, local_by, local_of, row_by, global_row_of, own_row_of, instance_by, instance_of, routine_of, declared_globals, source_in}
use Rattle.logic_source.specs.Names.{global_words, own_words, row_words, instance_words}
use Rattle.logic_source.specs.Layout.{AreNamedApart, IsDistinctlyNamed}
use Rattle.logic_source.proofs.Growing.{fused}
use Rattle.logic_source.proofs.Picked.{picked_apart, none_both, inserted_apart, inserted_last, both_apart}
use Rattle.logic_source.proofs.Apart.{none_if, none_or, none_misnamed, shared_word, words_apart}

-- a declared variable as a global; an instance is none
abbrev pub variable_by : PlainDeclared → Sort → Option Variable
variable_by d (sort.Kind kind) = Some (record { name = d.name; region = d.region; kind = kind })
variable_by d (sort.Block word) = None
variable_by d (sort.Array bounds kind) = None

-- a declared array; a variable and an instance are none
abbrev pub array_by : PlainDeclared → Sort → Option Row
array_by d (sort.Kind kind) = None
array_by d (sort.Block word) = None
array_by d (sort.Array bounds kind) = Some (record { name = d.name; kind = kind; bounds = bounds })

-- the global variable that is shared
abbrev pub pick_global : Shared → Option Variable
pick_global (global d) = variable_by d d.sort
pick_global (pou p) = None

global_by_is : (d : PlainDeclared) (s : Sort) (rest : List Variable) → global_by d s ++ rest ≡ cons_option (variable_by d s) rest
global_by_is d (sort.Kind kind) rest = refl
global_by_is d (sort.Block word) rest = refl
global_by_is d (sort.Array bounds kind) rest = refl

row_by_is : (d : PlainDeclared) (s : Sort) (rest : List Row) → row_by d s ++ rest ≡ cons_option (array_by d s) rest
row_by_is d (sort.Kind kind) rest = refl
row_by_is d (sort.Block word) rest = refl
row_by_is d (sort.Array bounds kind) rest = refl

-- what is made of each declaration of a global is picked out of what is shared
module _ {X : Type 0} (made : PlainDeclared → List X) (pick : Shared → Option X) (of_global : (d : PlainDeclared) (rest : List X) → made d ++ rest ≡ cons_option (pick (global d)) rest) (of_pou : (p : PlainPou) → pick (pou p) ≡ None) where
  of_globals : (ds : List PlainDeclared) → flat_map made ds ≡ filter_map pick (map global ds)
  of_globals [] = refl
  of_globals (d ∷ ds) = ap (λ xs. made d ++ xs) (of_globals ds) ∙ of_global d (filter_map pick (map global ds))

  no_globals : (ps : List PlainPou) → filter_map pick (map pou ps) ≡ []
  no_globals [] = refl
  no_globals (p ∷ ps) = ap (λ o. cons_option o (filter_map pick (map pou ps))) (of_pou p) ∙ no_globals ps

  all_picked : (units : List PlainUnit) → flat_map made (declared_globals units) ≡ filter_map pick (shared_in units)
  all_picked [] = refl
  all_picked (unit ∷ units) =
      let ds = declared_in unit.globals in
      let globals = map global ds in
      let pous = map pou unit.pous in
      flat_map-append made ds (declared_globals units)
      ∙ (λ i. of_globals ds i ++ all_picked units i)
      ∙ ap (λ xs. xs ++ filter_map pick (shared_in units))
      (sym (filter_map-append pick globals pous ∙ ap (λ xs. filter_map pick globals ++ xs) (no_globals unit.pous) ∙ append-nil (filter_map pick globals)))
      ∙ sym (filter_map-append pick (globals ++ pous) (shared_in units))

-- the globals are picked out of what is shared
pub globals_picked : (units : List PlainUnit) → flat_map global_of (declared_globals units) ≡ filter_map pick_global (shared_in units)
globals_picked units = all_picked global_of pick_global (λ d rest. global_by_is d d.sort rest) (λ p. refl) units

-- the global array that is shared
abbrev pub pick_global_row : Shared → Option Row
pick_global_row (global d) = array_by d d.sort
pick_global_row (pou p) = None

-- the global arrays are picked out of what is shared
pub global_rows_picked : (units : List PlainUnit) → flat_map global_row_of (declared_globals units) ≡ filter_map pick_global_row (shared_in units)
global_rows_picked units = all_picked global_row_of pick_global_row (λ d rest. row_by_is d d.sort rest) (λ p. refl) units

variable_named : (d : PlainDeclared) (s : Sort) (v : Variable) → variable_by d s ≡ Some v → v.name ≡ d.name
variable_named d (sort.Kind kind) v e = let is : record { name = d.name; region = d.region; kind = kind } ≡ v = cc in ap (λ (x : Variable). x.name) (sym is)
variable_named d (sort.Block word) v e = absurd (cc)
variable_named d (sort.Array bounds kind) v e = absurd (cc)

array_is_named : (d : PlainDeclared) (s : Sort) (row : Row) → array_by d s ≡ Some row → row.name ≡ d.name
array_is_named d (sort.Kind kind) row e = absurd (cc)
array_is_named d (sort.Block word) row e = absurd (cc)
array_is_named d (sort.Array bounds kind) row e = let is : record { name = d.name; kind = kind; bounds = bounds } ≡ row = cc in ap (λ (x : Row). x.name) (sym is)

pub global_row_named : (s : Shared) (row : Row) → pick_global_row s ≡ Some row → folded row.name ≡ shared_word s
global_row_named (global d) row e = ap folded (array_is_named d d.sort row e)
global_row_named (pou p) row e = absurd (cc)

global_named : (s : Shared) (v : Variable) → pick_global s ≡ Some v → folded v.name ≡ shared_word s
global_named (global d) v e = ap folded (variable_named d d.sort v e)
global_named (pou p) v e = absurd (cc)

-- no two globals have one name
pub globals_apart : (units : List PlainUnit) → first_misnamed units ≡ None → repeats (global_words (flat_map global_of (declared_globals units))) ≡ false
globals_apart units e =
    ap (λ gs. repeats (global_words gs)) (globals_picked units) ∙ picked_apart shared_word (λ (v : Variable). folded v.name) pick_global global_named (shared_in units) (words_apart units e)

-- the program that is shared
abbrev pub pick_program : Shared → Option PlainPou
pick_program (global d) = None
pick_program (pou p) = if is_block p.kind then None else Some p

no_programs : (ds : List PlainDeclared) → filter_map pick_program (map global ds) ≡ []
no_programs [] = refl
no_programs (d ∷ ds) = no_programs ds

program_is : (b : Bool) (p : PlainPou) (rest : List PlainPou) → cond (not b) (p ∷ rest) rest ≡ cons_option (if b then None else Some p) rest
program_is true p rest = refl
program_is false p rest = refl

of_pous : (ps : List PlainPou) → program_pous ps ≡ filter_map pick_program (map pou ps)
of_pous [] = refl
of_pous (p ∷ ps) = program_is (is_block p.kind) p (program_pous ps) ∙ ap (cons_option (pick_program (pou p))) (of_pous ps)

-- the programs are picked out of what is shared
pub programs_picked : (units : List PlainUnit) → program_pous (pous_of units) ≡ filter_map pick_program (shared_in units)
programs_picked [] = refl
programs_picked (unit ∷ units) =
    let globals = map global (declared_in unit.globals) in
    let pous = map pou unit.pous in
    filter-append (λ p. not (is_block p.kind)) unit.pous (pous_of units)
    ∙ (λ i. of_pous unit.pous i ++ programs_picked units i)
    ∙ ap (λ ps. ps ++ filter_map pick_program (shared_in units)) (sym (filter_map-append pick_program globals pous ∙ ap (λ ps. ps ++ filter_map pick_program pous) (no_programs (declared_in unit.globals))))
    ∙ sym (filter_map-append pick_program (globals ++ pous) (shared_in units))

program_at : (b : Bool) (p q : PlainPou) → (if b then None else Some p) ≡ Some q → pou_word q ≡ pou_word p
program_at true p q e = absurd (cc)
program_at false p q e = let is : p ≡ q = cc in ap pou_word (sym is)

program_named : (s : Shared) (q : PlainPou) → pick_program s ≡ Some q → pou_word q ≡ shared_word s
program_named (global d) q e = absurd (cc)
program_named (pou p) q e = program_at (is_block p.kind) p q e

-- no two programs have one name
pub programs_apart : (units : List PlainUnit) → first_misnamed units ≡ None → repeats (map pou_word (program_pous (pous_of units))) ≡ false
programs_apart units e =
    ap (λ ps. repeats (map pou_word ps)) (programs_picked units) ∙ picked_apart shared_word pou_word pick_program program_named (shared_in units) (words_apart units e)

-- no array is a program
row_or_program : (s : Shared) (row : Row) (p : PlainPou) → pick_global_row s ≡ Some row → pick_program s ≡ Some p → ⊥
row_or_program (global d) row p is too = absurd (cc)
row_or_program (pou q) row p is too = absurd (cc)

-- no two global arrays, no two programs, and no array and program have one name
pub rows_apart : (units : List PlainUnit) → first_misnamed units ≡ None → repeats (row_words (flat_map global_row_of (declared_globals units)) ++ map pou_word (program_pous (pous_of units))) ≡ false
rows_apart units e =
    (λ i. repeats (row_words (global_rows_picked units i) ++ map pou_word (programs_picked units i)))
    ∙ both_apart shared_word (λ (row : Row). folded row.name) pou_word pick_global_row pick_program global_row_named program_named row_or_program (shared_in units) (words_apart units e)

module _ (bad_globals : List PlainSection → Bool) (bad_pou : PlainPou → Bool) where
  good_pous : (source n : ℕ) (ps : List PlainPou) → first_pou bad_globals bad_pou source n ps ≡ None → All (λ p. bad_pou p ≡ false) ps
  good_pous source n [] e = All-nil (λ p. bad_pou p ≡ false)
  good_pous source n (p ∷ ps) e =
      let parts = none_if (bad_pou p) (record { source = source; pou = Some n }) (first_pou bad_globals bad_pou source (suc n) ps) e in
      All-cons (λ p. bad_pou p ≡ false) p ps parts.0 (good_pous source (suc n) ps parts.1)

  -- no block or program is bad where no unit is
  pub each_pou : (source : ℕ) (units : List PlainUnit) → first_unit bad_globals bad_pou source units ≡ None → All (λ p. bad_pou p ≡ false) (pous_of units)
  each_pou source [] e = All-nil (λ p. bad_pou p ≡ false)
  each_pou source (unit ∷ units) e =
      let parts = none_if (bad_globals unit.globals) (record { source = source; pou = None }) (or_place (first_pou bad_globals bad_pou source 0 unit.pous) (first_unit bad_globals bad_pou (suc source) units)) e in
      let rest = none_or (first_pou bad_globals bad_pou source 0 unit.pous) (first_unit bad_globals bad_pou (suc source) units) parts.1 in
      All-append (λ p. bad_pou p ≡ false) unit.pous (pous_of units) (good_pous source 0 unit.pous rest.0) (each_pou (suc source) units rest.1)

declared_once : (units : List PlainUnit) (p : PlainPou) → pou_misnamed units p ≡ false → taken.repeats (declared_words (declared_in p.sections)) ≡ false
declared_once units p e =
    let own = declared_in p.sections in
    (or_parts (taken.repeats (declared_words own)) (not (list_all (declared_known units own) own && body_known units own p.body)) e).0

-- no block or program declares a name twice
pub each_declared_once : (units : List PlainUnit) → first_misnamed units ≡ None → All (λ p. taken.repeats (declared_words (declared_in p.sections)) ≡ false) (pous_of units)
each_declared_once units e =
    All-weaker (λ p. pou_misnamed units p ≡ false) (λ p. taken.repeats (declared_words (declared_in p.sections)) ≡ false) (declared_once units) (pous_of units) (each_pou (globals_misnamed units) (pou_misnamed units) 0 units (none_misnamed units e).1)

-- a routine's own variables and its instances, out of what it declares
abbrev word : PlainDeclared → List ℕ
word d = folded d.name

module _ (names : List (List ℕ)) where
  abbrev own : List PlainDeclared → List (List ℕ)
  own ds = own_words (flat_map local_of ds)

  abbrev arrays : List PlainDeclared → List (List ℕ)
  arrays ds = row_words (flat_map own_row_of ds)

  abbrev held : List PlainDeclared → List (List ℕ)
  held ds = instance_words (flat_map (instance_of names) ds)

  -- what no name of a list is, none of its names of either sort is
  own_lacks : (w : List ℕ) (outside : Bool) (d : PlainDeclared) (s : Sort) (rest : List Local) → bytes_eq w (word d) ≡ false → is_among (own_words rest) w ≡ false → is_among (own_words ((if outside then [] else local_by d s) ++ rest)) w ≡ false
  own_lacks w true d s rest other none = none
  own_lacks w false d (sort.Kind kind) rest other none = rw other none
  own_lacks w false d (sort.Block type) rest other none = none
  own_lacks w false d (sort.Array bounds kind) rest other none = none

  rows_lack : (w : List ℕ) (outside : Bool) (d : PlainDeclared) (s : Sort) (rest : List Row) → bytes_eq w (word d) ≡ false → is_among (row_words rest) w ≡ false → is_among (row_words ((if outside then [] else row_by d s) ++ rest)) w ≡ false
  rows_lack w true d s rest other none = none
  rows_lack w false d (sort.Kind kind) rest other none = none
  rows_lack w false d (sort.Block type) rest other none = none
  rows_lack w false d (sort.Array bounds kind) rest other none = rw other none

  held_lacks : (w : List ℕ) (outside : Bool) (d : PlainDeclared) (s : Sort) (rest : List Instance) → bytes_eq w (word d) ≡ false → is_among (instance_words rest) w ≡ false → is_among (instance_words ((if outside then [] else instance_by names d s) ++ rest)) w ≡ false
  held_lacks w true d s rest other none = none
  held_lacks w false d (sort.Kind kind) rest other none = none
  held_lacks w false d (sort.Block type) rest other none = rw other none
  held_lacks w false d (sort.Array bounds kind) rest other none = none

  own_none : (w : List ℕ) (ds : List PlainDeclared) → is_among (map word ds) w ≡ false → is_among (own ds) w ≡ false
  own_none w [] none = refl
  own_none w (d ∷ ds) none = let parts = or_parts (bytes_eq w (word d)) (is_among (map word ds) w) none in own_lacks w (is_external d.section) d d.sort (flat_map local_of ds) parts.0 (own_none w ds parts.1)

  arrays_none : (w : List ℕ) (ds : List PlainDeclared) → is_among (map word ds) w ≡ false → is_among (arrays ds) w ≡ false
  arrays_none w [] none = refl
  arrays_none w (d ∷ ds) none = let parts = or_parts (bytes_eq w (word d)) (is_among (map word ds) w) none in rows_lack w (is_external d.section) d d.sort (flat_map own_row_of ds) parts.0 (arrays_none w ds parts.1)

  held_none : (w : List ℕ) (ds : List PlainDeclared) → is_among (map word ds) w ≡ false → is_among (held ds) w ≡ false
  held_none w [] none = refl
  held_none w (d ∷ ds) none = let parts = or_parts (bytes_eq w (word d)) (is_among (map word ds) w) none in held_lacks w (is_external d.section) d d.sort (flat_map (instance_of names) ds) parts.0 (held_none w ds parts.1)

  abbrev together : List Local → List Row → List Instance → List (List ℕ)
  together ls rows is = own_words ls ++ (row_words rows ++ instance_words is)

  one_more : (outside : Bool) (d : PlainDeclared) (s : Sort) (ls : List Local) (rows : List Row) (is : List Instance) → is_among (together ls rows is) (word d) ≡ false → repeats (together ls rows is) ≡ false
      → repeats (together ((if outside then [] else local_by d s) ++ ls) ((if outside then [] else row_by d s) ++ rows) ((if outside then [] else instance_by names d s) ++ is)) ≡ false
  one_more true d s ls rows is none apart = apart
  one_more false d (sort.Kind kind) ls rows is none apart = or_from (is_among (together ls rows is) (word d)) (repeats (together ls rows is)) none apart
  one_more false d (sort.Block type) ls rows is none apart = inserted_last (word d) (own_words ls) (row_words rows) (instance_words is) none apart
  one_more false d (sort.Array bounds kind) ls rows is none apart = inserted_apart (word d) (own_words ls) (row_words rows ++ instance_words is) none apart

  all_together : (ds : List PlainDeclared) → repeats (map word ds) ≡ false → repeats (own ds ++ (arrays ds ++ held ds)) ≡ false
  all_together [] apart = refl
  all_together (d ∷ ds) apart =
      let parts = or_parts (is_among (map word ds) (word d)) (repeats (map word ds)) apart in
      one_more (is_external d.section) d d.sort (flat_map local_of ds) (flat_map own_row_of ds) (flat_map (instance_of names) ds)
      (none_both (word d) (own ds) (arrays ds ++ held ds) (own_none (word d) ds parts.0) (none_both (word d) (arrays ds) (held ds) (arrays_none (word d) ds parts.0) (held_none (word d) ds parts.0))) (all_together ds parts.1)

  pub routine_apart : (p : PlainPou) → taken.repeats (declared_words (declared_in p.sections)) ≡ false → AreNamedApart (routine_of names p)
  routine_apart p once = all_together (declared_in p.sections) once

  pub routines_apart : (ps : List PlainPou) → All (λ p. taken.repeats (declared_words (declared_in p.sections)) ≡ false) ps → All AreNamedApart (map (routine_of names) ps)
  routines_apart [] each = All-nil AreNamedApart
  routines_apart (p ∷ ps) each =
      All-cons AreNamedApart (routine_of names p) (map (routine_of names) ps) (routine_apart p (All-head (λ p. taken.repeats (declared_words (declared_in p.sections)) ≡ false) p ps each)) (routines_apart ps (All-tail (λ p. taken.repeats (declared_words (declared_in p.sections)) ≡ false) p ps each))

-- the declared names of the source of well-formed units are distinct
pub typed_distinct : (units : List PlainUnit) → AreTyped units → IsDistinctlyNamed (source_in units)
typed_distinct units typed =
    let e = typed.are_few.are_shallow.are_short.constant.are_apart.kinded.named.names in
    let names = block_names units in
    let pous = pous_of units in
    let once : All (λ p. taken.repeats (declared_words (declared_in p.sections)) ≡ false) pous = each_declared_once units e in
    record {
      globals_apart = globals_apart units e;
      rows_apart = ap (λ ws. repeats (row_words (flat_map global_row_of (declared_globals units)) ++ ws)) (sym (fused (λ (r : PlainRoutine). folded r.name) (routine_of names) (program_pous pous))) ∙ rows_apart units e;
      programs_apart = ap repeats (sym (fused (λ (r : PlainRoutine). folded r.name) (routine_of names) (program_pous pous))) ∙ programs_apart units e;
      in_programs = routines_apart names (program_pous pous) (All-filter (λ p. not (is_block p.kind)) (λ p. taken.repeats (declared_words (declared_in p.sections)) ≡ false) pous once);
      in_blocks = routines_apart names (block_pous pous) (All-filter (λ p. is_block p.kind) (λ p. taken.repeats (declared_words (declared_in p.sections)) ≡ false) pous once);
    }
