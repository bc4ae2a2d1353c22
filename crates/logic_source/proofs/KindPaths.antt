-- The kinds of all values at their paths, and worlds in which one is assigned.
use Rattle.std.proofs.Common.{◌≡◌, ◌∙◌, ap, sym, subst, refl, ℕ, ℤ, zero, suc, ◌-ℤ◌, nat_abs, true, false, List, [], ◌∷◌, ◌++◌, map, Option, Some, None, slice_get, inl, inr}
use Rattle.std.specs.Prelude.{if◌then◌else◌, option_map}
use Rattle.std.specs.Option.{option_map_or}
use Rattle.std.specs.List.{AllByRecursion}
use Rattle.std.proofs.lemmas.Bool.{cases_Bool, both_ways}
use Rattle.std.proofs.lemmas.List.{map-append}
use Rattle.std.proofs.lemmas.Option.{slice_get-map}
use Rattle.std.proofs.lemmas.List.Elements.{All-from_recursion, recursion_from_All}
use Rattle.plant_types.specs.Words.{folded}
use Rattle.plant_types.specs.declared.values.Bounds.{Bounds}
use Rattle.plant_types.specs.declared.values.Kind.{Kind}
use Rattle.plant_types.specs.Values.{is_in_range, has_index, Path}
use Rattle.st_blocks.specs.Chains.{Among}
use Rattle.st_tree.proofs.RangeLaws.{InRange}
use Rattle.logic_source.specs.declared.logic.Variable.{Variable}
use Rattle.logic_source.specs.declared.logic.Local.{Local}
use Rattle.logic_source.specs.declared.logic.Row.{Row}
use Rattle.logic_source.specs.declared.logic.Instance.{Instance}
use Rattle.logic_source.specs.declared.logic.BlockRef.{BlockRef}
use Rattle.logic_source.specs.declared.logic.BlockRef.TheVariants.{Ton, Tof, RTrig, Declared}
use Rattle.logic_source.specs.Source.{PlainRoutine, Source}
use Rattle.logic_source.specs.Blocks.{levels, AreBelow}
use Rattle.logic_source.specs.Worlds.{World, same_path, path_of, index_word}
use Rattle.logic_source.specs.Worlds as worlds
use Rattle.logic_source.specs.Layout.{block_values, instance_values, local_values, element_values, row_values, own_values, values_rule, routine_values, variable_values, global_values, program_values, cell_paths, Absent, NoneTwice, IsDistinctlyNamed}
use Rattle.logic_source.specs.Ranges.{KindAt, element_at, block_kinds, instance_kinds, local_kinds, row_kinds, own_kinds, kinds_rule, routine_kinds, global_kind_at, global_kinds, program_kinds, all_kinds, AllInRange}
use Rattle.logic_source.proofs.Paths.{path_is, path_same}
use Rattle.logic_source.proofs.Layouts.{cells_once}
use Rattle.logic_source.proofs.Rows.{element_at_index}
use Rattle.logic_source.proofs.Levels.{by_its_rule}
use Rattle.logic_source.proofs.Agreeing.{among_at, kinds_ask}
use Rattle.logic_source.proofs.Belows.{among_left, among_right}

-- ---- the paths of the kinds are those of the values
abbrev pub path : KindAt → Path
path v = v.path

local_paths : (ls : List Local) (p : Path) → map path (local_kinds ls p) ≡ local_values ls p
local_paths [] p = refl
local_paths (l ∷ ls) p = ap (λ ps. (folded l.name ∷ p) ∷ ps) (local_paths ls p)

element_paths : (k : Kind) (bounds : Bounds) (ps : List Path) → map path (map (element_at k bounds) ps) ≡ ps
element_paths k bounds [] = refl
element_paths k bounds (p ∷ ps) = ap (λ qs. p ∷ qs) (element_paths k bounds ps)

row_paths : (rows : List Row) (p : Path) → map path (row_kinds rows p) ≡ row_values rows p
row_paths [] p = refl
row_paths (row ∷ rows) p =
    let here = element_values row.bounds (folded row.name ∷ p) in
    map-append path (map (element_at row.kind row.bounds) here) (row_kinds rows p) ∙ (λ k. element_paths row.kind row.bounds here k ++ row_paths rows p k)

own_paths : (r : PlainRoutine) (p : Path) → map path (own_kinds r p) ≡ own_values r p
own_paths r p = map-append path (local_kinds r.locals p) (row_kinds r.rows p) ∙ (λ k. local_paths r.locals p k ++ row_paths r.rows p k)

module _ (f : ℕ → Path → List KindAt) (g : ℕ → Path → List Path) (same : (n : ℕ) (p : Path) → map path (f n p) ≡ g n p) where
  block_paths : (b : BlockRef) (p : Path) → map path (block_kinds f b p) ≡ block_values g b p
  block_paths Ton p = refl
  block_paths Tof p = refl
  block_paths RTrig p = refl
  block_paths (Declared n) p = same n p

  instance_paths : (is : List Instance) (p : Path) → map path (instance_kinds f is p) ≡ instance_values g is p
  instance_paths [] p = refl
  instance_paths (i ∷ is) p =
      map-append path (block_kinds f i.of (folded i.name ∷ p)) (instance_kinds f is p) ∙ (λ k. block_paths i.of (folded i.name ∷ p) k ++ instance_paths is p k)

  rule_paths : (r : PlainRoutine) (p : Path) → map path (kinds_rule f r p) ≡ values_rule g r p
  rule_paths r p = map-append path (own_kinds r p) (instance_kinds f r.instances p) ∙ (λ k. own_paths r p k ++ instance_paths r.instances p k)

  paths_by : (o : Option PlainRoutine) (p : Path) → map path (option_map_or (kinds_rule f) o (λ path. []) p) ≡ option_map_or (values_rule g) o (λ path. []) p
  paths_by None p = refl
  paths_by (Some r) p = rule_paths r p

module _ (blocks : List PlainRoutine) where
  level_paths : (d n : ℕ) (p : Path) → map path (levels (λ path. []) kinds_rule blocks d n p) ≡ levels (λ path. []) values_rule blocks d n p
  level_paths zero n p = refl
  level_paths (suc d) n p = paths_by (levels (λ path. []) kinds_rule blocks d) (levels (λ path. []) values_rule blocks d) (level_paths d) (slice_get blocks n) p

  routine_paths : (n : ℕ) (p : Path) → map path (routine_kinds blocks n p) ≡ routine_values blocks n p
  routine_paths n p = level_paths _ n p

  program_paths : (ps : List PlainRoutine) → map path (program_kinds blocks ps) ≡ program_values blocks ps
  program_paths [] = refl
  program_paths (p ∷ ps) =
      map-append path (kinds_rule (routine_kinds blocks) p (folded p.name ∷ [])) (program_kinds blocks ps)
      ∙ (λ k. rule_paths (routine_kinds blocks) (routine_values blocks) routine_paths p (folded p.name ∷ []) k ++ program_paths ps k)

variable_paths : (globals : List Variable) → map path (map global_kind_at globals) ≡ variable_values globals
variable_paths [] = refl
variable_paths (g ∷ gs) = ap (λ ps. path_of g.name ∷ ps) (variable_paths gs)

global_paths : (source : Source) → map path (global_kinds source) ≡ global_values source
global_paths source = map-append path (map global_kind_at source.globals) (row_kinds source.rows []) ∙ (λ k. variable_paths source.globals k ++ row_paths source.rows [] k)

pub paths_all : (source : Source) → map path (all_kinds source) ≡ cell_paths source
paths_all source = map-append path (global_kinds source) (program_kinds source.blocks source.programs) ∙ (λ k. global_paths source k ++ program_paths source.blocks source.programs k)

pub kinds_once : (source : Source) → IsDistinctlyNamed source → NoneTwice (map path (all_kinds source))
kinds_once source named = subst NoneTwice (sym (paths_all source)) (cells_once source named)

-- ---- a part of the kinds
abbrev pub Within : List KindAt → List KindAt → Type 0
Within all part = (v : KindAt) → Among part v → Among all v

pub left_within : (all xs ys : List KindAt) → Within all (xs ++ ys) → Within all xs
left_within all xs ys within v here = within v (among_left xs ys v here)

pub right_within : (all xs ys : List KindAt) → Within all (xs ++ ys) → Within all ys
right_within all xs ys within v here = within v (among_right xs ys v here)

-- the kinds of an instance's values are among those of its routine's
pub instance_within : (inner : ℕ → Path → List KindAt) (all : List KindAt) (is : List Instance) (p : Path) (i : Instance) → Within all (instance_kinds inner is p) → Among is i → Within all (block_kinds inner i.of (folded i.name ∷ p))
instance_within inner all [] p i within here = elim here [ ]
instance_within inner all (j ∷ is) p i within (inl is_it) =
    subst (λ (x : Instance). Within all (block_kinds inner x.of (folded x.name ∷ p))) is_it (left_within all (block_kinds inner j.of (folded j.name ∷ p)) (instance_kinds inner is p) within)
instance_within inner all (j ∷ is) p i within (inr later) = instance_within inner all is p i (right_within all (block_kinds inner j.of (folded j.name ∷ p)) (instance_kinds inner is p) within) later

-- the kinds of a program's values are among all
program_within : (blocks ps : List PlainRoutine) (p : PlainRoutine) → Among ps p → Within (program_kinds blocks ps) (kinds_rule (routine_kinds blocks) p (folded p.name ∷ []))
program_within blocks [] p there v here = elim there [ ]
program_within blocks (q ∷ qs) p (inl is) v here =
    among_left (kinds_rule (routine_kinds blocks) q (folded q.name ∷ [])) (program_kinds blocks qs) v (subst (λ (x : PlainRoutine). Among (kinds_rule (routine_kinds blocks) x (folded x.name ∷ [])) v) (sym is) here)
program_within blocks (q ∷ qs) p (inr later) v here = among_right (kinds_rule (routine_kinds blocks) q (folded q.name ∷ [])) (program_kinds blocks qs) v (program_within blocks qs p later v here)

pub program_home : (source : Source) (p : PlainRoutine) → Among source.programs p → Within (all_kinds source) (kinds_rule (routine_kinds source.blocks) p (folded p.name ∷ []))
program_home source p there v here = among_right (global_kinds source) (program_kinds source.blocks source.programs) v (program_within source.blocks source.programs p there v here)

mapped_among : (globals : List Variable) (i : ℕ) (g : Variable) → slice_get globals i ≡ Some g → Among (map global_kind_at globals) (global_kind_at g)
mapped_among [] i g at = absurd (cc)
mapped_among (h ∷ hs) zero g at = inl (let same : h ≡ g = cc in ap global_kind_at same)
mapped_among (h ∷ hs) (suc i) g at = inr (mapped_among hs i g at)

pub global_among : (source : Source) (i : ℕ) (g : Variable) → slice_get source.globals i ≡ Some g → Among (all_kinds source) (global_kind_at g)
global_among source i g at =
    among_left (global_kinds source) (program_kinds source.blocks source.programs) (global_kind_at g) (among_left (map global_kind_at source.globals) (row_kinds source.rows []) (global_kind_at g) (mapped_among source.globals i g at))

-- an element of an array is among those of its arrays
row_among : (rows : List Row) (p : Path) (k : ℕ) (row : Row) (i : ℤ) → slice_get rows k ≡ Some row → has_index row.bounds i ≡ true → Among (row_kinds rows p) (element_at row.kind row.bounds (index_word i ∷ folded row.name ∷ p))
row_among [] p k row i at within = absurd (cc)
row_among (r ∷ rows) p zero row i at within =
    let same : r ≡ row = cc in
    let here = element_values row.bounds (folded row.name ∷ p) in
    let n = nat_abs (i -ℤ row.bounds.low) in
    let element = element_at row.kind row.bounds (index_word i ∷ folded row.name ∷ p) in
    let found : slice_get (map (element_at row.kind row.bounds) here) n ≡ Some element = slice_get-map (element_at row.kind row.bounds) here n ∙ ap (option_map (element_at row.kind row.bounds)) (element_at_index row.bounds i (folded row.name ∷ p) within) in
    subst (λ (x : Row). Among (row_kinds (x ∷ rows) p) element) (sym same)
    (among_left (map (element_at row.kind row.bounds) here) (row_kinds rows p) element (among_at (map (element_at row.kind row.bounds) here) n element found))
row_among (r ∷ rows) p (suc k) row i at within =
    among_right (map (element_at r.kind r.bounds) (element_values r.bounds (folded r.name ∷ p))) (row_kinds rows p) (element_at row.kind row.bounds (index_word i ∷ folded row.name ∷ p)) (row_among rows p k row i at within)

pub own_row_among : (r : PlainRoutine) (p : Path) (k : ℕ) (row : Row) (i : ℤ) → slice_get r.rows k ≡ Some row → has_index row.bounds i ≡ true → Among (own_kinds r p) (element_at row.kind row.bounds (index_word i ∷ folded row.name ∷ p))
own_row_among r p k row i at within = among_right (local_kinds r.locals p) (row_kinds r.rows p) (element_at row.kind row.bounds (index_word i ∷ folded row.name ∷ p)) (row_among r.rows p k row i at within)

pub global_row_among : (source : Source) (k : ℕ) (row : Row) (i : ℤ) → slice_get source.rows k ≡ Some row → has_index row.bounds i ≡ true → Among (all_kinds source) (element_at row.kind row.bounds (index_word i ∷ path_of row.name))
global_row_among source k row i at within =
    let element = element_at row.kind row.bounds (index_word i ∷ path_of row.name) in
    among_left (global_kinds source) (program_kinds source.blocks source.programs) element (among_right (map global_kind_at source.globals) (row_kinds source.rows []) element (row_among source.rows [] k row i at within))

-- what a block type has is what its rule gives
pub type_kinds : (blocks : List PlainRoutine) (order : List ℕ) (n : ℕ) (r : PlainRoutine) → AreBelow blocks order → slice_get blocks n ≡ Some r → routine_kinds blocks n ≡ kinds_rule (routine_kinds blocks) r
type_kinds blocks order n r below is = by_its_rule (λ path. []) kinds_rule blocks order below kinds_ask n r is

-- ---- what holds of each value after one is assigned
abbrev pub Holds : World → KindAt → Type 0
Holds w v = is_in_range v.kind (w.values v.path) ≡ true

at_path : (w : World) (v : KindAt) (xs : List KindAt) → Among xs v → AllByRecursion (Holds w) xs → Holds w v
at_path w v [] here all = elim here [ ]
at_path w v (x ∷ xs) (inl is) all = subst (Holds w) is all.0
at_path w v (x ∷ xs) (inr later) all = at_path w v xs later all.1

pub absent_in : (p : Path) (v : KindAt) (xs : List KindAt) → Absent p (map path xs) → Among xs v → same_path p v.path ≡ false
absent_in p v [] none here = elim here [ ]
absent_in p v (x ∷ xs) none (inl is) = ap (λ (y : KindAt). same_path p y.path) (sym is) ∙ none.0
absent_in p v (x ∷ xs) none (inr later) = absent_in p v xs none.1 later

untouched : (w : World) (p : Path) (n : ℤ) (xs : List KindAt) → Absent p (map path xs) → AllByRecursion (Holds w) xs → AllByRecursion (Holds (worlds.assign w p n)) xs
untouched w p n [] none all = tt
untouched w p n (x ∷ xs) none all = (ap (λ b. is_in_range x.kind (if b then n else w.values x.path)) none.0 ∙ all.0, untouched w p n xs none.1 all.1)

turned_path : (p q : Path) → same_path p q ≡ false → same_path q p ≡ false
turned_path p q isnt =
    elim (cases_Bool (same_path q p)) [
      | inl yes' ↦ absurd (both_ways (same_path p q) isnt (subst (λ x. same_path p x ≡ true) (sym (path_is q p yes')) (path_same p)))
      | inr no' ↦ no'
    ]

assigned : (w : World) (v : KindAt) (n : ℤ) (xs : List KindAt) → NoneTwice (map path xs) → Among xs v → InRange v.kind n → AllByRecursion (Holds w) xs → AllByRecursion (Holds (worlds.assign w v.path n)) xs
assigned w v n [] once here fits all = tt
assigned w v n (x ∷ xs) once (inl is) fits all =
    let same : same_path v.path x.path ≡ true = subst (λ (y : KindAt). same_path v.path y.path ≡ true) (sym is) (path_same v.path) in
    (ap (λ b. is_in_range x.kind (if b then n else w.values x.path)) same ∙ ap (λ (y : KindAt). is_in_range y.kind n) is ∙ fits, untouched w v.path n xs (subst (λ (y : KindAt). Absent y.path (map path xs)) is once.0) all.1)
assigned w v n (x ∷ xs) once (inr later) fits all =
    let isnt : same_path v.path x.path ≡ false = turned_path x.path v.path (absent_in x.path v xs once.0 later) in
    (ap (λ b. is_in_range x.kind (if b then n else w.values x.path)) isnt ∙ all.0, assigned w v n xs once.1 later fits all.1)

-- the value of each kind's path is in the kind's range
pub value_in : (source : Source) (w : World) (v : KindAt) → AllInRange source w → Among (all_kinds source) v → InRange v.kind (w.values v.path)
value_in source w v holds here = at_path w v (all_kinds source) here (recursion_from_All (Holds w) (all_kinds source) holds.values)

-- assigning a value of a kind's range at its path keeps all in range
pub put_in : (source : Source) (w : World) (v : KindAt) (n : ℤ) → IsDistinctlyNamed source → Among (all_kinds source) v → InRange v.kind n → AllInRange source w → AllInRange source (worlds.assign w v.path n)
put_in source w v n named here fits holds = record {
  values = All-from_recursion (Holds (worlds.assign w v.path n)) (all_kinds source) (assigned w v n (all_kinds source) (kinds_once source named) here fits (recursion_from_All (Holds w) (all_kinds source) holds.values));
  calls = holds.calls;
}

-- the same of the globals
pub global_in : (source : Source) (w : World) → AllInRange source w → (i : ℕ) (global : Variable) → slice_get source.globals i ≡ Some global → InRange global.kind (w.values (path_of global.name))
global_in source w holds i global at = value_in source w (global_kind_at global) holds (global_among source i global at)

pub global_put : (source : Source) → IsDistinctlyNamed source → (w : World) (i : ℕ) (global : Variable) (n : ℤ) → slice_get source.globals i ≡ Some global → InRange global.kind n → AllInRange source w → AllInRange source (worlds.assign w (path_of global.name) n)
global_put source named w i global n at fits holds = put_in source w (global_kind_at global) n named (global_among source i global at) fits holds
