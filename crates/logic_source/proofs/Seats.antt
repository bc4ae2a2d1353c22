-- What stands where in the lists of all values and all standard blocks.
use Rattle.std.proofs.Common.{◌≡◌, ◌∙◌, ap, sym, subst, refl, arith, ℕ, ℤ, zero, suc, pos, ◌+◌, ◌<◌, ◌≤◌, ◌+ℤ◌, ◌-ℤ◌, nat_abs, take, true, List, [], ◌∷◌, ◌++◌, map, length, get_or, Option, Some, None, slice_get}
use Rattle.std.specs.Prelude.{is_some, option_map, option_and_then, if◌then◌else◌, slice_set}
use Rattle.std.specs.Option.{option_map_or}
use Rattle.std.specs.Str.{bytes_eq}
use Rattle.std.specs.Cmp.Lexicographic.{bytes_decides}
use Rattle.std.proofs.lemmas.List.{length-map, length-append}
use Rattle.std.proofs.lemmas.List.Sums.{sum_by-cons}
use Rattle.std.proofs.lemmas.List.Quantifiers.{position-Some}
use Rattle.std.proofs.lemmas.Option.{slice_get-map, slice_get_within, slice_get-get_or, get_or_from_slice_get}
use Rattle.std.proofs.Math.ListN.{set}
use Rattle.plant_types.specs.declared.values.Bounds.{Bounds}
use Rattle.plant_types.specs.Values.{has_index, row_length, row_place, Path}
use Rattle.plant_types.specs.Words.{folded}
use Rattle.st_typing.specs.Scopes.{or_other}
use Rattle.std_blocks.specs.Calls.{Call}
use Rattle.logic_source.specs.declared.logic.Variable.{Variable}
use Rattle.logic_source.specs.declared.logic.Local.{Local}
use Rattle.logic_source.specs.declared.logic.Row.{Row}
use Rattle.logic_source.specs.declared.logic.Instance.{Instance}
use Rattle.logic_source.specs.declared.logic.BlockRef.{BlockRef}
use Rattle.logic_source.specs.declared.logic.BlockRef.TheVariants.{Ton, Tof, RTrig, Declared}
use Rattle.logic_source.specs.Source.{PlainRoutine, Source, row_cells, own_cells, global_cells}
use Rattle.logic_source.specs.Names.{global_words, own_words, row_words, find_word, bounds_named}
use Rattle.logic_source.specs.Blocks.{levels}
use Rattle.logic_source.specs.Worlds.{World, words_of, path_of, path_in, index_word, element_path, assign, with_call}
use Rattle.logic_source.specs.Layout.{ClockAt, block_values, instance_values, local_values, element_values, row_values, own_values, variable_values, values_rule, routine_values, block_clocks, instance_clocks, clocks_rule, routine_clocks, global_values, program_values, program_clocks, cell_paths, all_clocks, clock_paths, Stands, IsDistinctlyNamed}
use Rattle.logic_source.specs.Seats.{StandsFrom, value_count, clock_count, values_before, clocks_before, value_offset, program_values_before, program_clocks_before, program_values_base, program_clocks_base, own_or_global, value_number, row_number}
use Rattle.logic_source.proofs.Paths.{written}
use Rattle.logic_source.proofs.Layouts.{cells_once, clocks_once}
use Rattle.logic_source.proofs.Rows.{row_count, rows_count, within_row, counted_from, element_numbered}

-- two lists, one after the other, in a third
pub at_front : {A : Type 0} (xs ys : List A) (i : ℕ) (a : A) → slice_get xs i ≡ Some a → slice_get (xs ++ ys) i ≡ Some a
at_front [] ys i a at = absurd (cc)
at_front (x ∷ xs) ys zero a at = at
at_front (x ∷ xs) ys (suc i) a at = at_front xs ys i a at

at_back : {A : Type 0} (xs ys : List A) (n i : ℕ) → n ≡ length xs + i → slice_get (xs ++ ys) n ≡ slice_get ys i
at_back [] ys n i is = let same : n ≡ i = omega (arith, is) in ap (slice_get ys) same
at_back (x ∷ xs) ys zero i is = absurd (omega (arith, is))
at_back (x ∷ xs) ys (suc n) i is = at_back xs ys n i (omega (arith, is))

pub stands_left : {A : Type 0} (all : List A) (base : ℕ) (xs ys : List A) → StandsFrom all base (xs ++ ys) → StandsFrom all base xs
stands_left all base xs ys stands i a at = stands i a (at_front xs ys i a at)

pub stands_right : {A : Type 0} (all : List A) (base later : ℕ) (xs ys : List A) → later ≡ base + length xs → StandsFrom all base (xs ++ ys) → StandsFrom all later ys
stands_right all base later xs ys is stands i a at =
    let same : later + i ≡ base + (length xs + i) = omega (arith, is) in
    ap (slice_get all) same ∙ stands (length xs + i) a (at_back xs ys (length xs + i) i refl ∙ at)

pub stands_moved : {A : Type 0} (all : List A) (base other : ℕ) (xs : List A) → base ≡ other → StandsFrom all base xs → StandsFrom all other xs
stands_moved all base other xs is stands = subst (λ n. StandsFrom all n xs) is stands

stands_whole : {A : Type 0} (all : List A) → StandsFrom all 0 all
stands_whole all i a at = let same : 0 + i ≡ i = omega arith in ap (slice_get all) same ∙ at

-- how many there are doesn't depend on the path
locals_count : (ls : List Local) (p : Path) → length (local_values ls p) ≡ length ls
locals_count [] p = refl
locals_count (l ∷ ls) p = ap suc (locals_count ls p)

pub own_count : (r : PlainRoutine) (p : Path) → length (own_values r p) ≡ own_cells r
own_count r p =
    let sum = length-append (local_values r.locals p) (row_values r.rows p) in
    let first = locals_count r.locals p in
    let rest = rows_count r.rows p in
    omega (arith, sum, first, rest)

own_length : (r : PlainRoutine) (p q : Path) → length (own_values r p) ≡ length (own_values r q)
own_length r p q = own_count r p ∙ sym (own_count r q)

module _ {A : Type 0} (xs xs' ys ys' : List A) where
  lengths : length xs ≡ length xs' → length ys ≡ length ys' → length (xs ++ ys) ≡ length (xs' ++ ys')
  lengths first rest =
      let left = length-append xs ys in
      let right = length-append xs' ys' in
      omega (arith, first, rest, left, right)

module _ (inner : ℕ → Path → List Path) (same : (n : ℕ) (p q : Path) → length (inner n p) ≡ length (inner n q)) where
  pub block_length : (b : BlockRef) (p q : Path) → length (block_values inner b p) ≡ length (block_values inner b q)
  block_length Ton p q = refl
  block_length Tof p q = refl
  block_length RTrig p q = refl
  block_length (Declared n) p q = same n p q

  instances_length : (is : List Instance) (p q : Path) → length (instance_values inner is p) ≡ length (instance_values inner is q)
  instances_length [] p q = refl
  instances_length (i ∷ is) p q =
      lengths (block_values inner i.of (folded i.name ∷ p)) (block_values inner i.of (folded i.name ∷ q)) (instance_values inner is p) (instance_values inner is q) (block_length i.of (folded i.name ∷ p) (folded i.name ∷ q)) (instances_length is p q)

  pub values_length : (r : PlainRoutine) (p q : Path) → length (values_rule inner r p) ≡ length (values_rule inner r q)
  values_length r p q = lengths (own_values r p) (own_values r q) (instance_values inner r.instances p) (instance_values inner r.instances q) (own_length r p q) (instances_length r.instances p q)

  values_length_at : (o : Option PlainRoutine) (p q : Path) → length (option_map_or (values_rule inner) o (λ path. []) p) ≡ length (option_map_or (values_rule inner) o (λ path. []) q)
  values_length_at None p q = refl
  values_length_at (Some r) p q = values_length r p q

values_levels : (blocks : List PlainRoutine) (d n : ℕ) (p q : Path) → length (levels (λ path. []) values_rule blocks d n p) ≡ length (levels (λ path. []) values_rule blocks d n q)
values_levels blocks zero n p q = refl
values_levels blocks (suc d) n p q = values_length_at (levels (λ path. []) values_rule blocks d) (values_levels blocks d) (slice_get blocks n) p q

pub routine_length : (blocks : List PlainRoutine) (n : ℕ) (p q : Path) → length (routine_values blocks n p) ≡ length (routine_values blocks n q)
routine_length blocks n p q = values_levels blocks (length blocks) n p q

module _ (inner : ℕ → Path → List ClockAt) (same : (n : ℕ) (p q : Path) → length (inner n p) ≡ length (inner n q)) where
  pub block_clocks_length : (b : BlockRef) (p q : Path) → length (block_clocks inner b p) ≡ length (block_clocks inner b q)
  block_clocks_length Ton p q = refl
  block_clocks_length Tof p q = refl
  block_clocks_length RTrig p q = refl
  block_clocks_length (Declared n) p q = same n p q

  pub clocks_length : (is : List Instance) (p q : Path) → length (instance_clocks inner is p) ≡ length (instance_clocks inner is q)
  clocks_length [] p q = refl
  clocks_length (i ∷ is) p q =
      lengths (block_clocks inner i.of (folded i.name ∷ p)) (block_clocks inner i.of (folded i.name ∷ q)) (instance_clocks inner is p) (instance_clocks inner is q) (block_clocks_length i.of (folded i.name ∷ p) (folded i.name ∷ q)) (clocks_length is p q)

  clocks_length_at : (o : Option PlainRoutine) (p q : Path) → length (option_map_or (clocks_rule inner) o (λ path. []) p) ≡ length (option_map_or (clocks_rule inner) o (λ path. []) q)
  clocks_length_at None p q = refl
  clocks_length_at (Some r) p q = clocks_length r.instances p q

clocks_levels : (blocks : List PlainRoutine) (d n : ℕ) (p q : Path) → length (levels (λ path. []) clocks_rule blocks d n p) ≡ length (levels (λ path. []) clocks_rule blocks d n q)
clocks_levels blocks zero n p q = refl
clocks_levels blocks (suc d) n p q = clocks_length_at (levels (λ path. []) clocks_rule blocks d) (clocks_levels blocks d) (slice_get blocks n) p q

pub routine_clocks_length : (blocks : List PlainRoutine) (n : ℕ) (p q : Path) → length (routine_clocks blocks n p) ≡ length (routine_clocks blocks n q)
routine_clocks_length blocks n p q = clocks_levels blocks (length blocks) n p q

-- an instance's values stand in its routine's
module _ (blocks : List PlainRoutine) (all : List Path) where
  abbrev of_block : BlockRef → Path → List Path
  of_block b path = block_values (routine_values blocks) b path

  abbrev of_instances : List Instance → Path → List Path
  of_instances is path = instance_values (routine_values blocks) is path

  among_instances : (is : List Instance) (path : Path) (base k : ℕ) (i : Instance) → StandsFrom all base (of_instances is path) → slice_get is k ≡ Some i → StandsFrom all (base + values_before blocks is k) (of_block i.of (folded i.name ∷ path))
  among_instances [] path base k i stands at = absurd (cc)
  among_instances (j ∷ is) path base zero i stands at =
      let same : j ≡ i = cc in
      subst (λ (x : Instance). StandsFrom all (base + 0) (of_block x.of (folded x.name ∷ path))) same
      (stands_moved all base (base + 0) (of_block j.of (folded j.name ∷ path)) (omega arith) (stands_left all base (of_block j.of (folded j.name ∷ path)) (of_instances is path) stands))
  among_instances (j ∷ is) path base (suc k) i stands at =
      let many = block_length (routine_values blocks) (routine_length blocks) j.of (folded j.name ∷ path) [] in
      let later = base + value_count blocks j.of in
      let rest = stands_right all base later (of_block j.of (folded j.name ∷ path)) (of_instances is path) (omega (arith, many)) stands in
      stands_moved all (later + values_before blocks is k) (base + (value_count blocks j.of + values_before blocks is k)) (of_block i.of (folded i.name ∷ path)) (omega arith) (among_instances is path later k i rest at)

  pub instance_stands : (r : PlainRoutine) (path : Path) (base k : ℕ) (i : Instance) → StandsFrom all base (values_rule (routine_values blocks) r path) → slice_get r.instances k ≡ Some i
      → StandsFrom all (base + value_offset blocks r k) (of_block i.of (folded i.name ∷ path))
  instance_stands r path base k i stands at =
      let many = own_count r path in
      let later = base + own_cells r in
      let rest = stands_right all base later (own_values r path) (of_instances r.instances path) (omega (arith, many)) stands in
      stands_moved all (later + values_before blocks r.instances k) (base + (own_cells r + values_before blocks r.instances k)) (of_block i.of (folded i.name ∷ path)) (omega arith) (among_instances r.instances path later k i rest at)

  among_programs : (ps : List PlainRoutine) (base k : ℕ) (p : PlainRoutine) → StandsFrom all base (program_values blocks ps) → slice_get ps k ≡ Some p → StandsFrom all (base + program_values_before blocks ps k) (values_rule (routine_values blocks) p (folded p.name ∷ []))
  among_programs [] base k p stands at = absurd (cc)
  among_programs (q ∷ ps) base zero p stands at =
      let same : q ≡ p = cc in
      subst (λ (x : PlainRoutine). StandsFrom all (base + 0) (values_rule (routine_values blocks) x (folded x.name ∷ []))) same
      (stands_moved all base (base + 0) (values_rule (routine_values blocks) q (folded q.name ∷ [])) (omega arith) (stands_left all base (values_rule (routine_values blocks) q (folded q.name ∷ [])) (program_values blocks ps) stands))
  among_programs (q ∷ ps) base (suc k) p stands at =
      let many = values_length (routine_values blocks) (routine_length blocks) q (folded q.name ∷ []) [] in
      let count = length (values_rule (routine_values blocks) q []) in
      let later = base + count in
      let rest = stands_right all base later (values_rule (routine_values blocks) q (folded q.name ∷ [])) (program_values blocks ps) (omega (arith, many)) stands in
      stands_moved all (later + program_values_before blocks ps k) (base + (count + program_values_before blocks ps k)) (values_rule (routine_values blocks) p (folded p.name ∷ [])) (omega arith) (among_programs ps later k p rest at)

variables_count : (globals : List Variable) → length (variable_values globals) ≡ length globals
variables_count globals = length-map (global_words globals) (λ word. word ∷ []) ∙ length-map globals (λ (global : Variable). folded global.name)

pub global_count : (source : Source) → length (global_values source) ≡ global_cells source
global_count source =
    let sum = length-append (variable_values source.globals) (row_values source.rows []) in
    let first = variables_count source.globals in
    let rest = rows_count source.rows [] in
    omega (arith, sum, first, rest)

-- a program's values stand in those of the source
pub program_stands : (source : Source) (k : ℕ) (p : PlainRoutine) → slice_get source.programs k ≡ Some p → StandsFrom (cell_paths source) (program_values_base source k) (values_rule (routine_values source.blocks) p (folded p.name ∷ []))
program_stands source k p at =
    let many = global_count source in
    let rest = stands_right (cell_paths source) 0 (global_cells source) (global_values source) (program_values source.blocks source.programs) (omega (arith, many)) (stands_whole (cell_paths source)) in
    among_programs source.blocks (cell_paths source) source.programs (global_cells source) k p rest at

-- the same of standard blocks
module _ (blocks : List PlainRoutine) (all : List ClockAt) where
  abbrev clocks_of_block : BlockRef → Path → List ClockAt
  clocks_of_block b path = block_clocks (routine_clocks blocks) b path

  abbrev clocks_of : List Instance → Path → List ClockAt
  clocks_of is path = instance_clocks (routine_clocks blocks) is path

  pub instance_clocks_stand : (is : List Instance) (path : Path) (base k : ℕ) (i : Instance) → StandsFrom all base (clocks_of is path) → slice_get is k ≡ Some i → StandsFrom all (base + clocks_before blocks is k) (clocks_of_block i.of (folded i.name ∷ path))
  instance_clocks_stand [] path base k i stands at = absurd (cc)
  instance_clocks_stand (j ∷ is) path base zero i stands at =
      let same : j ≡ i = cc in
      subst (λ (x : Instance). StandsFrom all (base + 0) (clocks_of_block x.of (folded x.name ∷ path))) same
      (stands_moved all base (base + 0) (clocks_of_block j.of (folded j.name ∷ path)) (omega arith) (stands_left all base (clocks_of_block j.of (folded j.name ∷ path)) (clocks_of is path) stands))
  instance_clocks_stand (j ∷ is) path base (suc k) i stands at =
      let many = block_clocks_length (routine_clocks blocks) (routine_clocks_length blocks) j.of (folded j.name ∷ path) [] in
      let later = base + clock_count blocks j.of in
      let rest = stands_right all base later (clocks_of_block j.of (folded j.name ∷ path)) (clocks_of is path) (omega (arith, many)) stands in
      stands_moved all (later + clocks_before blocks is k) (base + (clock_count blocks j.of + clocks_before blocks is k)) (clocks_of_block i.of (folded i.name ∷ path)) (omega arith) (instance_clocks_stand is path later k i rest at)

  program_clocks_among : (ps : List PlainRoutine) (base k : ℕ) (p : PlainRoutine) → StandsFrom all base (program_clocks blocks ps) → slice_get ps k ≡ Some p → StandsFrom all (base + program_clocks_before blocks ps k) (clocks_rule (routine_clocks blocks) p (folded p.name ∷ []))
  program_clocks_among [] base k p stands at = absurd (cc)
  program_clocks_among (q ∷ ps) base zero p stands at =
      let same : q ≡ p = cc in
      subst (λ (x : PlainRoutine). StandsFrom all (base + 0) (clocks_rule (routine_clocks blocks) x (folded x.name ∷ []))) same
      (stands_moved all base (base + 0) (clocks_rule (routine_clocks blocks) q (folded q.name ∷ [])) (omega arith) (stands_left all base (clocks_rule (routine_clocks blocks) q (folded q.name ∷ [])) (program_clocks blocks ps) stands))
  program_clocks_among (q ∷ ps) base (suc k) p stands at =
      let many = clocks_length (routine_clocks blocks) (routine_clocks_length blocks) q.instances (folded q.name ∷ []) [] in
      let count = length (clocks_rule (routine_clocks blocks) q []) in
      let later = base + count in
      let rest = stands_right all base later (clocks_rule (routine_clocks blocks) q (folded q.name ∷ [])) (program_clocks blocks ps) (omega (arith, many)) stands in
      stands_moved all (later + program_clocks_before blocks ps k) (base + (count + program_clocks_before blocks ps k)) (clocks_rule (routine_clocks blocks) p (folded p.name ∷ [])) (omega arith) (program_clocks_among ps later k p rest at)

pub program_clocks_stand : (source : Source) (k : ℕ) (p : PlainRoutine) → slice_get source.programs k ≡ Some p → StandsFrom (all_clocks source) (program_clocks_base source k) (clocks_rule (routine_clocks source.blocks) p (folded p.name ∷ []))
program_clocks_stand source k p at =
    stands_moved (all_clocks source) (0 + program_clocks_before source.blocks source.programs k) (program_clocks_base source k) (clocks_rule (routine_clocks source.blocks) p (folded p.name ∷ [])) (omega arith)
    (program_clocks_among source.blocks (all_clocks source) source.programs 0 k p (stands_whole (all_clocks source)) at)

-- what is found by name
pub word_at : (words : List (List ℕ)) (name : List ℕ) (i : ℕ) → find_word words name ≡ Some i → slice_get words i ≡ Some (folded name)
word_at words name i is =
    let found = position-Some (bytes_eq (folded name)) words i (folded name) is in
    slice_get-get_or words i (folded name) found.0 ∙ ap Some (sym ((bytes_decides (folded name) (get_or words i (folded name))).0 found.1))

own_words_are : (ls : List Local) (path : Path) → local_values ls path ≡ map (λ word. word ∷ path) (own_words ls)
own_words_are [] path = refl
own_words_are (l ∷ ls) path = ap (λ ps. (folded l.name ∷ path) ∷ ps) (own_words_are ls path)

path_at : (words : List (List ℕ)) (path : Path) (name : List ℕ) (i : ℕ) → find_word words name ≡ Some i → slice_get (map (λ word. word ∷ path) words) i ≡ Some (folded name ∷ path)
path_at words path name i is = slice_get-map (λ word. word ∷ path) words i ∙ ap (option_map (λ word. word ∷ path)) (word_at words name i is)

-- the value of a routine's own variable of a name
pub own_at : (ls : List Local) (path : Path) (name : List ℕ) (i : ℕ) → find_word (own_words ls) name ≡ Some i → slice_get (local_values ls path) i ≡ Some (folded name ∷ path)
own_at ls path name i is = ap (λ ps. slice_get ps i) (own_words_are ls path) ∙ path_at (own_words ls) path name i is

-- a variable's value among those of its routine, and a global variable's among all
pub variable_among : (blocks : List PlainRoutine) (r : PlainRoutine) (path : Path) (i : ℕ) (p : Path) → slice_get (local_values r.locals path) i ≡ Some p → slice_get (values_rule (routine_values blocks) r path) i ≡ Some p
variable_among blocks r path i p at = at_front (own_values r path) (instance_values (routine_values blocks) r.instances path) i p (at_front (local_values r.locals path) (row_values r.rows path) i p at)

global_among : (source : Source) (i : ℕ) (p : Path) → slice_get (variable_values source.globals) i ≡ Some p → slice_get (cell_paths source) i ≡ Some p
global_among source i p at = at_front (global_values source) (program_values source.blocks source.programs) i p (at_front (variable_values source.globals) (row_values source.rows []) i p at)

module _ (source : Source) (r : PlainRoutine) (path : Path) (base : ℕ) (name : List ℕ) (n : ℕ) (stands : StandsFrom (cell_paths source) base (values_rule (routine_values source.blocks) r (words_of path))) where
  value_at_number : (o : Option ℕ) → find_word (own_words r.locals) name ≡ o → own_or_global base o (find_word (global_words source.globals) name) ≡ Some n → slice_get (cell_paths source) n ≡ Some (if is_some o then folded name ∷ words_of path else path_of name)
  value_at_number (Some i) is numbered =
      let same : base + i ≡ n = cc in
      ap (slice_get (cell_paths source)) (sym same)
      ∙ stands i (folded name ∷ words_of path) (variable_among source.blocks r (words_of path) i (folded name ∷ words_of path) (own_at r.locals (words_of path) name i is))
  value_at_number None is numbered =
      global_among source n (path_of name) (path_at (global_words source.globals) [] name n numbered)

  -- the value of a name has the name's path
  pub named_value_stands : value_number source.globals r base name ≡ Some n → slice_get (cell_paths source) n ≡ Some (path_in r path name)
  named_value_stands numbered = value_at_number (find_word (own_words r.locals) name) refl numbered

pub mapped_at : {A B : Type 0} (f : A → B) (o : Option A) (b : B) → option_map f o ≡ Some b → (a : A) × (o ≡ Some a) × (f a ≡ b)
mapped_at f None b is = absurd (cc)
mapped_at f (Some a) b is = (a, refl, cc)

-- ---- elements of arrays
-- the array of a number is the one that the name finds
pub row_of_number : (rows : List Row) (name : List ℕ) (k : ℕ) → find_word (row_words rows) name ≡ Some k → (row : Row) × (slice_get rows k ≡ Some row) × (folded row.name ≡ folded name)
row_of_number rows name k found =
    let word = λ (row : Row). folded row.name in
    mapped_at word (slice_get rows k) (folded name) (sym (slice_get-map word rows k) ∙ word_at (row_words rows) name k found)

-- where an element stands among those of arrays, by its number in its array
row_numbered : (rows : List Row) (path : Path) (k : ℕ) (row : Row) (j : ℕ) → slice_get rows k ≡ Some row → j < row_length row.bounds
    → slice_get (row_values rows path) (row_cells (take k rows) + j) ≡ Some (index_word (row.bounds.low +ℤ pos j) ∷ folded row.name ∷ path)
row_numbered [] path k row j at within = absurd (cc)
row_numbered (r ∷ rows) path zero row j at within =
    let same : r ≡ row = cc in
    let element = index_word (row.bounds.low +ℤ pos j) ∷ folded row.name ∷ path in
    let here = at_front (element_values row.bounds (folded row.name ∷ path)) (row_values rows path) j element (element_numbered row.bounds j (folded row.name ∷ path) within) in
    let first : 0 + j ≡ j = omega arith in
    ap (λ (x : Row). slice_get (row_values (x ∷ rows) path) (0 + j)) same ∙ ap (slice_get (row_values (row ∷ rows) path)) first ∙ here
row_numbered (r ∷ rows) path (suc k) row j at within =
    let here = element_values r.bounds (folded r.name ∷ path) in
    let many = row_count r.bounds (folded r.name ∷ path) in
    let sum = sum_by-cons (λ (row : Row). row_length row.bounds) r (take k rows) in
    at_back here (row_values rows path) (row_cells (r ∷ take k rows) + j) (row_cells (take k rows) + j) (omega (arith, many, sum)) ∙ row_numbered rows path k row j at within

-- an array ends where all end, or before
pub row_ends : (rows : List Row) (k : ℕ) (row : Row) → slice_get rows k ≡ Some row → row_cells (take k rows) + row_length row.bounds ≤ row_cells rows
row_ends [] k row at = absurd (cc)
row_ends (r ∷ rows) zero row at =
    let same : r ≡ row = cc in
    let long : row_length r.bounds ≡ row_length row.bounds = ap (λ (x : Row). row_length x.bounds) same in
    let sum = sum_by-cons (λ (row : Row). row_length row.bounds) r rows in
    omega (arith, long, sum)
row_ends (r ∷ rows) (suc k) row at =
    let rest = row_ends rows k row at in
    let sum = sum_by-cons (λ (row : Row). row_length row.bounds) r rows in
    let less = sum_by-cons (λ (row : Row). row_length row.bounds) r (take k rows) in
    omega (arith, rest, sum, less)

-- the same among the values of a routine
pub own_row_numbered : (blocks : List PlainRoutine) (r : PlainRoutine) (path : Path) (k : ℕ) (row : Row) (j : ℕ) → slice_get r.rows k ≡ Some row → j < row_length row.bounds
    → slice_get (values_rule (routine_values blocks) r path) (length r.locals + (row_cells (take k r.rows) + j)) ≡ Some (index_word (row.bounds.low +ℤ pos j) ∷ folded row.name ∷ path)
own_row_numbered blocks r path k row j at within =
    let m = row_cells (take k r.rows) + j in
    let p = index_word (row.bounds.low +ℤ pos j) ∷ folded row.name ∷ path in
    let many = locals_count r.locals path in
    at_front (own_values r path) (instance_values (routine_values blocks) r.instances path) (length r.locals + m) p
    (at_back (local_values r.locals path) (row_values r.rows path) (length r.locals + m) m (omega (arith, many)) ∙ row_numbered r.rows path k row j at within)

module _ (source : Source) (r : PlainRoutine) (path : Path) (base : ℕ) (name : List ℕ) (i : ℤ) (stands : StandsFrom (cell_paths source) base (values_rule (routine_values source.blocks) r (words_of path))) where
  own_element : (k : ℕ) (row : Row) → slice_get r.rows k ≡ Some row → folded row.name ≡ folded name → has_index row.bounds i ≡ true
      → slice_get (cell_paths source) (row_place (base + length r.locals + row_cells (take k r.rows)) row.bounds i) ≡ Some (index_word i ∷ folded name ∷ words_of path)
  own_element k row at word within =
      let j = nat_abs (i -ℤ row.bounds.low) in
      let m = length r.locals + (row_cells (take k r.rows) + j) in
      let p = index_word (row.bounds.low +ℤ pos j) ∷ folded row.name ∷ words_of path in
      let same : row_place (base + length r.locals + row_cells (take k r.rows)) row.bounds i ≡ base + m = omega arith in
      ap (slice_get (cell_paths source)) same ∙ stands m p (own_row_numbered source.blocks r (words_of path) k row j at (within_row row.bounds i within))
      ∙ (λ x. Some (index_word (counted_from row.bounds i within x) ∷ word x ∷ words_of path))

  global_element : (k : ℕ) (row : Row) → slice_get source.rows k ≡ Some row → folded row.name ≡ folded name → has_index row.bounds i ≡ true
      → slice_get (cell_paths source) (row_place (length source.globals + row_cells (take k source.rows)) row.bounds i) ≡ Some (index_word i ∷ path_of name)
  global_element k row at word within =
      let j = nat_abs (i -ℤ row.bounds.low) in
      let m = row_cells (take k source.rows) + j in
      let p = index_word (row.bounds.low +ℤ pos j) ∷ folded row.name ∷ [] in
      let many = variables_count source.globals in
      let among = at_back (variable_values source.globals) (row_values source.rows []) (length source.globals + m) m (omega (arith, many)) ∙ row_numbered source.rows [] k row j at (within_row row.bounds i within) in
      let whole = at_front (global_values source) (program_values source.blocks source.programs) (length source.globals + m) p among in
      let same : row_place (length source.globals + row_cells (take k source.rows)) row.bounds i ≡ length source.globals + m = omega arith in
      ap (slice_get (cell_paths source)) same ∙ whole ∙ (λ x. Some (index_word (counted_from row.bounds i within x) ∷ word x ∷ []))

  abbrev bounds_by : Option Row → Bounds
  bounds_by row = option_map_or (λ (row : Row). row.bounds) row (record { low = pos 0; high = pos 0 })

  element_by : (o q : Option ℕ) → find_word (row_words r.rows) name ≡ o → find_word (row_words source.rows) name ≡ q → (n : ℕ)
      → own_or_global (base + length r.locals) (option_map (λ k. row_cells (take k r.rows)) o) (option_map (λ n. length source.globals + n) (option_map (λ k. row_cells (take k source.rows)) q)) ≡ Some n
      → (bounds : Bounds) → bounds_by (or_other (option_and_then (slice_get r.rows) o) (option_and_then (slice_get source.rows) q)) ≡ bounds → has_index bounds i ≡ true
      → slice_get (cell_paths source) (row_place n bounds i) ≡ Some (index_word i ∷ (if is_some o then folded name ∷ words_of path else path_of name))
  element_by (Some k) q own global n numbered bounds are within =
      let row = row_of_number r.rows name k own in
      let same : row.0.bounds ≡ bounds = ap (λ o. bounds_by (or_other o (option_and_then (slice_get source.rows) q))) (sym row.1) ∙ are in
      let number : base + length r.locals + row_cells (take k r.rows) ≡ n = cc in
      (λ j. slice_get (cell_paths source) (row_place (sym number j) (sym same j) i)) ∙ own_element k row.0 row.1 row.2 (ap (λ b. has_index b i) same ∙ within)
  element_by None (Some k) own global n numbered bounds are within =
      let row = row_of_number source.rows name k global in
      let same : row.0.bounds ≡ bounds = ap bounds_by (sym row.1) ∙ are in
      let number : length source.globals + row_cells (take k source.rows) ≡ n = cc in
      (λ j. slice_get (cell_paths source) (row_place (sym number j) (sym same j) i)) ∙ global_element k row.0 row.1 row.2 (ap (λ b. has_index b i) same ∙ within)
  element_by None None own global n numbered bounds are within = absurd (cc)

  -- the value of an element's number has the element's path
  pub element_stands : (n : ℕ) → row_number source r base name ≡ Some n → has_index (bounds_named source r name) i ≡ true → slice_get (cell_paths source) (row_place n (bounds_named source r name) i) ≡ Some (element_path r path name i)
  element_stands n numbered within = element_by (find_word (row_words r.rows) name) (find_word (row_words source.rows) name) refl refl n numbered (bounds_named source r name) refl within

-- what stands for a world, by number
module _ (source : Source) (values : List ℤ) (calls : List (List Call)) (w : World) (stands : Stands source values calls w) (n : ℕ) (p : Path) where
  pub value_read : slice_get (cell_paths source) n ≡ Some p → slice_get values n ≡ Some (w.values p)
  value_read at = ap (λ l. slice_get l n) stands.values_are ∙ slice_get-map w.values (cell_paths source) n ∙ ap (option_map w.values) at

  pub value_written : IsDistinctlyNamed source → (x : ℤ) → slice_get (cell_paths source) n ≡ Some p → Stands source (slice_set values n x) calls (assign w p x)
  value_written named x at =
      let paths = cell_paths source in
      record {
        values_are = ap (λ l. set l n x) stands.values_are ∙ sym (written p w.values (λ q. x) paths n (cells_once source named) (slice_get_within paths n p at) (get_or_from_slice_get paths n p p at));
        calls_are = stands.calls_are;
      }

  pub calls_read : slice_get (clock_paths source) n ≡ Some p → slice_get calls n ≡ Some (w.calls p)
  calls_read at = ap (λ l. slice_get l n) stands.calls_are ∙ slice_get-map w.calls (clock_paths source) n ∙ ap (option_map w.calls) at

  pub call_taken : IsDistinctlyNamed source → (c : Call) → slice_get (clock_paths source) n ≡ Some p → Stands source values (slice_set calls n (c ∷ w.calls p)) (with_call w p c)
  call_taken named c at =
      let paths = clock_paths source in
      record {
        values_are = stands.values_are;
        calls_are = ap (λ l. set l n (c ∷ w.calls p)) stands.calls_are ∙ sym (written p w.calls (λ q. c ∷ w.calls q) paths n (clocks_once source named) (slice_get_within paths n p at) (get_or_from_slice_get paths n p p at));
      }
