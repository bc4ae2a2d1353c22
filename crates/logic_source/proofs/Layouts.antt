-- In a source whose declared names are distinct no path stands twice.
use Rattle.std.proofs.Common.{◌≡◌, sym, subst, refl, ℕ, zero, suc, false, List, [], ◌∷◌, ◌++◌, map, length, Option, Some, None, slice_get}
use Rattle.std.specs.List.{All}
use Rattle.std.specs.Option.{option_map_or}
use Rattle.std.specs.Str.{bytes_eq}
use Rattle.std.proofs.lemmas.Bool.{or_parts, or_from}
use Rattle.std.proofs.lemmas.List.{map-append}
use Rattle.std.proofs.lemmas.List.Elements.{All-head, All-tail}
use Rattle.plant_types.specs.Words.{folded}
use Rattle.st_typing.specs.Taken.{is_among, repeats}
use Rattle.logic_source.specs.declared.logic.Local.{Local}
use Rattle.logic_source.specs.declared.logic.Variable.{Variable}
use Rattle.logic_source.specs.declared.logic.Row.{Row}
use Rattle.logic_source.specs.declared.logic.Instance.{Instance}
use Rattle.logic_source.specs.declared.logic.BlockRef.{BlockRef}
use Rattle.logic_source.specs.declared.logic.BlockRef.TheVariants.{Ton, Tof, RTrig, Declared}
use Rattle.logic_source.specs.Source.{PlainRoutine, Source}
use Rattle.logic_source.specs.Names.{global_words, own_words, row_words, instance_words}
use Rattle.logic_source.specs.Blocks.{levels}
use Rattle.plant_types.specs.Values.{Path}
use Rattle.logic_source.specs.Worlds.{in_word, pt_word, clk_word}
use Rattle.logic_source.specs.Layout.{ClockAt, block_values, instance_values, local_values, element_values, row_values, variable_values, values_rule, routine_values, block_clocks, instance_clocks, clocks_rule, routine_clocks, program_values, program_clocks, cell_paths, clock_paths, Absent, NoneTwice, AreNamedApart, IsDistinctlyNamed}
use Rattle.logic_source.proofs.Paths.{Disjoint, absent_append, once_append, Under, AllUnder, self_under, apart_labels, label_under, absent_under, under_all, all_more, AllInside, inside_under, under_inside, inside_all, absent_alone}
use Rattle.logic_source.proofs.Rows.{row_under, lacks_parts, disjoint_append, rows_absent, rows_once, rows_inside, rows_alone}

-- the element of a number is one of those that a property holds of
pub all_at : {A : Type 0} (P : A → Type 0) (xs : List A) (n : ℕ) (x : A) → All P xs → slice_get xs n ≡ Some x → P x
all_at P [] n x all is = absurd (cc)
all_at P (y ∷ ys) zero x all is = let same : y ≡ x = cc in subst P same (All-head P y ys all)
all_at P (y ∷ ys) (suc n) x all is = all_at P ys n x (All-tail P y ys all) is

-- no path stands twice, and all go on below one
abbrev pub Fine : Path → List Path → Type 0
Fine path ps = NoneTwice ps × AllInside path ps

-- a word is none of two lists of words together
instances_words : (i : Instance) (is : List Instance) → repeats (instance_words (i ∷ is)) ≡ false → (is_among (instance_words is) (folded i.name) ≡ false) × (repeats (instance_words is) ≡ false)
instances_words i is e = or_parts (is_among (instance_words is) (folded i.name)) (repeats (instance_words is)) e

-- names after a list of others are apart where all are
pub later_apart : (xs ys : List (List ℕ)) → repeats (xs ++ ys) ≡ false → repeats ys ≡ false
later_apart [] ys apart = apart
later_apart (x ∷ xs) ys apart = later_apart xs ys (or_parts (is_among (xs ++ ys) x) (repeats (xs ++ ys)) apart).1

-- and so are those before it
front_apart : (xs ys : List (List ℕ)) → repeats (xs ++ ys) ≡ false → repeats xs ≡ false
front_apart [] ys apart = refl
front_apart (x ∷ xs) ys apart =
    let parts = or_parts (is_among (xs ++ ys) x) (repeats (xs ++ ys)) apart in
    or_from (is_among xs x) (repeats xs) (lacks_parts x xs ys parts.0).0 (front_apart xs ys parts.1)

module _ (inner : ℕ → Path → List Path) (fine : (n : ℕ) (path : Path) → Fine path (inner n path)) where
  timer_fine : (path : Path) → Fine path ((in_word ∷ path) ∷ (pt_word ∷ path) ∷ [])
  timer_fine path =
      ((absent_under path (in_word ∷ path) in_word pt_word ((pt_word ∷ path) ∷ []) (self_under (in_word ∷ path)) (self_under (pt_word ∷ path), tt) refl, (tt, tt)), ((in_word, [], refl), ((pt_word, [], refl), tt)))

  block_fine : (b : BlockRef) (path : Path) → Fine path (block_values inner b path)
  block_fine Ton path = timer_fine path
  block_fine Tof path = timer_fine path
  block_fine RTrig path = ((tt, tt), ((clk_word, [], refl), tt))
  block_fine (Declared n) path = fine n path

  instances_absent : (a : List ℕ) (q : Path) (is : List Instance) (path : Path) → Under (a ∷ path) q → is_among (instance_words is) a ≡ false → Absent q (instance_values inner is path)
  instances_absent a q [] path u none = tt
  instances_absent a q (i ∷ is) path u none =
      let parts = or_parts (bytes_eq a (folded i.name)) (is_among (instance_words is) a) none in
      let here = block_values inner i.of (folded i.name ∷ path) in
      absent_append q here (instance_values inner is path)
      (absent_under path q a (folded i.name) here u (inside_under (folded i.name ∷ path) here (block_fine i.of (folded i.name ∷ path)).1) parts.0)
      (instances_absent a q is path u parts.1)

  instances_disjoint : (a : List ℕ) (qs : List Path) (is : List Instance) (path : Path) → AllUnder (a ∷ path) qs → is_among (instance_words is) a ≡ false → Disjoint qs (instance_values inner is path)
  instances_disjoint a [] is path all none = tt
  instances_disjoint a (q ∷ qs) is path all none = (instances_absent a q is path all.0 none, instances_disjoint a qs is path all.1 none)

  instances_fine : (is : List Instance) (path : Path) → repeats (instance_words is) ≡ false → Fine path (instance_values inner is path)
  instances_fine [] path apart = (tt, tt)
  instances_fine (i ∷ is) path apart =
      let parts = instances_words i is apart in
      let word = folded i.name in
      let first = block_fine i.of (word ∷ path) in
      let rest = instances_fine is path parts.1 in
      let xs = block_values inner i.of (word ∷ path) in
      let ys = instance_values inner is path in
      let under = inside_under (word ∷ path) xs first.1 in
      (once_append xs ys first.0 rest.0 (instances_disjoint word xs is path under parts.0), inside_all path xs ys (under_inside word path xs under) rest.1)

  -- an own variable is no element of an own array, and neither is a value of an instance
  locals_absent : (w : List ℕ) (q : Path) (ls : List Local) (path : Path) → Under (w ∷ path) q → is_among (own_words ls) w ≡ false → Absent q (local_values ls path)
  locals_absent w q [] path u none = tt
  locals_absent w q (l ∷ ls) path u none =
      let parts = or_parts (bytes_eq w (folded l.name)) (is_among (own_words ls) w) none in
      (apart_labels (length path) q (folded l.name ∷ path) w (folded l.name) (label_under w path q u) (label_under (folded l.name) path (folded l.name ∷ path) (self_under (folded l.name ∷ path))) parts.0, locals_absent w q ls path u parts.1)

  locals_once : (ls : List Local) (path : Path) → repeats (own_words ls) ≡ false → NoneTwice (local_values ls path)
  locals_once [] path apart = tt
  locals_once (l ∷ ls) path apart =
      let parts = or_parts (is_among (own_words ls) (folded l.name)) (repeats (own_words ls)) apart in
      (locals_absent (folded l.name) (folded l.name ∷ path) ls path (self_under (folded l.name ∷ path)) parts.0, locals_once ls path parts.1)

  locals_inside : (ls : List Local) (path : Path) → AllInside path (local_values ls path)
  locals_inside [] path = tt
  locals_inside (l ∷ ls) path = ((folded l.name, [], refl), locals_inside ls path)

  locals_apart : (ls : List Local) (rows : List Row) (is : List Instance) (path : Path) → repeats (own_words ls ++ (row_words rows ++ instance_words is)) ≡ false
      → Disjoint (local_values ls path) (row_values rows path) × Disjoint (local_values ls path) (instance_values inner is path)
  locals_apart [] rows is path apart = (tt, tt)
  locals_apart (l ∷ ls) rows is path apart =
      let word = folded l.name in
      let behind = row_words rows ++ instance_words is in
      let parts = or_parts (is_among (own_words ls ++ behind) word) (repeats (own_words ls ++ behind)) apart in
      let none = lacks_parts word (row_words rows) (instance_words is) (lacks_parts word (own_words ls) behind parts.0).1 in
      let rest = locals_apart ls rows is path parts.1 in (
        (rows_absent word (word ∷ path) rows path (self_under (word ∷ path)) none.0, rest.0),
        (instances_absent word (word ∷ path) is path (self_under (word ∷ path)) none.1, rest.1),
      )

  rows_apart : (rows : List Row) (is : List Instance) (path : Path) → repeats (row_words rows ++ instance_words is) ≡ false → Disjoint (row_values rows path) (instance_values inner is path)
  rows_apart [] is path apart = tt
  rows_apart (row ∷ rows) is path apart =
      let word = folded row.name in
      let here = element_values row.bounds (word ∷ path) in
      let parts = or_parts (is_among (row_words rows ++ instance_words is) word) (repeats (row_words rows ++ instance_words is)) apart in
      disjoint_append here (row_values rows path) (instance_values inner is path)
      (instances_disjoint word here is path (row_under row.bounds (word ∷ path)) (lacks_parts word (row_words rows) (instance_words is) parts.0).1) (rows_apart rows is path parts.1)

  pub values_fine : (r : PlainRoutine) (path : Path) → AreNamedApart r → Fine path (values_rule inner r path)
  values_fine r path apart =
      let ls = local_values r.locals path in
      let rows = row_values r.rows path in
      let held = instance_values inner r.instances path in
      let behind = row_words r.rows ++ instance_words r.instances in
      let behind_apart = later_apart (own_words r.locals) behind apart in
      let first = locals_apart r.locals r.rows r.instances path apart in
      let last = instances_fine r.instances path (later_apart (row_words r.rows) (instance_words r.instances) behind_apart) in
      let mine = once_append ls rows (locals_once r.locals path (front_apart (own_words r.locals) behind apart)) (rows_once r.rows path (front_apart (row_words r.rows) (instance_words r.instances) behind_apart)) first.0 in (
        once_append (ls ++ rows) held mine last.0 (disjoint_append ls rows held first.1 (rows_apart r.rows r.instances path behind_apart)),
        inside_all path (ls ++ rows) held (inside_all path ls rows (locals_inside r.locals path) (rows_inside r.rows path)) last.1,
      )

values_at : (inner : ℕ → Path → List Path) → ((n : ℕ) (path : Path) → Fine path (inner n path)) → (blocks : List PlainRoutine) → All AreNamedApart blocks → (n : ℕ) (path : Path) (o : Option PlainRoutine) → slice_get blocks n ≡ o → Fine path (option_map_or (values_rule inner) o (λ path. []) path)
values_at inner fine blocks all n path None is = (tt, tt)
values_at inner fine blocks all n path (Some r) is = values_fine inner fine r path (all_at AreNamedApart blocks n r all is)

levels_fine : (blocks : List PlainRoutine) → All AreNamedApart blocks → (d n : ℕ) (path : Path) → Fine path (levels (λ path. []) values_rule blocks d n path)
levels_fine blocks all zero n path = (tt, tt)
levels_fine blocks all (suc d) n path = values_at (levels (λ path. []) values_rule blocks d) (levels_fine blocks all d) blocks all n path (slice_get blocks n) refl

-- the values of a block type
pub routine_fine : (blocks : List PlainRoutine) → All AreNamedApart blocks → (n : ℕ) (path : Path) → Fine path (routine_values blocks n path)
routine_fine blocks all n path = levels_fine blocks all (length blocks) n path

abbrev program_word : PlainRoutine → List ℕ
program_word p = folded p.name

module _ (blocks : List PlainRoutine) (all : All AreNamedApart blocks) where
  abbrev of_program : PlainRoutine → List Path
  of_program p = values_rule (routine_values blocks) p (folded p.name ∷ [])

  program_fine : (p : PlainRoutine) → AreNamedApart p → Fine (folded p.name ∷ []) (of_program p)
  program_fine p apart = values_fine (routine_values blocks) (routine_fine blocks all) p (folded p.name ∷ []) apart

  programs_absent : (a : List ℕ) (q : Path) (ps : List PlainRoutine) → All AreNamedApart ps → Under (a ∷ []) q → is_among (map program_word ps) a ≡ false → Absent q (program_values blocks ps)
  programs_absent a q [] each u none = tt
  programs_absent a q (p ∷ ps) each u none =
      let parts = or_parts (bytes_eq a (folded p.name)) (is_among (map program_word ps) a) none in
      absent_append q (of_program p) (program_values blocks ps)
      (absent_under [] q a (folded p.name) (of_program p) u (inside_under (folded p.name ∷ []) (of_program p) (program_fine p (All-head AreNamedApart p ps each)).1) parts.0)
      (programs_absent a q ps (All-tail AreNamedApart p ps each) u parts.1)

  programs_disjoint : (a : List ℕ) (qs : List Path) (ps : List PlainRoutine) → All AreNamedApart ps → AllUnder (a ∷ []) qs → is_among (map program_word ps) a ≡ false → Disjoint qs (program_values blocks ps)
  programs_disjoint a [] ps each u none = tt
  programs_disjoint a (q ∷ qs) ps each u none = (programs_absent a q ps each u.0 none, programs_disjoint a qs ps each u.1 none)

  programs_once : (ps : List PlainRoutine) → All AreNamedApart ps → repeats (map program_word ps) ≡ false → NoneTwice (program_values blocks ps)
  programs_once [] each apart = tt
  programs_once (p ∷ ps) each apart =
      let parts = or_parts (is_among (map program_word ps) (folded p.name)) (repeats (map program_word ps)) apart in
      let first = program_fine p (All-head AreNamedApart p ps each) in
      let rest = All-tail AreNamedApart p ps each in
      once_append (of_program p) (program_values blocks ps) first.0 (programs_once ps rest parts.1)
      (programs_disjoint (folded p.name) (of_program p) ps rest (inside_under (folded p.name ∷ []) (of_program p) first.1) parts.0)

  global_absent : (x : List ℕ) (ps : List PlainRoutine) → All AreNamedApart ps → Absent (x ∷ []) (program_values blocks ps)
  global_absent x [] each = tt
  global_absent x (p ∷ ps) each =
      absent_append (x ∷ []) (of_program p) (program_values blocks ps) (absent_alone x (folded p.name) (of_program p) (program_fine p (All-head AreNamedApart p ps each)).1) (global_absent x ps (All-tail AreNamedApart p ps each))

  words_absent : (x : List ℕ) (ws : List (List ℕ)) → is_among ws x ≡ false → Absent (x ∷ []) (map (λ word. word ∷ []) ws)
  words_absent x [] none = tt
  words_absent x (w ∷ ws) none = let parts = or_parts (bytes_eq x w) (is_among ws x) none in (parts.0, words_absent x ws parts.1)

  words_once : (ws : List (List ℕ)) (rest : List Path) → ((x : List ℕ) → Absent (x ∷ []) rest) → repeats ws ≡ false → NoneTwice rest → NoneTwice (map (λ word. word ∷ []) ws ++ rest)
  words_once [] rest alone apart once = once
  words_once (w ∷ ws) rest alone apart once =
      let parts = or_parts (is_among ws w) (repeats ws) apart in
      (absent_append (w ∷ []) (map (λ word. word ∷ []) ws) rest (words_absent w ws parts.0) (alone w), words_once ws rest alone parts.1 once)

  rows_beside : (rows : List Row) (ps : List PlainRoutine) → All AreNamedApart ps → repeats (row_words rows ++ map program_word ps) ≡ false → Disjoint (row_values rows []) (program_values blocks ps)
  rows_beside [] ps each apart = tt
  rows_beside (row ∷ rows) ps each apart =
      let word = folded row.name in
      let here = element_values row.bounds (word ∷ []) in
      let parts = or_parts (is_among (row_words rows ++ map program_word ps) word) (repeats (row_words rows ++ map program_word ps)) apart in
      disjoint_append here (row_values rows []) (program_values blocks ps) (programs_disjoint word here ps each (row_under row.bounds (word ∷ [])) (lacks_parts word (row_words rows) (map program_word ps) parts.0).1)
      (rows_beside rows ps each parts.1)

  globals_beside : (globals : List Variable) (ps : List PlainRoutine) → All AreNamedApart ps → Disjoint (variable_values globals) (program_values blocks ps)
  globals_beside [] ps each = tt
  globals_beside (g ∷ gs) ps each = (global_absent (folded g.name) ps each, globals_beside gs ps each)

-- no path of a value stands twice
pub cells_once : (source : Source) → IsDistinctlyNamed source → NoneTwice (cell_paths source)
cells_once source named =
    let globals = variable_values source.globals in
    let rows = row_values source.rows [] in
    let programs = program_values source.blocks source.programs in
    let rows_apart = front_apart (row_words source.rows) (map program_word source.programs) named.rows_apart in
    once_append (globals ++ rows) programs
    (words_once source.blocks named.in_blocks (global_words source.globals) rows (λ x. rows_alone x source.rows) named.globals_apart (rows_once source.rows [] rows_apart))
    (programs_once source.blocks named.in_blocks source.programs named.in_programs named.programs_apart)
    (disjoint_append globals rows programs (globals_beside source.blocks named.in_blocks source.globals source.programs named.in_programs)
    (rows_beside source.blocks named.in_blocks source.rows source.programs named.in_programs named.rows_apart))

-- the same of standard blocks
abbrev clock_path : ClockAt → Path
clock_path c = c.path

abbrev pub Sole : Path → List ClockAt → Type 0
Sole path cs = NoneTwice (map clock_path cs) × AllUnder path (map clock_path cs)

-- a routine's instances have different names
instances_apart : (r : PlainRoutine) → AreNamedApart r → repeats (instance_words r.instances) ≡ false
instances_apart r apart = later_apart (row_words r.rows) (instance_words r.instances) (later_apart (own_words r.locals) (row_words r.rows ++ instance_words r.instances) apart)

module _ (inner : ℕ → Path → List ClockAt) (sole : (n : ℕ) (path : Path) → Sole path (inner n path)) where
  block_sole : (b : BlockRef) (path : Path) → Sole path (block_clocks inner b path)
  block_sole Ton path = ((tt, tt), (self_under path, tt))
  block_sole Tof path = ((tt, tt), (self_under path, tt))
  block_sole RTrig path = ((tt, tt), (self_under path, tt))
  block_sole (Declared n) path = sole n path

  clocks_absent : (a : List ℕ) (q : Path) (is : List Instance) (path : Path) → Under (a ∷ path) q → is_among (instance_words is) a ≡ false → Absent q (map clock_path (instance_clocks inner is path))
  clocks_absent a q [] path u none = tt
  clocks_absent a q (i ∷ is) path u none =
      let parts = or_parts (bytes_eq a (folded i.name)) (is_among (instance_words is) a) none in
      let here = block_clocks inner i.of (folded i.name ∷ path) in
      subst (Absent q) (sym (map-append clock_path here (instance_clocks inner is path)))
      (absent_append q (map clock_path here) (map clock_path (instance_clocks inner is path))
      (absent_under path q a (folded i.name) (map clock_path here) u (block_sole i.of (folded i.name ∷ path)).1 parts.0) (clocks_absent a q is path u parts.1))

  clocks_disjoint : (a : List ℕ) (qs : List Path) (is : List Instance) (path : Path) → AllUnder (a ∷ path) qs → is_among (instance_words is) a ≡ false → Disjoint qs (map clock_path (instance_clocks inner is path))
  clocks_disjoint a [] is path all none = tt
  clocks_disjoint a (q ∷ qs) is path all none = (clocks_absent a q is path all.0 none, clocks_disjoint a qs is path all.1 none)

  pub instances_sole : (is : List Instance) (path : Path) → repeats (instance_words is) ≡ false → Sole path (instance_clocks inner is path)
  instances_sole [] path apart = (tt, tt)
  instances_sole (i ∷ is) path apart =
      let parts = instances_words i is apart in
      let word = folded i.name in
      let first = block_sole i.of (word ∷ path) in
      let rest = instances_sole is path parts.1 in
      let xs = map clock_path (block_clocks inner i.of (word ∷ path)) in
      let ys = map clock_path (instance_clocks inner is path) in
      let split = sym (map-append clock_path (block_clocks inner i.of (word ∷ path)) (instance_clocks inner is path)) in
      (subst NoneTwice split (once_append xs ys first.0 rest.0 (clocks_disjoint word xs is path first.1 parts.0)), subst (AllUnder path) split (under_all path xs ys (all_more word path xs first.1) rest.1))

clocks_at : (inner : ℕ → Path → List ClockAt) → ((n : ℕ) (path : Path) → Sole path (inner n path)) → (blocks : List PlainRoutine) → All AreNamedApart blocks → (n : ℕ) (path : Path) (o : Option PlainRoutine) → slice_get blocks n ≡ o → Sole path (option_map_or (clocks_rule inner) o (λ path. []) path)
clocks_at inner sole blocks all n path None is = (tt, tt)
clocks_at inner sole blocks all n path (Some r) is = instances_sole inner sole r.instances path (instances_apart r (all_at AreNamedApart blocks n r all is))

levels_sole : (blocks : List PlainRoutine) → All AreNamedApart blocks → (d n : ℕ) (path : Path) → Sole path (levels (λ path. []) clocks_rule blocks d n path)
levels_sole blocks all zero n path = (tt, tt)
levels_sole blocks all (suc d) n path = clocks_at (levels (λ path. []) clocks_rule blocks d) (levels_sole blocks all d) blocks all n path (slice_get blocks n) refl

pub routine_sole : (blocks : List PlainRoutine) → All AreNamedApart blocks → (n : ℕ) (path : Path) → Sole path (routine_clocks blocks n path)
routine_sole blocks all n path = levels_sole blocks all (length blocks) n path

module _ (blocks : List PlainRoutine) (all : All AreNamedApart blocks) where
  abbrev clocks_of : PlainRoutine → List ClockAt
  clocks_of p = clocks_rule (routine_clocks blocks) p (folded p.name ∷ [])

  program_sole : (p : PlainRoutine) → AreNamedApart p → Sole (folded p.name ∷ []) (clocks_of p)
  program_sole p apart = instances_sole (routine_clocks blocks) (routine_sole blocks all) p.instances (folded p.name ∷ []) (instances_apart p apart)

  clock_absent : (a : List ℕ) (q : Path) (ps : List PlainRoutine) → All AreNamedApart ps → Under (a ∷ []) q → is_among (map program_word ps) a ≡ false → Absent q (map clock_path (program_clocks blocks ps))
  clock_absent a q [] each u none = tt
  clock_absent a q (p ∷ ps) each u none =
      let parts = or_parts (bytes_eq a (folded p.name)) (is_among (map program_word ps) a) none in
      subst (Absent q) (sym (map-append clock_path (clocks_of p) (program_clocks blocks ps)))
      (absent_append q (map clock_path (clocks_of p)) (map clock_path (program_clocks blocks ps))
      (absent_under [] q a (folded p.name) (map clock_path (clocks_of p)) u (program_sole p (All-head AreNamedApart p ps each)).1 parts.0)
      (clock_absent a q ps (All-tail AreNamedApart p ps each) u parts.1))

  clock_disjoint : (a : List ℕ) (qs : List Path) (ps : List PlainRoutine) → All AreNamedApart ps → AllUnder (a ∷ []) qs → is_among (map program_word ps) a ≡ false → Disjoint qs (map clock_path (program_clocks blocks ps))
  clock_disjoint a [] ps each u none = tt
  clock_disjoint a (q ∷ qs) ps each u none = (clock_absent a q ps each u.0 none, clock_disjoint a qs ps each u.1 none)

  clock_once : (ps : List PlainRoutine) → All AreNamedApart ps → repeats (map program_word ps) ≡ false → NoneTwice (map clock_path (program_clocks blocks ps))
  clock_once [] each apart = tt
  clock_once (p ∷ ps) each apart =
      let parts = or_parts (is_among (map program_word ps) (folded p.name)) (repeats (map program_word ps)) apart in
      let first = program_sole p (All-head AreNamedApart p ps each) in
      let rest = All-tail AreNamedApart p ps each in
      subst NoneTwice (sym (map-append clock_path (clocks_of p) (program_clocks blocks ps)))
      (once_append (map clock_path (clocks_of p)) (map clock_path (program_clocks blocks ps)) first.0 (clock_once ps rest parts.1)
      (clock_disjoint (folded p.name) (map clock_path (clocks_of p)) ps rest first.1 parts.0))

-- no path of a standard block stands twice
pub clocks_once : (source : Source) → IsDistinctlyNamed source → NoneTwice (clock_paths source)
clocks_once source named = clock_once source.blocks named.in_blocks source.programs named.in_programs named.programs_apart
