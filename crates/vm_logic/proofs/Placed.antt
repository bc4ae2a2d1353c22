-- The paths of a source by their numbers, program by program.
use Rattle.std.proofs.Common.{◌≡◌, ◌∙◌, ap, sym, subst, refl, ℕ, zero, suc, ◌+◌, ◌<◌, ◌≤◌, List, [], ◌∷◌, ◌++◌, append_assoc, map, drop, length, get_or, Some, arith}
use Rattle.std.specs.Prelude.{slice_get, codes, Result, Ok, Err, IfErr}
use Rattle.std.proofs.lemmas.List.{length-append, length-map, get_or-map, get_or_append_left, get_or-append-add, append-nil, drop_more, drop_all, map-append}
use Rattle.std.proofs.lemmas.Option.{slice_get_within, get_or_from_slice_get}
use Rattle.st_tree.specs.Meaning.{Ran, Done, Trapped}
use Rattle.st_tree.specs.Alike as alike
use Rattle.plant_types.specs.Words.{folded}
use Rattle.logic_source.specs.Source.{PlainRoutine, Source}
use Rattle.plant_types.specs.Values.{Path}
use Rattle.logic_source.specs.Worlds.{World}
use Rattle.logic_source.specs.Layout.{ClockAt, clocks_rule, routine_clocks, program_clocks}
use Rattle.logic_source.specs.Paths.{paths_rule, type_paths, program_paths, paths_of, path_text}
use Rattle.logic_cells.specs.declared.clock.Standard.{Standard}
use Rattle.logic_cells.specs.declared.stop.Stop.{Stop}
use Rattle.logic_cells.specs.Cells.{PlainCells}
use Rattle.logic_cells.specs.Runs.{ended}
use Rattle.logic_walk.specs.Walks.{under}
use Rattle.logic_walk.specs.Paths.{path_suffix}
use Rattle.logic_frames.specs.Stands.{standard_of, StandFor}
use Rattle.vm_logic.specs.Bases.{program_paths_before, program_paths_base}
use Rattle.vm_logic.specs.Framed.{all_standards}
use Rattle.vm_logic.specs.Runs as runs

-- the path of a number below a program has the number of the program's first path and that one, and the program's name at its end
pub record IsPlaced (paths own : List Path) (name : List ℕ) (n m : ℕ) : Type 0 where
  pub inside : n + m < length paths
  pub path_is : get_or paths (n + m) [] ≡ get_or own m [] ++ name ∷ []

module _ (blocks : List PlainRoutine) where
  abbrev own : PlainRoutine → List Path
  own p = paths_rule (type_paths blocks) p

  abbrev named : PlainRoutine → List Path
  named p = map (λ path. path ++ p.name ∷ []) (own p)

  placed_first : (p : PlainRoutine) (ps : List PlainRoutine) (m : ℕ) → m < length (own p) → IsPlaced (program_paths blocks (p ∷ ps)) (own p) p.name 0 m
  placed_first p ps m less =
      let many = length-map (own p) (λ path. path ++ p.name ∷ []) in
      let all = length-append (named p) (program_paths blocks ps) in
      let start : 0 + m ≡ m = omega arith in
      let short : m < length (named p) = omega (arith, less, many) in
      record {
        inside = omega (arith, short, all);
        path_is = ap (λ j. get_or (named p ++ program_paths blocks ps) j []) start ∙ get_or_append_left (named p) (program_paths blocks ps) [] m short ∙ get_or-map (λ path. path ++ p.name ∷ []) (own p) m [] [] less;
      }

  placed_next : (q p : PlainRoutine) (ps : List PlainRoutine) (n m : ℕ) → IsPlaced (program_paths blocks ps) (own p) p.name n m → IsPlaced (program_paths blocks (q ∷ ps)) (own p) p.name (length (own q) + n) m
  placed_next q p ps n m rest =
      let many = length-map (own q) (λ path. path ++ q.name ∷ []) in
      let all = length-append (named q) (program_paths blocks ps) in
      let inside = rest.inside in
      let shift : length (own q) + n + m ≡ length (named q) + (n + m) = omega (arith, many) in
      record {
        inside = omega (arith, many, all, inside);
        path_is = ap (λ j. get_or (named q ++ program_paths blocks ps) j []) shift ∙ get_or-append-add (named q) (program_paths blocks ps) (n + m) [] ∙ rest.path_is;
      }

  placed_in : (ps : List PlainRoutine) (k : ℕ) (p : PlainRoutine) (m : ℕ) → slice_get ps k ≡ Some p → m < length (own p) → IsPlaced (program_paths blocks ps) (own p) p.name (program_paths_before blocks ps k) m
  placed_in [] k p m at less = absurd (cc)
  placed_in (q ∷ ps) zero p m at less =
      let same : q ≡ p = cc in
      subst (λ (x : PlainRoutine). IsPlaced (program_paths blocks (q ∷ ps)) (own x) x.name 0 m) same (placed_first q ps m (subst (λ (x : PlainRoutine). m < length (own x)) (sym same) less))
  placed_in (q ∷ ps) (suc k) p m at less = placed_next q p ps (program_paths_before blocks ps k) m (placed_in ps k p m at less)

  paths_whole : (ps : List PlainRoutine) → program_paths_before blocks ps (length ps) ≡ length (program_paths blocks ps)
  paths_whole [] = refl
  paths_whole (p ∷ ps) =
      let many = length-map (own p) (λ path. path ++ p.name ∷ []) in
      let all = length-append (named p) (program_paths blocks ps) in
      let rest = paths_whole ps in
      omega (arith, many, all, rest)

-- the path of a number below the program of a number
pub placed : (source : Source) (k : ℕ) (p : PlainRoutine) (m : ℕ) → slice_get source.programs k ≡ Some p → m < length (paths_rule (type_paths source.blocks) p)
    → IsPlaced (paths_of source) (paths_rule (type_paths source.blocks) p) p.name (program_paths_base source k) m
placed source k p m at less = placed_in source.blocks source.programs k p m at less

-- behind the last program's paths there are no more
pub paths_end : (source : Source) → program_paths_base source (length source.programs) ≡ length (paths_of source)
paths_end source = paths_whole source.blocks source.programs

joined : (a b c d : List ℕ) → ((a ++ b) ++ c) ++ d ≡ a ++ ((b ++ c) ++ d)
joined a b c d = ap (λ l. l ++ d) (append_assoc a b c) ∙ append_assoc a (b ++ c) d

-- the text of a path that ends with a program's name
pub text_is : (name : List ℕ) (path : Path) → path_text (path ++ name ∷ []) ≡ name ++ path_suffix path
text_is name [] = sym (append-nil name)
text_is name (inner ∷ []) = ap (λ text. text ++ codes "." ++ inner) (text_is name []) ∙ joined name (path_suffix []) (codes ".") inner
text_is name (inner ∷ (outer ∷ path)) = ap (λ text. text ++ codes "." ++ inner) (text_is name (outer ∷ path)) ∙ joined name (path_suffix (outer ∷ path)) (codes ".") inner

-- two runs that do the same do so as runs over cells
agreed : (source : Source) (r : Ran World) (q : Ran PlainCells) → alike.Agree (λ w c. StandFor source c w) r q → runs.Agree source r q
agreed source (Done w) (Done c) same = same
agreed source (Done w) (Trapped c spot trap) same = same
agreed source (Trapped w spot trap) (Done c) same = same
agreed source (Trapped w spot trap) (Trapped c other kind) same = (same.0, same.1.0, same.1.1)

pub agrees : (source : Source) (r : Ran World) (q q' : Ran PlainCells) → q' ≡ q → alike.Agree (λ w c. StandFor source c w) r q → runs.Agree source r q'
agrees source r q q' same h = agreed source r q' (subst (alike.Agree (λ w c. StandFor source c w) r) (sym same) h)

module _ (source : Source) (n : ℕ) (p : PlainRoutine) (at : slice_get source.programs n ≡ Some p) where
  abbrev its : List Path
  its = paths_rule (type_paths source.blocks) p

  abbrev Within : Result (Unit {0}) Stop → Type 0
  Within result = IfErr result (λ stop. stop.place.path < length its)

  -- what the frame of a program did in cells is what the program did in a world, if it agrees with this from the program's name on
  pub run_agrees : (r : Ran World) (result : Result (Unit {0}) Stop) (cells : PlainCells) (q : Ran PlainCells) → Within result → under (p.name ∷ []) (ended its result cells) ≡ q → alike.Agree (λ w c. StandFor source c w) r q
      → runs.Agree source r (runs.ran source (runs.walked_by (program_paths_base source n) result) cells)
  run_agrees r (Ok _) cells q inside same h = agrees source r q (Done cells) same h
  run_agrees r (Err stop) cells q inside same h =
      let place = placed source n p stop.place.path at inside in
      agrees source r q (runs.ran source (runs.walked_by (program_paths_base source n) (Err stop)) cells) (ap (λ path. Trapped cells (record { path = path; statement = stop.place.statement }) stop.trap) place.path_is ∙ same) h

  -- its place has a path of the source
  pub run_within : (result : Result (Unit {0}) Stop) → Within result → runs.IsWithin source (runs.walked_by (program_paths_base source n) result)
  run_within (Ok _) inside = tt
  run_within (Err stop) inside = (placed source n p stop.place.path at inside).inside

  -- whose number is no greater than that of all paths
  pub run_fits : (result : Result (Unit {0}) Stop) (top : ℕ) → Within result → program_paths_base source (length source.programs) < top → IfErr result (λ stop. program_paths_base source n + stop.place.path < top)
  run_fits (Ok _) top inside fits = tt
  run_fits (Err stop) top inside fits =
      let less = (placed source n p stop.place.path at inside).inside in
      let all = paths_end source in
      omega (arith, less, all, fits)

  -- the text of the path of a number below the program
  pub text_placed : (m path : ℕ) → m < length its → path ≡ program_paths_base source n + m → path_text (get_or (paths_of source) path []) ≡ p.name ++ path_suffix (get_or its m [])
  text_placed m path inside is = ap path_text (ap (λ j. get_or (paths_of source) j []) is ∙ (placed source n p m at inside).path_is) ∙ text_is p.name (get_or its m [])

-- the standard blocks of programs
abbrev pub standards_in : List PlainRoutine → List PlainRoutine → List Standard
standards_in blocks ps = map (λ (c : ClockAt). standard_of c.of) (program_clocks blocks ps)

abbrev pub standards_of : List PlainRoutine → PlainRoutine → List Standard
standards_of blocks p = map (λ (c : ClockAt). standard_of c.of) (clocks_rule (routine_clocks blocks) p (folded p.name ∷ []))

-- one more program's
pub standards_more : (source : Source) (k : ℕ) (p : PlainRoutine) (list list' : List Standard) → slice_get source.programs k ≡ Some p → list ++ standards_in source.blocks (drop k source.programs) ≡ all_standards source → list' ≡ list ++ standards_of source.blocks p
    → list' ++ standards_in source.blocks (drop (k + 1) source.programs) ≡ all_standards source
standards_more source k p list list' at before pushed =
    let blocks = source.blocks in
    let rest = drop (k + 1) source.programs in
    let split : drop k source.programs ≡ p ∷ rest = drop_more source.programs k p (slice_get_within source.programs k p at) ∙ ap (λ (q : PlainRoutine). q ∷ rest) (get_or_from_slice_get source.programs k p p at) in
    let clocks = clocks_rule (routine_clocks blocks) p (folded p.name ∷ []) in
    ap (λ l. l ++ standards_in blocks rest) pushed ∙ append_assoc list (standards_of blocks p) (standards_in blocks rest)
    ∙ ap (λ l. list ++ l) (sym (map-append (λ (c : ClockAt). standard_of c.of) clocks (program_clocks blocks rest))) ∙ ap (λ ps. list ++ standards_in blocks ps) (sym split) ∙ before

-- all of them
pub standards_all : (source : Source) (k : ℕ) (list : List Standard) → length source.programs ≤ k → list ++ standards_in source.blocks (drop k source.programs) ≡ all_standards source → list ≡ all_standards source
standards_all source k list past before = sym (append-nil list) ∙ ap (λ ps. list ++ standards_in source.blocks ps) (sym (drop_all k source.programs past)) ∙ before
