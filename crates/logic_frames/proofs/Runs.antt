-- The frames of a source do what its routines do.
use Rattle.std.proofs.Common.{◌≡◌, ◌∙◌, sym, subst, refl, arith, ℕ, zero, suc, ◌+◌, ◌<◌, true, List, [], ◌∷◌, length, Some, slice_get}
use Rattle.std.proofs.lemmas.Option.{slice_get_within}
use Rattle.st_tree.specs.View.{view_body}
use Rattle.st_tree.specs.Meaning.{Ran, Done, run_all}
use Rattle.st_tree.specs.Alike.{Agree}
use Rattle.st_tree.proofs.AnyValueLaws.{body_same}
use Rattle.logic_source.specs.Source.{PlainRoutine, Source, global_cells}
use Rattle.logic_source.specs.Names.{kinds_named, meant_in}
use Rattle.logic_source.specs.Blocks.{AreBelow, HasItsTypes, DeclaresThere}
use Rattle.plant_types.specs.Values.{Path}
use Rattle.logic_source.specs.Worlds.{World, routine_space, run_rule, run_routine, run_in, run_program}
use Rattle.logic_source.specs.Layout.{values_rule, routine_values, clocks_rule, routine_clocks, IsDistinctlyNamed}
use Rattle.logic_source.proofs.Levels.{by_its_rule}
use Rattle.logic_source.proofs.Layouts.{all_at}
use Rattle.logic_source.proofs.Agreeing.{values_ask, clocks_ask, runs_ask, among_at}
use Rattle.logic_source.proofs.Seats.{program_stands, program_clocks_stand}
use Rattle.logic_cells.specs.Cells.{PlainCells}
use Rattle.logic_walk.specs.declared.frame.Base.{Base}
use Rattle.logic_walk.specs.declared.frame.Frame.{Frame}
use Rattle.logic_walk.specs.Walks.{frame_space, run_frame}
use Rattle.logic_walk.proofs.Firsts.{frame_is}
use Rattle.logic_frames.specs.Numbers.{numbers, HasItsNames, HasAllNames}
use Rattle.logic_frames.specs.Reached.{AsksFor, flagged}
use Rattle.logic_frames.specs.Frames.{place_in, IsFrame, framed, IsFrames, program_base}
use Rattle.logic_frames.specs.Stands.{StandFor}
use Rattle.logic_frames.proofs.Namings.{meant_known}
use Rattle.logic_frames.proofs.Flags.{asks_declared, declared_asks}
use Rattle.logic_frames.proofs.Callings.{called_known, meant_names, array_kept, calls_known}
use Rattle.logic_frames.proofs.Places.{placed, placed_there, place_is}
use Rattle.logic_frames.proofs.Spaces.{Matches, Does, spaces_lawful}

-- an element that a list is long enough for
pub element : {A : Type 0} (xs : List A) (n : ℕ) → n < length xs → (x : A) × (slice_get xs n ≡ Some x)
element [] n less = absurd (omega arith)
element (x ∷ xs) zero less = (x, refl)
element (x ∷ xs) (suc n) less = element xs n (omega (arith, less))

module _ (source : Source) (order : List ℕ) (below : AreBelow source.blocks order) (named : IsDistinctlyNamed source) (t : ℕ) where
  -- what a frame does, where what the frames that it calls do is given
  abbrev run_body : (ℕ → Base → Path → PlainCells → Ran PlainCells) → Frame → Base → Path → PlainCells → Ran PlainCells
  run_body inner frame base path cells = run_all (frame_space t (global_cells source) inner frame.seats.items base path) (view_body frame.body.items) cells

  -- a routine's frame does what the routine does, if the frames that it calls do what its block types do
  pub body_does : (r : PlainRoutine) (frame : Frame) (inner : ℕ → Path → World → Ran World) (lower : ℕ → Base → Path → PlainCells → Ran PlainCells) → IsFrame source order r frame → HasItsNames source r
      → ((n : ℕ) → AsksFor true r n → Does source (inner n) (lower (place_in order n)) (routine_values source.blocks n) (routine_clocks source.blocks n))
      → Does source (run_rule source t inner r) (run_body lower frame) (values_rule (routine_values source.blocks) r) (clocks_rule (routine_clocks source.blocks) r)
  body_does r frame inner lower it names callees path base values clocks w cells stands =
      let seats = frame.seats.items in
      let from = routine_space t inner r path in
      let to = frame_space t (global_cells source) lower seats base path in
      let known = meant_names source r in
      subst (λ body. Agree (Matches source) (run_rule source t inner r path w) (run_all to body cells)) (sym it.body_is)
      (body_same known (numbers source r) from to (Matches source) (spaces_lawful source order below named r seats it.seats_are path base values clocks t inner lower callees)
      (meant_in source r r.body) (meant_known (called_known source r) (kinds_named source r) known.has_array (array_kept source r) r.body ∙ calls_known source r names.in_body) w cells stands)

  module _ (frames : List Frame) (are : IsFrames source order frames) (types : HasItsTypes source) (names : HasAllNames source) where
    abbrev lower : ℕ → ℕ → Base → Path → PlainCells → Ran PlainCells
    lower limit k = run_frame t (global_cells source) frames limit k

    abbrev BlockDoes : (limit k n : ℕ) → Type 0
    BlockDoes limit k n = Does source (run_routine source t n) (lower limit k) (routine_values source.blocks n) (routine_clocks source.blocks n)

    frame_there : (k : ℕ) → k < length order + length source.programs → (frame : Frame) × (slice_get frames k ≡ Some frame)
    frame_there k less = let many = are.whole in element frames k (omega (arith, less, many))

    -- the frame at a place does what its body does
    unfolded : (limit k : ℕ) (frame : Frame) → k < limit → slice_get frames k ≡ Some frame → lower limit k ≡ run_body (lower k) frame
    unfolded limit k frame less at = λ j base path cells. frame_is frames limit k t (global_cells source) base cells frame path less at j

    block_known : (limit k n : ℕ) (r : PlainRoutine) (frame : Frame) → k < limit → slice_get source.blocks n ≡ Some r → slice_get frames k ≡ Some frame
        → Does source (run_rule source t (run_routine source t) r) (run_body (lower k) frame) (values_rule (routine_values source.blocks) r) (clocks_rule (routine_clocks source.blocks) r) → BlockDoes limit k n
    block_known limit k n r frame less at there does =
        let runs = by_its_rule (λ path w. Done w) (run_rule source t) source.blocks order below (runs_ask source t) n r at in
        let values = by_its_rule (λ path. []) values_rule source.blocks order below values_ask n r at in
        let clocks = by_its_rule (λ path. []) clocks_rule source.blocks order below clocks_ask n r at in
        let opened = unfolded limit k frame less there in
        subst (λ f. Does source f (lower limit k) (routine_values source.blocks n) (routine_clocks source.blocks n)) (sym runs)
        (subst (λ g. Does source (run_rule source t (run_routine source t) r) g (routine_values source.blocks n) (routine_clocks source.blocks n)) (sym opened)
        (subst (λ v. Does source (run_rule source t (run_routine source t) r) (run_body (lower k) frame) v (routine_clocks source.blocks n)) (sym values)
        (subst (λ c. Does source (run_rule source t (run_routine source t) r) (run_body (lower k) frame) (values_rule (routine_values source.blocks) r) c) (sym clocks) does)))

    -- the frame of each block type does what the block type does
    block_does : (depth limit k n : ℕ) → k < depth → k < limit → slice_get order k ≡ Some n → flagged are.used n ≡ true → flagged are.run n ≡ true → BlockDoes limit k n
    block_does zero limit k n deep less at used run = absurd (omega (arith, deep))
    block_does (suc d) limit k n deep less at used run =
        let within = slice_get_within order k n at in
        let r = element source.blocks n (below.within n (among_at order k n at)) in
        let frame = frame_there k (omega (arith, within)) in
        let there = all_at (DeclaresThere source.blocks) source.blocks n r.0 types.in_blocks r.1 in
        let framed_is : IsFrame source order r.0 frame.0 = subst (λ b. IsFrame source order (framed b r.0) frame.0) run (are.of_blocks k n r.0 frame.0 at r.1 frame.1 used) in
        block_known limit k n r.0 frame.0 less r.1 frame.1
        (body_does r.0 frame.0 (run_routine source t) (lower k) framed_is (all_at (HasItsNames source) source.blocks n r.0 names.in_blocks r.1)
        (λ b asks.
        let declares = asks_declared true r.0 b asks in
        let p = placed order k b (below.after k n b r.0 at r.1 declares (there b declares)) in
        let before = p.below in
        let used' = are.are_used.by_blocks n b r.0 r.1 used (declared_asks r.0 b declares) in
        let run' = are.are_run.by_blocks n b r.0 r.1 run asks in
        subst (λ j. BlockDoes k j b) (sym (place_is order k b p)) (block_does d k p.j b (omega (arith, deep, before)) before p.at used' run')))

    -- the frame of each program does what the program does
    pub program_does : (n : ℕ) (p : PlainRoutine) → slice_get source.programs n ≡ Some p
        → Does source (run_rule source t (run_routine source t) p) (lower (length frames) (length order + n)) (values_rule (routine_values source.blocks) p) (clocks_rule (routine_clocks source.blocks) p)
    program_does n p at =
        let within = slice_get_within source.programs n p at in
        let k = length order + n in
        let frame = frame_there k (omega (arith, within)) in
        let there = all_at (DeclaresThere source.blocks) source.programs n p types.in_programs at in
        let less = slice_get_within frames k frame.0 frame.1 in
        subst (λ g. Does source (run_rule source t (run_routine source t) p) g (values_rule (routine_values source.blocks) p) (clocks_rule (routine_clocks source.blocks) p)) (sym (unfolded (length frames) k frame.0 less frame.1))
        (body_does p frame.0 (run_routine source t) (lower k) (are.of_programs n p frame.0 at frame.1) (all_at (HasItsNames source) source.programs n p names.in_programs at)
        (λ b asks.
        let declares = asks_declared true p b asks in
        let q = placed_there order b (below.whole b (there b declares)) in
        let short = q.within in
        let used = are.are_used.by_programs n b p at (declared_asks p b declares) in
        let run = are.are_run.by_programs n b p at asks in
        subst (λ j. BlockDoes k j b) (sym (place_is order (length order) b q)) (block_does (suc q.j) k q.j b (omega arith) (omega (arith, short)) q.at used run)))

-- the frame of a program agrees with the program
pub frames_agree : (source : Source) (order : List ℕ) (frames : List Frame) → IsFrames source order frames → AreBelow source.blocks order → HasItsTypes source → IsDistinctlyNamed source → HasAllNames source
    → (t n : ℕ) (p : PlainRoutine) → slice_get source.programs n ≡ Some p → (w : World) (cells : PlainCells) → StandFor source cells w
    → Agree (λ w cells. StandFor source cells w) (run_program source n t w) (run_frame t (global_cells source) frames (length frames) (length order + n) (program_base source n) (p.name ∷ []) cells)
frames_agree source order frames are below types named names t n p at w cells stands =
    subst (λ o. Agree (Matches source) (run_in source t o w) (run_frame t (global_cells source) frames (length frames) (length order + n) (program_base source n) (p.name ∷ []) cells)) (sym at)
    (program_does source order below named t frames are types names n p at (p.name ∷ []) (program_base source n) (program_stands source n p at) (program_clocks_stand source n p at) w cells stands)
