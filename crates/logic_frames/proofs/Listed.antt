-- The paths and the standard blocks of the frames of a source are those of its routines.
use Rattle.std.proofs.Common.{◌≡◌, ◌∙◌, ap, sym, subst, refl, arith, ℕ, zero, suc, ◌+◌, ◌<◌, Bool, true, false, List, [], ◌∷◌, ◌++◌, map, length, Some, slice_get, inl, inr}
use Rattle.std.specs.Prelude.{if◌then◌else◌}
use Rattle.std.proofs.lemmas.List.{map-append}
use Rattle.std.proofs.lemmas.Option.{slice_get_within}
use Rattle.plant_types.specs.Words.{folded}
use Rattle.st_blocks.specs.Chains.{Among}
use Rattle.logic_source.specs.declared.logic.Instance.{Instance}
use Rattle.logic_source.specs.declared.logic.BlockRef.{BlockRef}
use Rattle.logic_source.specs.declared.logic.BlockRef.TheVariants.{Ton, Tof, RTrig, Declared}
use Rattle.logic_source.specs.Source.{PlainRoutine, Source, own_cells}
use Rattle.logic_source.specs.Blocks.{AreBelow, HasItsTypes, DeclaresThere, Declares, AsksDeclared}
use Rattle.plant_types.specs.Values.{Path}
use Rattle.logic_source.specs.Paths.{is_called, block_paths, instance_paths, paths_rule, type_paths}
use Rattle.logic_source.specs.Layout.{ClockAt, block_clocks, instance_clocks, clocks_rule, routine_clocks}
use Rattle.logic_source.specs.Seats.{value_count, clock_count}
use Rattle.logic_source.proofs.Levels.{by_its_rule}
use Rattle.logic_source.proofs.Layouts.{all_at}
use Rattle.logic_source.proofs.Agreeing.{clocks_ask, among_at}
use Rattle.logic_cells.specs.declared.clock.Standard.{Standard}
use Rattle.logic_walk.specs.declared.frame.Seat.{Seat}
use Rattle.logic_walk.specs.declared.frame.Frame.{Frame}
use Rattle.logic_walk.specs.Frames.{paths_of, seats_paths, frame_paths}
use Rattle.logic_walk.specs.Standards.{seat_standards, seats_standards, frame_standards}
use Rattle.logic_walk.proofs.Firsts.{paths_is}
use Rattle.logic_walk.proofs.Marks.{standards_is}
use Rattle.logic_frames.specs.Reached.{flagged}
use Rattle.logic_frames.specs.Frames.{place_in, seated, AreSeats, IsFrame, framed, IsFrames}
use Rattle.logic_frames.specs.Stands.{standard_of}
use Rattle.logic_frames.proofs.Flags.{declared_asks}
use Rattle.logic_frames.proofs.Places.{placed, placed_there, place_is}
use Rattle.logic_frames.proofs.Runs.{element}

-- paths ask for what a routine declares
below_same : (f g : ℕ → List Path) (name : List ℕ) (b : BlockRef) → ((n : ℕ) → b ≡ Declared n → f n ≡ g n) → block_paths f name b ≡ block_paths g name b
below_same f g name Ton same = refl
below_same f g name Tof same = refl
below_same f g name RTrig same = refl
below_same f g name (Declared n) same = ap (map (λ path. path ++ name ∷ [])) (same n refl)

paths_same : (f g : ℕ → List Path) (r : PlainRoutine) (is : List Instance) → ((i : Instance) (n : ℕ) → Among is i → i.of ≡ Declared n → f n ≡ g n) → instance_paths f r is ≡ instance_paths g r is
paths_same f g r [] same = refl
paths_same f g r (i ∷ is) same =
    let first = below_same f g i.name i.of (λ n of_is. same i n (inl refl) of_is) in
    let rest = paths_same f g r is (λ j n here of_is. same j n (inr here) of_is) in
    λ k. (if is_called r i.name then first k else []) ++ rest k

pub paths_ask : AsksDeclared paths_rule
paths_ask f g r same = λ k. [] ∷ paths_same f g r r.instances (λ i n here of_is. same n (i, here, of_is)) k

module _ (blocks : List PlainRoutine) (order : List ℕ) (r : PlainRoutine) where
  -- the paths below seats
  module _ (paths inner : ℕ → List Path) where
    below_is : (name : List ℕ) (b : BlockRef) → ((n : ℕ) → b ≡ Declared n → paths (place_in order n) ≡ inner n) → paths_of paths name (seated order b) ≡ block_paths inner name b
    below_is name Ton same = refl
    below_is name Tof same = refl
    below_is name RTrig same = refl
    below_is name (Declared n) same = ap (map (λ path. path ++ name ∷ [])) (same n refl)

    seat_is : (i : Instance) (seat : Seat) (called : Bool) → seat.name ≡ i.name → seat.of ≡ seated order i.of → ((n : ℕ) → i.of ≡ Declared n → called ≡ true → paths (place_in order n) ≡ inner n)
        → (if called then paths_of paths seat.name seat.of else []) ≡ (if called then block_paths inner i.name i.of else [])
    seat_is i seat false name_is of_is same = refl
    seat_is i seat true name_is of_is same = (λ k. paths_of paths (name_is k) (of_is k)) ∙ below_is i.name i.of (λ n is. same n is refl)

    seats_paths_are : (is : List Instance) (seats : List Seat) (v c : ℕ) → AreSeats blocks r order v c is seats → ((i : Instance) (n : ℕ) → Among is i → i.of ≡ Declared n → is_called r i.name ≡ true → paths (place_in order n) ≡ inner n)
        → seats_paths paths seats ≡ instance_paths inner r is
    seats_paths_are [] [] v c are same = refl
    seats_paths_are [] (seat ∷ seats) v c are same = absurd are
    seats_paths_are (i ∷ is) [] v c are same = absurd are
    seats_paths_are (i ∷ is) (seat ∷ seats) v c are same =
        let it = are.0 in
        let first = ap (λ b. if b then paths_of paths seat.name seat.of else []) it.called_is ∙ seat_is i seat (is_called r i.name) it.name_is it.of_is (λ n of_is calls. same i n (inl refl) of_is calls) in
        let rest = seats_paths_are is seats (v + value_count blocks i.of) (c + clock_count blocks i.of) are.1 (λ j n here of_is calls. same j n (inr here) of_is calls) in
        λ k. first k ++ rest k

  -- the standard blocks of seats
  abbrev kind : ClockAt → Standard
  kind c = standard_of c.of

  module _ (standards : ℕ → List Standard) (inner : ℕ → Path → List ClockAt) where
    standards_of : (b : BlockRef) (p : Path) → ((n : ℕ) → b ≡ Declared n → standards (place_in order n) ≡ map kind (inner n p)) → seat_standards standards (seated order b) ≡ map kind (block_clocks inner b p)
    standards_of Ton p same = refl
    standards_of Tof p same = refl
    standards_of RTrig p same = refl
    standards_of (Declared n) p same = same n refl

    seats_standards_are : (is : List Instance) (seats : List Seat) (v c : ℕ) (p : Path) → AreSeats blocks r order v c is seats → ((i : Instance) (n : ℕ) (q : Path) → Among is i → i.of ≡ Declared n → standards (place_in order n) ≡ map kind (inner n q))
        → seats_standards standards seats ≡ map kind (instance_clocks inner is p)
    seats_standards_are [] [] v c p are same = refl
    seats_standards_are [] (seat ∷ seats) v c p are same = absurd are
    seats_standards_are (i ∷ is) [] v c p are same = absurd are
    seats_standards_are (i ∷ is) (seat ∷ seats) v c p are same =
        let it = are.0 in
        let first = ap (seat_standards standards) it.of_is ∙ standards_of i.of (folded i.name ∷ p) (λ n of_is. same i n (folded i.name ∷ p) (inl refl) of_is) in
        let rest = seats_standards_are is seats (v + value_count blocks i.of) (c + clock_count blocks i.of) p are.1 (λ j n q here of_is. same j n q (inr here) of_is) in
        (λ k. first k ++ rest k) ∙ sym (map-append kind (block_clocks inner i.of (folded i.name ∷ p)) (instance_clocks inner is p))

-- the seats of a frame, with or without its body
framed_standards : (blocks : List PlainRoutine) (order : List ℕ) (b : Bool) (r : PlainRoutine) (standards : ℕ → List Standard) (inner : ℕ → Path → List ClockAt) (seats : List Seat) (p : Path)
    → AreSeats blocks (framed b r) order (own_cells (framed b r)) 0 (framed b r).instances seats → ((n : ℕ) (q : Path) → Declares r n → standards (place_in order n) ≡ map (λ (c : ClockAt). standard_of c.of) (inner n q))
    → seats_standards standards seats ≡ map (λ (c : ClockAt). standard_of c.of) (clocks_rule inner r p)
framed_standards blocks order true r standards inner seats p are same = seats_standards_are blocks order r standards inner r.instances seats (own_cells r) 0 p are (λ i n q here of_is. same n q (i, here, of_is))
framed_standards blocks order false r standards inner seats p are same = seats_standards_are blocks order (framed false r) standards inner r.instances seats (own_cells r) 0 p are (λ i n q here of_is. same n q (i, here, of_is))

module _ (source : Source) (order : List ℕ) (frames : List Frame) (are : IsFrames source order frames) (below : AreBelow source.blocks order) (types : HasItsTypes source) where
  frame_there : (k : ℕ) → k < length order + length source.programs → (frame : Frame) × (slice_get frames k ≡ Some frame)
  frame_there k less = let many = are.whole in element frames k (omega (arith, less, many))

  -- the paths of each block type that is run
  block_is : (depth limit k n : ℕ) → k < depth → k < limit → slice_get order k ≡ Some n → flagged are.used n ≡ true → flagged are.run n ≡ true → frame_paths frames limit k ≡ type_paths source.blocks n
  block_is zero limit k n deep less at used run = absurd (omega (arith, deep))
  block_is (suc d) limit k n deep less at used run =
      let within = slice_get_within order k n at in
      let r = element source.blocks n (below.within n (among_at order k n at)) in
      let frame = frame_there k (omega (arith, within)) in
      let there = all_at (DeclaresThere source.blocks) source.blocks n r.0 types.in_blocks r.1 in
      let framed_is : IsFrame source order r.0 frame.0 = subst (λ b. IsFrame source order (framed b r.0) frame.0) run (are.of_blocks k n r.0 frame.0 at r.1 frame.1 used) in
      let seats = seats_paths_are source.blocks order r.0 (frame_paths frames k) (type_paths source.blocks) r.0.instances frame.0.seats.items (own_cells r.0) 0 framed_is.seats_are
      (λ i b here of_is calls.
      let declares : Declares r.0 b = (i, here, of_is) in
      let p = placed order k b (below.after k n b r.0 at r.1 declares (there b declares)) in
      let before = p.below in
      let used' = are.are_used.by_blocks n b r.0 r.1 used (declared_asks r.0 b declares) in
      let run' = are.are_run.by_blocks n b r.0 r.1 run (i, here, of_is, λ on. calls) in
      ap (frame_paths frames k) (place_is order k b p) ∙ block_is d k p.j b (omega (arith, deep, before)) before p.at used' run') in
      paths_is frames limit k frame.0 less frame.1 ∙ (λ j. [] ∷ seats j) ∙ sym (by_its_rule [] paths_rule source.blocks order below paths_ask n r.0 r.1)

  -- the paths of each program
  pub paths_are : (n : ℕ) (p : PlainRoutine) → slice_get source.programs n ≡ Some p → frame_paths frames (length frames) (length order + n) ≡ paths_rule (type_paths source.blocks) p
  paths_are n p at =
      let within = slice_get_within source.programs n p at in
      let k = length order + n in
      let frame = frame_there k (omega (arith, within)) in
      let there = all_at (DeclaresThere source.blocks) source.programs n p types.in_programs at in
      let less = slice_get_within frames k frame.0 frame.1 in
      let seats = seats_paths_are source.blocks order p (frame_paths frames k) (type_paths source.blocks) p.instances frame.0.seats.items (own_cells p) 0 (are.of_programs n p frame.0 at frame.1).seats_are
      (λ i b here of_is calls.
      let declares : Declares p b = (i, here, of_is) in
      let q = placed_there order b (below.whole b (there b declares)) in
      let short = q.within in
      let used = are.are_used.by_programs n b p at (declared_asks p b declares) in
      let run = are.are_run.by_programs n b p at (i, here, of_is, λ on. calls) in
      ap (frame_paths frames k) (place_is order (length order) b q) ∙ block_is (suc q.j) k q.j b (omega arith) (omega (arith, short)) q.at used run) in
      paths_is frames (length frames) k frame.0 less frame.1 ∙ (λ j. [] ∷ seats j)

  -- the standard blocks of each block type that is used
  block_standards : (depth limit k n : ℕ) → k < depth → k < limit → slice_get order k ≡ Some n → flagged are.used n ≡ true → (p : Path) → frame_standards frames limit k ≡ map (λ (c : ClockAt). standard_of c.of) (routine_clocks source.blocks n p)
  block_standards zero limit k n deep less at used p = absurd (omega (arith, deep))
  block_standards (suc d) limit k n deep less at used p =
      let within = slice_get_within order k n at in
      let r = element source.blocks n (below.within n (among_at order k n at)) in
      let frame = frame_there k (omega (arith, within)) in
      let there = all_at (DeclaresThere source.blocks) source.blocks n r.0 types.in_blocks r.1 in
      let it = are.of_blocks k n r.0 frame.0 at r.1 frame.1 used in
      let seats = framed_standards source.blocks order (flagged are.run n) r.0 (frame_standards frames k) (routine_clocks source.blocks) frame.0.seats.items p it.seats_are
      (λ b q declares.
      let place = placed order k b (below.after k n b r.0 at r.1 declares (there b declares)) in
      let before = place.below in
      ap (frame_standards frames k) (place_is order k b place) ∙ block_standards d k place.j b (omega (arith, deep, before)) before place.at (are.are_used.by_blocks n b r.0 r.1 used (declared_asks r.0 b declares)) q) in
      standards_is frames limit k frame.0 less frame.1 ∙ seats ∙ ap (λ (f : Path → List ClockAt). map (λ (c : ClockAt). standard_of c.of) (f p)) (sym (by_its_rule (λ path. []) clocks_rule source.blocks order below clocks_ask n r.0 r.1))

  -- the standard blocks of each program
  pub standards_are : (n : ℕ) (p : PlainRoutine) → slice_get source.programs n ≡ Some p → (path : Path) → frame_standards frames (length frames) (length order + n) ≡ map (λ (c : ClockAt). standard_of c.of) (clocks_rule (routine_clocks source.blocks) p path)
  standards_are n p at path =
      let within = slice_get_within source.programs n p at in
      let k = length order + n in
      let frame = frame_there k (omega (arith, within)) in
      let there = all_at (DeclaresThere source.blocks) source.programs n p types.in_programs at in
      let less = slice_get_within frames k frame.0 frame.1 in
      let seats = framed_standards source.blocks order true p (frame_standards frames k) (routine_clocks source.blocks) frame.0.seats.items path (are.of_programs n p frame.0 at frame.1).seats_are
      (λ b q declares.
      let place = placed_there order b (below.whole b (there b declares)) in
      let short = place.within in
      ap (frame_standards frames k) (place_is order (length order) b place) ∙ block_standards (suc place.j) k place.j b (omega arith) (omega (arith, short)) place.at (are.are_used.by_programs n b p at (declared_asks p b declares)) q) in
      standards_is frames (length frames) k frame.0 less frame.1 ∙ seats
