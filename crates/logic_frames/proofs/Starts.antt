-- The initial values that frames assign are those of their routines.
use Rattle.std.proofs.Common.{◌≡◌, ◌∙◌, ap, sym, subst, refl, arith, ℕ, zero, suc, ◌+◌, ◌<◌, Bool, true, false, List, [], ◌∷◌, length, Some, slice_get, inl, inr}
use Rattle.std.specs.Prelude.{is_some, unwrap_or}
use Rattle.std.proofs.lemmas.Option.{slice_get_within}
use Rattle.st_tree.specs.View.{view_body}
use Rattle.st_tree.specs.Meaning.{Ran, Done, Trapped, run_all}
use Rattle.st_tree.specs.Mapping.{mapped_body}
use Rattle.st_tree.specs.Alike.{Agree}
use Rattle.st_tree.proofs.AnyValueLaws.{IsLawfulForAny, body_same}
use Rattle.st_blocks.specs.Chains.{Among}
use Rattle.logic_source.specs.declared.logic.Instance.{Instance}
use Rattle.logic_source.specs.declared.logic.BlockRef.{BlockRef}
use Rattle.logic_source.specs.declared.logic.BlockRef.TheVariants.{Ton, Tof, RTrig, Declared}
use Rattle.logic_source.specs.Source.{PlainRoutine, Source, own_cells, global_cells}
use Rattle.logic_source.specs.Names.{kinds_named, meant_in}
use Rattle.logic_source.specs.Blocks.{AreBelow, HasItsTypes, Declares, DeclaresThere}
use Rattle.logic_source.specs.Worlds as worlds
use Rattle.plant_types.specs.Values.{Path}
use Rattle.logic_source.specs.Worlds.{World, words_of, path_in, routine_space, no_calls, begun, block_begun, instances_begun, begin_rule, routine_begun, programs_begun}
use Rattle.logic_source.specs.Layout.{ClockAt, own_values, block_values, instance_values, values_rule, routine_values, block_clocks, instance_clocks, clocks_rule, routine_clocks, cell_paths, all_clocks, IsDistinctlyNamed}
use Rattle.logic_source.specs.Seats.{StandsFrom, value_count, clock_count}
use Rattle.logic_source.proofs.Levels.{by_its_rule}
use Rattle.logic_source.proofs.Layouts.{all_at}
use Rattle.logic_source.proofs.Agreeing.{values_ask, clocks_ask, begins_ask, among_at}
use Rattle.logic_source.proofs.Seats.{named_value_stands, stands_left, stands_right, stands_moved, own_count, block_length, routine_length, block_clocks_length, routine_clocks_length, program_stands, program_clocks_stand}
use Rattle.logic_cells.specs.Cells.{PlainCells}
use Rattle.logic_walk.specs.declared.frame.Seat.{Seat}
use Rattle.logic_walk.specs.declared.frame.Base.{Base}
use Rattle.logic_walk.specs.declared.frame.Frame.{Frame}
use Rattle.logic_walk.specs.Starts.{left_by, start_space, seat_begun, seats_begun, frame_begun}
use Rattle.logic_walk.specs.Walks.{slot_of, base_of, under, frame_space, run_within}
use Rattle.logic_walk.proofs.Beginning.{begun_is}
use Rattle.logic_walk.proofs.Moved.{body_moved}
use Rattle.logic_frames.specs.Numbers.{variable_number, numbers, variables_in, HasItsNames, HasAllNames}
use Rattle.logic_frames.specs.Reached.{flagged}
use Rattle.logic_frames.specs.Frames.{place_in, seated, AreSeats, IsFrame, framed, IsFrames, program_base}
use Rattle.logic_frames.specs.Stands.{StandFor}
use Rattle.logic_frames.specs.Opening.{programs_started}
use Rattle.logic_frames.proofs.Namings.{meant_known}
use Rattle.logic_frames.proofs.Cells.{value_held, value_put}
use Rattle.logic_frames.proofs.Flags.{declared_asks}
use Rattle.logic_frames.proofs.Places.{placed, placed_there, place_is}
use Rattle.logic_frames.proofs.Found.{slot_is}
use Rattle.logic_frames.proofs.Spaces.{Matches}
use Rattle.logic_frames.proofs.Runs.{element}

-- what a frame's initial values leave, at each base where a routine's values and standard blocks stand, stands for what those of the routine leave
abbrev pub Begins : Source → (Path → World → World) → (Base → PlainCells → PlainCells) → (Path → List Path) → (Path → List ClockAt) → Type 0
Begins source f g values clocks =
    (path : Path) (base : Base) → StandsFrom (cell_paths source) base.values (values (words_of path)) → StandsFrom (all_clocks source) base.clocks (clocks (words_of path))
    → (w : World) (cells : PlainCells) → StandFor source cells w → StandFor source (g base cells) (f path w)

-- runs that agree leave cells that stand for a world
left_stands : (source : Source) (r : Ran World) (q : Ran PlainCells) → Agree (Matches source) r q → StandFor source (left_by q) (worlds.left_by r)
left_stands source (Done w) (Done cells) agree = agree
left_stands source (Done w) (Trapped cells spot trap) agree = absurd agree
left_stands source (Trapped w spot trap) (Done cells) agree = absurd agree
left_stands source (Trapped w spot trap) (Trapped cells other_spot other_trap) agree = agree.0

-- the path of a run makes no difference to what it leaves
left_under : (path : Path) (q : Ran PlainCells) → left_by (under path q) ≡ left_by q
left_under path (Done cells) = refl
left_under path (Trapped cells spot trap) = refl

module _ (source : Source) (order : List ℕ) (below : AreBelow source.blocks order) (named : IsDistinctlyNamed source) where
  abbrev values_of : ℕ → Path → List Path
  values_of = routine_values source.blocks

  abbrev clocks_of : ℕ → Path → List ClockAt
  clocks_of = routine_clocks source.blocks

  module _ (r : PlainRoutine) (path : Path) (base : Base) (values : StandsFrom (cell_paths source) base.values (values_rule (routine_values source.blocks) r (words_of path))) where
    abbrev inner : ℕ → Base → Path → PlainCells → Ran PlainCells
    inner k at below_it cells = under below_it (run_within 0 (global_cells source) [] 0 k at cells)

    variable_at : (name : List ℕ) → is_some (variable_number source r name) ≡ true → slice_get (cell_paths source) (slot_of (global_cells source) base (unwrap_or (variable_number source r name) 0)) ≡ Some (path_in r path name)
    variable_at name there =
        named_value_stands source r path base.values name (slot_of (global_cells source) base (unwrap_or (variable_number source r name) 0)) values (slot_is source r base name there)

    starts_lawful : IsLawfulForAny (variables_in source r) (numbers source r) (routine_space 0 no_calls r path) (frame_space 0 (global_cells source) inner [] base path) (Matches source)
    starts_lawful = record {
      path_is = refl;
      variable_is = λ v w cells is m. sym (value_held source cells w m (slot_of (global_cells source) base (unwrap_or (variable_number source r v) 0)) (path_in r path v) (variable_at v is));
      put_matches = λ v x w cells is m. value_put source cells w m named (slot_of (global_cells source) base (unwrap_or (variable_number source r v) 0)) (path_in r path v) x (variable_at v is);
      element_is = λ v bounds i w cells is within m. absurd (cc);
      put_at_matches = λ v bounds i x w cells is within m. absurd (cc);
      output_is = λ instance name w cells is m. absurd (cc);
      put_input_matches = λ instance name x w cells is m. absurd (cc);
      enter_agrees = λ instance w cells is m. absurd (cc);
      node_is = λ e w cells m. refl;
    }

    -- the initial values of a routine's own variables
    own_begun : (frame : Frame) → IsFrame source order r frame → HasItsNames source r → (w : World) (cells : PlainCells) → StandFor source cells w
        → StandFor source (left_by (run_all (start_space (global_cells source) base) (view_body frame.starts.items) cells)) (begun source r path w)
    own_begun frame it names w cells stands =
        let body = mapped_body (numbers source r) (meant_in source r r.starts) in
        let from = routine_space 0 no_calls r path in
        let to = frame_space 0 (global_cells source) inner [] base path in
        let known = variables_in source r in
        let same = body_same known (numbers source r) from to (Matches source) starts_lawful (meant_in source r r.starts)
        (meant_known known (kinds_named source r) (λ v bounds. false) (λ v bounds. refl) r.starts ∙ names.in_starts) w cells stands in
        let moved = body_moved 0 (global_cells source) inner (run_within 0 (global_cells source) [] 0) (λ k at below_it c. refl) [] base path body cells in
        let left : left_by (run_all to body cells) ≡ left_by (run_all (start_space (global_cells source) base) (view_body frame.starts.items) cells) =
        ap left_by moved ∙ left_under path (run_all (start_space (global_cells source) base) body cells)
        ∙ ap (λ b. left_by (run_all (start_space (global_cells source) base) b cells)) (sym it.starts_are) in
        subst (λ c. StandFor source c (begun source r path w)) left (left_stands source (run_all from (meant_in source r r.starts) w) (run_all to body cells) same)

  -- the instances in turn
  module _ (f : ℕ → Path → World → World) (g : ℕ → Base → PlainCells → PlainCells) (path : Path) (base : Base) where
    block_starts : (b : BlockRef) (p : Path) (seat : Seat) → ((n : ℕ) → b ≡ Declared n → Begins source (f n) (g (place_in order n)) (values_of n) (clocks_of n))
        → StandsFrom (cell_paths source) (base.values + seat.values) (block_values values_of b (words_of p)) → StandsFrom (all_clocks source) (base.clocks + seat.clocks) (block_clocks clocks_of b (words_of p))
        → (w : World) (cells : PlainCells) → StandFor source cells w → StandFor source (seat_begun g (seated order b) base seat cells) (block_begun f p b w)
    block_starts Ton p seat callees values clocks w cells stands = stands
    block_starts Tof p seat callees values clocks w cells stands = stands
    block_starts RTrig p seat callees values clocks w cells stands = stands
    block_starts (Declared n) p seat callees values clocks w cells stands = callees n refl p (base_of base seat) values clocks w cells stands

    instances_start : (r : PlainRoutine) (is : List Instance) (seats : List Seat) (v c : ℕ) → AreSeats source.blocks r order v c is seats
        → ((i : Instance) (n : ℕ) → Among is i → i.of ≡ Declared n → Begins source (f n) (g (place_in order n)) (values_of n) (clocks_of n))
        → StandsFrom (cell_paths source) (base.values + v) (instance_values values_of is (words_of path)) → StandsFrom (all_clocks source) (base.clocks + c) (instance_clocks clocks_of is (words_of path))
        → (w : World) (cells : PlainCells) → StandFor source cells w → StandFor source (seats_begun g seats base cells) (instances_begun f path is w)
    instances_start r [] [] v c are callees values clocks w cells stands = stands
    instances_start r [] (seat ∷ seats) v c are callees values clocks w cells stands = absurd are
    instances_start r (i ∷ is) [] v c are callees values clocks w cells stands = absurd are
    instances_start r (i ∷ is) (seat ∷ seats) v c are callees values clocks w cells stands =
        let p = words_of (i.name ∷ path) in
        let first_values = block_values values_of i.of p in
        let rest_values = instance_values values_of is (words_of path) in
        let first_clocks = block_clocks clocks_of i.of p in
        let rest_clocks = instance_clocks clocks_of is (words_of path) in
        let it = are.0 in
        let many = block_length values_of (routine_length source.blocks) i.of p [] in
        let number = block_clocks_length clocks_of (routine_clocks_length source.blocks) i.of p [] in
        let one : StandFor source (seat_begun g seat.of base seat cells) (block_begun f (i.name ∷ path) i.of w) =
        subst (λ o. StandFor source (seat_begun g o base seat cells) (block_begun f (i.name ∷ path) i.of w)) (sym it.of_is)
        (block_starts i.of (i.name ∷ path) seat (λ n of_is. callees i n (inl refl) of_is)
        (stands_moved (cell_paths source) (base.values + v) (base.values + seat.values) first_values (ap (λ n. base.values + n) (sym it.values_is)) (stands_left (cell_paths source) (base.values + v) first_values rest_values values))
        (stands_moved (all_clocks source) (base.clocks + c) (base.clocks + seat.clocks) first_clocks (ap (λ n. base.clocks + n) (sym it.clocks_is)) (stands_left (all_clocks source) (base.clocks + c) first_clocks rest_clocks clocks))
        w cells stands) in
        instances_start r is seats (v + value_count source.blocks i.of) (c + clock_count source.blocks i.of) are.1 (λ j n here of_is. callees j n (inr here) of_is)
        (stands_right (cell_paths source) (base.values + v) (base.values + (v + value_count source.blocks i.of)) first_values rest_values (omega (arith, many)) values)
        (stands_right (all_clocks source) (base.clocks + c) (base.clocks + (c + clock_count source.blocks i.of)) first_clocks rest_clocks (omega (arith, number)) clocks)
        (block_begun f (i.name ∷ path) i.of w) (seat_begun g seat.of base seat cells) one

  -- what a frame begins with, where what the frames that it calls begin with is given
  abbrev start_rule : (ℕ → Base → PlainCells → PlainCells) → Frame → Base → PlainCells → PlainCells
  start_rule g frame base cells = seats_begun g frame.seats.items base (left_by (run_all (start_space (global_cells source) base) (view_body frame.starts.items) cells))

  pub routine_starts : (r : PlainRoutine) (frame : Frame) (f : ℕ → Path → World → World) (g : ℕ → Base → PlainCells → PlainCells) → IsFrame source order r frame → HasItsNames source r
      → ((n : ℕ) → Declares r n → Begins source (f n) (g (place_in order n)) (values_of n) (clocks_of n)) → Begins source (begin_rule source f r) (start_rule g frame) (values_rule values_of r) (clocks_rule clocks_of r)
  routine_starts r frame f g it names callees path base values clocks w cells stands =
      let many = own_count r (words_of path) in
      instances_start f g path base r r.instances frame.seats.items (own_cells r) 0 it.seats_are (λ i n here of_is. callees n (i, here, of_is))
      (stands_right (cell_paths source) base.values (base.values + own_cells r) (own_values r (words_of path)) (instance_values values_of r.instances (words_of path)) (omega (arith, many)) values)
      (stands_moved (all_clocks source) base.clocks (base.clocks + 0) (instance_clocks clocks_of r.instances (words_of path)) (omega arith) clocks)
      (begun source r path w) (left_by (run_all (start_space (global_cells source) base) (view_body frame.starts.items) cells)) (own_begun r path base values frame it names w cells stands)

  -- the frame of a routine without its body begins as the routine does
  framed_starts : (b : Bool) (r : PlainRoutine) (frame : Frame) (f : ℕ → Path → World → World) (g : ℕ → Base → PlainCells → PlainCells) → IsFrame source order (framed b r) frame → HasItsNames source r
      → ((n : ℕ) → Declares r n → Begins source (f n) (g (place_in order n)) (values_of n) (clocks_of n)) → Begins source (begin_rule source f r) (start_rule g frame) (values_rule values_of r) (clocks_rule clocks_of r)
  framed_starts true r frame f g it names callees = routine_starts r frame f g it names callees
  framed_starts false r frame f g it names callees = routine_starts (framed false r) frame f g it (record { in_body = refl; in_starts = names.in_starts }) callees

  module _ (frames : List Frame) (are : IsFrames source order frames) (types : HasItsTypes source) (names : HasAllNames source) where
    abbrev start : ℕ → ℕ → Base → PlainCells → PlainCells
    start limit k = frame_begun (global_cells source) frames limit k

    abbrev BlockBegins : (limit k n : ℕ) → Type 0
    BlockBegins limit k n = Begins source (routine_begun source n) (start limit k) (values_of n) (clocks_of n)

    frame_there : (k : ℕ) → k < length order + length source.programs → (frame : Frame) × (slice_get frames k ≡ Some frame)
    frame_there k less = let many = are.whole in element frames k (omega (arith, less, many))

    unfolded : (limit k : ℕ) (frame : Frame) → k < limit → slice_get frames k ≡ Some frame → start limit k ≡ start_rule (start k) frame
    unfolded limit k frame less at = λ j base cells. begun_is (global_cells source) frames limit k base cells frame less at j

    block_known : (limit k n : ℕ) (r : PlainRoutine) (frame : Frame) → k < limit → slice_get source.blocks n ≡ Some r → slice_get frames k ≡ Some frame
        → Begins source (begin_rule source (routine_begun source) r) (start_rule (start k) frame) (values_rule values_of r) (clocks_rule clocks_of r) → BlockBegins limit k n
    block_known limit k n r frame less at there begins =
        let begin = by_its_rule (λ path w. w) (begin_rule source) source.blocks order below (begins_ask source) n r at in
        let values = by_its_rule (λ path. []) values_rule source.blocks order below values_ask n r at in
        let clocks = by_its_rule (λ path. []) clocks_rule source.blocks order below clocks_ask n r at in
        let opened = unfolded limit k frame less there in
        subst (λ f. Begins source f (start limit k) (values_of n) (clocks_of n)) (sym begin)
        (subst (λ g. Begins source (begin_rule source (routine_begun source) r) g (values_of n) (clocks_of n)) (sym opened)
        (subst (λ v. Begins source (begin_rule source (routine_begun source) r) (start_rule (start k) frame) v (clocks_of n)) (sym values)
        (subst (λ c. Begins source (begin_rule source (routine_begun source) r) (start_rule (start k) frame) (values_rule values_of r) c) (sym clocks) begins)))

    -- the frame of each block type begins as the block type does
    block_begins : (depth limit k n : ℕ) → k < depth → k < limit → slice_get order k ≡ Some n → flagged are.used n ≡ true → BlockBegins limit k n
    block_begins zero limit k n deep less at used = absurd (omega (arith, deep))
    block_begins (suc d) limit k n deep less at used =
        let within = slice_get_within order k n at in
        let r = element source.blocks n (below.within n (among_at order k n at)) in
        let frame = frame_there k (omega (arith, within)) in
        let there = all_at (DeclaresThere source.blocks) source.blocks n r.0 types.in_blocks r.1 in
        block_known limit k n r.0 frame.0 less r.1 frame.1
        (framed_starts (flagged are.run n) r.0 frame.0 (routine_begun source) (start k) (are.of_blocks k n r.0 frame.0 at r.1 frame.1 used) (all_at (HasItsNames source) source.blocks n r.0 names.in_blocks r.1)
        (λ b declares.
        let p = placed order k b (below.after k n b r.0 at r.1 declares (there b declares)) in
        let before = p.below in
        subst (λ j. BlockBegins k j b) (sym (place_is order k b p)) (block_begins d k p.j b (omega (arith, deep, before)) before p.at (are.are_used.by_blocks n b r.0 r.1 used (declared_asks r.0 b declares)))))

    -- the frame of each program begins as the program does
    program_begins : (n : ℕ) (p : PlainRoutine) → slice_get source.programs n ≡ Some p
        → Begins source (begin_rule source (routine_begun source) p) (start (length frames) (length order + n)) (values_rule values_of p) (clocks_rule clocks_of p)
    program_begins n p at =
        let within = slice_get_within source.programs n p at in
        let k = length order + n in
        let frame = frame_there k (omega (arith, within)) in
        let there = all_at (DeclaresThere source.blocks) source.programs n p types.in_programs at in
        let less = slice_get_within frames k frame.0 frame.1 in
        subst (λ g. Begins source (begin_rule source (routine_begun source) p) g (values_rule values_of p) (clocks_rule clocks_of p)) (sym (unfolded (length frames) k frame.0 less frame.1))
        (routine_starts p frame.0 (routine_begun source) (start k) (are.of_programs n p frame.0 at frame.1) (all_at (HasItsNames source) source.programs n p names.in_programs at)
        (λ b declares.
        let q = placed_there order b (below.whole b (there b declares)) in
        let short = q.within in
        subst (λ j. BlockBegins k j b) (sym (place_is order (length order) b q)) (block_begins (suc q.j) k q.j b (omega arith) (omega (arith, short)) q.at (are.are_used.by_programs n b p at (declared_asks p b declares)))))

    -- the programs in turn
    pub programs_begin : (ps : List PlainRoutine) (n : ℕ) → ((j : ℕ) (p : PlainRoutine) → slice_get ps j ≡ Some p → slice_get source.programs (n + j) ≡ Some p) → (w : World) (cells : PlainCells) → StandFor source cells w
        → StandFor source (programs_started source order frames (length ps) n cells) (programs_begun source ps w)
    programs_begin [] n at w cells stands = stands
    programs_begin (p ∷ ps) n at w cells stands =
        let here : slice_get source.programs n ≡ Some p = ap (slice_get source.programs) (let same : n ≡ n + 0 = omega arith in same) ∙ at 0 p refl in
        programs_begin ps (n + 1) (λ j q is. ap (slice_get source.programs) (let same : n + 1 + j ≡ n + suc j = omega arith in same) ∙ at (suc j) q is)
        (begin_rule source (routine_begun source) p (p.name ∷ []) w) (start (length frames) (length order + n) (program_base source n) cells)
        (program_begins n p here (p.name ∷ []) (program_base source n) (program_stands source n p here) (program_clocks_stand source n p here) w cells stands)
