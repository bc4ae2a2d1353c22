-- What the numbers of a routine's frame mean in cells is what the names mean in worlds.
use Rattle.std.proofs.Common.{◌≡◌, ◌∙◌, ap, sym, subst, refl, arith, ℕ, ℤ, pos, ◌+◌, Bool, true, false, List, ◌∷◌, Some, None, slice_get}
use Rattle.std.specs.Prelude.{if◌then◌else◌, is_some, option_and_then, unwrap_or, codes}
use Rattle.std.proofs.lemmas.Bool.{and_parts}
use Rattle.plant_types.specs.Words.{folded, same_word}
use Rattle.plant_types.specs.declared.values.Bounds.{Bounds}
use Rattle.plant_types.specs.Values.{truth, is_true, has_index, row_place, Path}
use Rattle.std_blocks.specs.Calls.{call}
use Rattle.std_blocks.specs.Timers.{ton, tof}
use Rattle.st_tree.specs.Meaning.{Ran}
use Rattle.st_tree.specs.Alike.{Agree, Same}
use Rattle.st_tree.proofs.AnyValueLaws.{IsLawfulForAny}
use Rattle.st_blocks.specs.Chains.{Among}
use Rattle.logic_source.specs.declared.logic.Instance.{Instance}
use Rattle.logic_source.specs.declared.logic.BlockRef.{BlockRef}
use Rattle.logic_source.specs.declared.logic.BlockRef.TheVariants.{Ton, Tof, RTrig, Declared}
use Rattle.logic_source.specs.Source.{PlainRoutine, Source, own_cells, global_cells}
use Rattle.logic_source.specs.Names.{block_named, instance_named, same_bounds, bounds_named}
use Rattle.logic_source.proofs.Fitting.{bounds_are}
use Rattle.logic_source.specs.Blocks.{AreBelow}
use Rattle.logic_source.specs.Paths.{is_called}
use Rattle.logic_source.specs.Worlds as worlds
use Rattle.logic_source.specs.Worlds.{World, words_of, path_in, element_path, assign, with_call, timer_output, timer_call, trigger_call, in_word, pt_word, clk_word, routine_space, called_named}
use Rattle.logic_source.specs.Layout.{ClockAt, block_values, values_rule, routine_values, block_clocks, clocks_rule, routine_clocks, cell_paths, all_clocks, IsDistinctlyNamed}
use Rattle.logic_source.specs.Seats.{StandsFrom, member_number, is_of_standard, value_offset, clock_offset}
use Rattle.logic_source.proofs.Agreeing.{named_among}
use Rattle.logic_source.proofs.Seats.{named_value_stands, element_stands, instance_stands, instance_clocks_stand, stands_moved}
use Rattle.logic_source.proofs.Members.{member_at, clock_at}
use Rattle.logic_cells.specs.declared.clock.Standard.TheVariants as standard
use Rattle.logic_cells.specs.declared.clock.Clock.{Clock}
use Rattle.logic_cells.specs.Clocks.{clock_of, shown_by}
use Rattle.logic_cells.specs.Cells.{PlainCells, value_at, assigned, clocked}
use Rattle.logic_walk.specs.declared.frame.Seat.{Seat}
use Rattle.logic_walk.specs.declared.frame.Base.{Base}
use Rattle.logic_walk.specs.Walks as walks
use Rattle.logic_walk.specs.Walks.{slot_of, member_slot, base_of, output_by, with_input, called_by, frame_space}
use Rattle.logic_frames.specs.Numbers.{variable_number, array_number, instance_number, input_number, shown_number, output_number, numbers}
use Rattle.logic_frames.specs.Reached.{AsksFor}
use Rattle.logic_frames.specs.Frames.{place_in, seated, AreSeats}
use Rattle.logic_frames.specs.Stands.{standard_of, StandFor}
use Rattle.logic_frames.proofs.Cells.{value_held, value_put, clock_held, clock_put}
use Rattle.logic_frames.proofs.Places.{seat_found}
use Rattle.logic_frames.proofs.Callings.{meant_names, called_alike}
use Rattle.logic_frames.proofs.Found.{slot_is, row_slot_is, Found, found, of_member, block_found, there_is}

-- cells stand for a world
abbrev pub Matches : Source → World → PlainCells → Type 0
Matches source w cells = StandFor source cells w

-- what a frame does at each base where a routine's values and standard blocks stand is what the routine does
abbrev pub Does : Source → (Path → World → Ran World) → (Base → Path → PlainCells → Ran PlainCells) → (Path → List Path) → (Path → List ClockAt) → Type 0
Does source f g values clocks =
    (path : Path) (base : Base) → StandsFrom (cell_paths source) base.values (values (words_of path)) → StandsFrom (all_clocks source) base.clocks (clocks (words_of path)) → Same (Matches source) (f path) (g base path)

-- the outputs of standard blocks
shown_timer : (q : Bool) (et : ℤ) (clock : Clock) (name : List ℕ) (m : ℕ) (a b : Bool) → clock.q ≡ q → clock.et ≡ et → same_word name (codes "ET") ≡ a → same_word name (codes "Q") ≡ b
    → (if a then Some 1 else if b then Some 0 else None) ≡ Some m → timer_output (q, et) name ≡ shown_by (Some clock) m
shown_timer q et clock name m true b first second is_et is_q numbered =
    let one_is : 1 ≡ m = cc in
    rw is_et (sym second) ∙ ap (shown_by (Some clock)) one_is
shown_timer q et clock name m false true first second is_et is_q numbered =
    let zero_is : 0 ≡ m = cc in
    rw is_et (ap truth (sym first)) ∙ ap (shown_by (Some clock)) zero_is
shown_timer q et clock name m false false first second is_et is_q numbered = absurd (cc)

shown_trigger : (q : Bool) (clock : Clock) (m : ℕ) (a : Bool) → clock.q ≡ q → (if a then Some 0 else None) ≡ Some m → truth q ≡ shown_by (Some clock) m
shown_trigger q clock m true first numbered = let zero_is : 0 ≡ m = cc in ap truth (sym first) ∙ ap (shown_by (Some clock)) zero_is
shown_trigger q clock m false first numbered = absurd (cc)

module _ (source : Source) (order : List ℕ) (below : AreBelow source.blocks order) (named : IsDistinctlyNamed source) (r : PlainRoutine) (seats : List Seat) (are : AreSeats source.blocks r order (own_cells r) 0 r.instances seats)
    (path : Path) (base : Base) (values : StandsFrom (cell_paths source) base.values (values_rule (routine_values source.blocks) r (words_of path)))
    (clocks : StandsFrom (all_clocks source) base.clocks (clocks_rule (routine_clocks source.blocks) r (words_of path))) where
  -- a seat at which an instance's values and standard blocks stand, by its path in small letters
  record Sits (seat : Seat) (b : BlockRef) (p : Path) : Type 0 where
    of_is : seat.of ≡ seated order b
    values_stand : StandsFrom (cell_paths source) (base.values + seat.values) (block_values (routine_values source.blocks) b p)
    clocks_stand : StandsFrom (all_clocks source) (base.clocks + seat.clocks) (block_clocks (routine_clocks source.blocks) b p)

  seated_at : (name : List ℕ) (k : ℕ) (i : Instance) → Found r name k i → (seat : Seat) × (slice_get seats k ≡ Some seat) × (seat.name ≡ i.name) × Sits seat i.of (words_of (i.name ∷ path)) × (seat.is_called ≡ is_called r i.name)
  seated_at name k i f =
      let s = seat_found source.blocks r order r.instances seats (own_cells r) 0 k i are f.at in
      let it = s.2 in
      let first = it.values_is in
      let second = it.clocks_is in (
        s.0,
        s.1,
        it.name_is,
        record {
          of_is = it.of_is;
          values_stand = stands_moved (cell_paths source) (base.values + value_offset source.blocks r k) (base.values + s.0.values) (block_values (routine_values source.blocks) i.of (words_of (i.name ∷ path))) (ap (λ n. base.values + n) (sym first))
              (instance_stands source.blocks (cell_paths source) r (words_of path) base.values k i values f.at);
          clocks_stand = stands_moved (all_clocks source) (base.clocks + clock_offset source.blocks r k) (base.clocks + s.0.clocks) (block_clocks (routine_clocks source.blocks) i.of (words_of (i.name ∷ path))) (omega (arith, second))
              (instance_clocks_stand source.blocks (all_clocks source) r.instances (words_of path) base.clocks k i clocks f.at);
        },
        it.called_is,
      )

  -- the same by the path of the name that finds the instance
  sits_named : (name : List ℕ) (k : ℕ) (i : Instance) → Found r name k i → (seat : Seat) → Sits seat i.of (words_of (i.name ∷ path)) → Sits seat i.of (words_of (name ∷ path))
  sits_named name k i f seat sits = subst (λ w. Sits seat i.of (w ∷ words_of path)) f.word sits

  seat_is : (name : List ℕ) (k : ℕ) (i : Instance) → Found r name k i → (seat : Seat) → slice_get seats k ≡ Some seat → slice_get seats (unwrap_or (instance_number r name) 0) ≡ Some seat
  seat_is name k i f seat at = ap (λ o. slice_get seats (unwrap_or o 0)) f.number ∙ at

  module _ (w : World) (cells : PlainCells) (stands : StandFor source cells w) where
    variable_at : (name : List ℕ) → is_some (variable_number source r name) ≡ true → slice_get (cell_paths source) (slot_of (global_cells source) base (unwrap_or (variable_number source r name) 0)) ≡ Some (path_in r path name)
    variable_at name there =
        named_value_stands source r path base.values name (slot_of (global_cells source) base (unwrap_or (variable_number source r name) 0)) values (slot_is source r base name there)

    -- an element of an array with its declared bounds
    element_found : (name : List ℕ) (bounds : Bounds) (i : ℤ) → (meant_names source r).has_array name bounds ≡ true → has_index bounds i ≡ true
        → slice_get (cell_paths source) (row_place (slot_of (global_cells source) base (unwrap_or (array_number source r name) 0)) bounds i) ≡ Some (element_path r path name i)
    element_found name bounds i is within =
        let parts = and_parts (is_some (array_number source r name)) (same_bounds bounds (bounds_named source r name)) is in
        let same = bounds_are bounds (bounds_named source r name) parts.1 in
        let slot = slot_of (global_cells source) base (unwrap_or (array_number source r name) 0) in
        ap (λ b. slice_get (cell_paths source) (row_place slot b i)) same
        ∙ element_stands source r path base.values name i values slot (row_slot_is source r base name parts.0) (ap (λ b. has_index b i) (sym same) ∙ within)

    module _ (seat : Seat) (p : Path) where
      clock_sits : (b : BlockRef) → is_of_standard b ≡ true → Sits seat b p → slice_get (all_clocks source) (base.clocks + seat.clocks) ≡ Some (record { of = b; path = p })
      clock_sits b is sits = clock_at source.blocks (all_clocks source) (base.clocks + seat.clocks) p b is sits.clocks_stand

      clock_shown : (b : BlockRef) → is_of_standard b ≡ true → Sits seat b p → slice_get cells.clocks (base.clocks + seat.clocks) ≡ Some (clock_of (standard_of b) (w.calls p))
      clock_shown b is sits = clock_held source cells w stands (base.clocks + seat.clocks) (record { of = b; path = p }) (clock_sits b is sits)

      -- an output
      output_same : (b : BlockRef) → Sits seat b p → (name : List ℕ) (m : ℕ) → shown_number source b name ≡ Some m → worlds.output_at w p (Some b) name ≡ output_by (seated order b) base seat cells m
      output_same Ton sits name m numbered =
          shown_timer (ton (w.calls p)).0 (ton (w.calls p)).1 (clock_of standard.Ton (w.calls p)) name m (same_word name (codes "ET")) (same_word name (codes "Q")) refl refl refl refl numbered
          ∙ ap (λ o. shown_by o m) (sym (clock_shown Ton refl sits))
      output_same Tof sits name m numbered =
          shown_timer (tof (w.calls p)).0 (tof (w.calls p)).1 (clock_of standard.Tof (w.calls p)) name m (same_word name (codes "ET")) (same_word name (codes "Q")) refl refl refl refl numbered
          ∙ ap (λ o. shown_by o m) (sym (clock_shown Tof refl sits))
      output_same RTrig sits name m numbered =
          shown_trigger (clock_of standard.RTrig (w.calls p)).q (clock_of standard.RTrig (w.calls p)) m (same_word name (codes "Q")) refl numbered
          ∙ ap (λ o. shown_by o m) (sym (clock_shown RTrig refl sits))
      output_same (Declared n) sits name m numbered =
          sym (value_held source cells w stands (member_slot base seat m) (folded name ∷ p) (member_at (cell_paths source) (base.values + seat.values) p name m source.blocks order below (Declared n) sits.values_stand numbered))

      -- an input that is assigned
      input_put : (b : BlockRef) → Sits seat b p → (name : List ℕ) (m : ℕ) (x : ℤ) → member_number source.blocks b name ≡ Some m → StandFor source (assigned cells (member_slot base seat m) x) (assign w (folded name ∷ p) x)
      input_put b sits name m x numbered =
          value_put source cells w stands named (member_slot base seat m) (folded name ∷ p) x (member_at (cell_paths source) (base.values + seat.values) p name m source.blocks order below b sits.values_stand numbered)

      -- a standard block that is called
      input_held : (b : BlockRef) → Sits seat b p → (m : ℕ) (q : Path) → slice_get (block_values (routine_values source.blocks) b p) m ≡ Some q → value_at cells (member_slot base seat m) ≡ w.values q
      input_held b sits m q at = value_held source cells w stands (member_slot base seat m) q (sits.values_stand m q at)

      timer_called : (t : ℕ) (b : BlockRef) → is_of_standard b ≡ true → Sits seat b p → (x y : ℤ) → x ≡ w.values (in_word ∷ p) → y ≡ w.values (pt_word ∷ p)
          → StandFor source (clocked cells (base.clocks + seat.clocks) (call (is_true x) y t)) (with_call w p (timer_call t w p))
      timer_called t b is sits x y first second =
          subst (λ c. StandFor source (clocked cells (base.clocks + seat.clocks) c) (with_call w p (timer_call t w p))) (λ j. call (is_true (sym first j)) (sym second j) t)
          (clock_put source cells w stands named (base.clocks + seat.clocks) (record { of = b; path = p }) (timer_call t w p) (clock_sits b is sits))

      trigger_called : (t : ℕ) → Sits seat RTrig p → (x : ℤ) → x ≡ w.values (clk_word ∷ p) → StandFor source (clocked cells (base.clocks + seat.clocks) (call (is_true x) (pos 0) t)) (with_call w p (trigger_call t w p))
      trigger_called t sits x first =
          subst (λ c. StandFor source (clocked cells (base.clocks + seat.clocks) c) (with_call w p (trigger_call t w p))) (λ j. call (is_true (sym first j)) (pos 0) t)
          (clock_put source cells w stands named (base.clocks + seat.clocks) (record { of = RTrig; path = p }) (trigger_call t w p) (clock_sits RTrig refl sits))

  module _ (t : ℕ) (inner : ℕ → Path → World → Ran World) (frame : ℕ → Base → Path → PlainCells → Ran PlainCells)
      (callees : (n : ℕ) → AsksFor true r n → Does source (inner n) (frame (place_in order n)) (routine_values source.blocks n) (routine_clocks source.blocks n)) where
    -- an instance that is called
    called_same : (i : Instance) (seat : Seat) (w : World) (cells : PlainCells) → StandFor source cells w → Among r.instances i → is_called r i.name ≡ true → seat.is_called ≡ true → seat.name ≡ i.name → (b : BlockRef) → i.of ≡ b → Sits seat b (words_of (i.name ∷ path))
        → Agree (Matches source) (worlds.called t inner path w i.name b) (called_by t frame (seated order b) base seat path cells)
    called_same i seat w cells stands here is marked name_is Ton of_is sits =
        let p = words_of (i.name ∷ path) in
        timer_called w cells stands seat p t Ton refl sits (value_at cells (member_slot base seat 0)) (value_at cells (member_slot base seat 1))
        (input_held w cells stands seat p Ton sits 0 (in_word ∷ p) refl) (input_held w cells stands seat p Ton sits 1 (pt_word ∷ p) refl)
    called_same i seat w cells stands here is marked name_is Tof of_is sits =
        let p = words_of (i.name ∷ path) in
        timer_called w cells stands seat p t Tof refl sits (value_at cells (member_slot base seat 0)) (value_at cells (member_slot base seat 1))
        (input_held w cells stands seat p Tof sits 0 (in_word ∷ p) refl) (input_held w cells stands seat p Tof sits 1 (pt_word ∷ p) refl)
    called_same i seat w cells stands here is marked name_is RTrig of_is sits =
        let p = words_of (i.name ∷ path) in
        trigger_called w cells stands seat p t sits (value_at cells (member_slot base seat 0)) (input_held w cells stands seat p RTrig sits 0 (clk_word ∷ p) refl)
    called_same i seat w cells stands here is marked name_is (Declared n) of_is sits =
        rw marked (subst (λ name. Agree (Matches source) (inner n (i.name ∷ path) w) (frame (place_in order n) (base_of base seat) (name ∷ path) cells)) (sym name_is)
        (callees n (i, here, of_is, λ on. is) (i.name ∷ path) (base_of base seat) sits.values_stand sits.clocks_stand w cells stands))

    entered : (name : List ℕ) (w : World) (cells : PlainCells) → is_some (instance_number r name) ≡ true → is_called r name ≡ true → StandFor source cells w
        → Agree (Matches source) (called_named t inner path w (instance_named r name)) (walks.called t frame (slice_get seats (unwrap_or (instance_number r name) 0)) base path cells)
    entered name w cells there calls stands =
        let f = found r name there in
        let s = seated_at name f.0 f.1 f.2 in
        let is = called_alike r f.1.name name f.2.word calls in
        let same = called_same f.1 s.0 w cells stands (named_among r name f.1 f.2.named) is (s.4 ∙ is) s.2 f.1.of refl s.3 in
        let seat_at = seat_is name f.0 f.1 f.2 s.0 s.1 in
        let first : worlds.called t inner path w f.1.name f.1.of ≡ called_named t inner path w (instance_named r name) = ap (called_named t inner path w) (sym f.2.named) in
        let second : called_by t frame (seated order f.1.of) base s.0 path cells ≡ walks.called t frame (slice_get seats (unwrap_or (instance_number r name) 0)) base path cells =
        ap (λ o. called_by t frame o base s.0 path cells) (sym s.3.of_is) ∙ ap (λ o. walks.called t frame o base path cells) (sym seat_at) in
        subst (λ x. Agree (Matches source) x (walks.called t frame (slice_get seats (unwrap_or (instance_number r name) 0)) base path cells)) first
        (subst (λ y. Agree (Matches source) (worlds.called t inner path w f.1.name f.1.of) y) second same)

    shows : (instance name : List ℕ) (w : World) (cells : PlainCells) → is_some (output_number source r instance name) ≡ true → StandFor source cells w
        → worlds.output_at w (words_of (instance ∷ path)) (block_named r instance) name ≡ walks.output_at (slice_get seats (unwrap_or (instance_number r instance) 0)) base cells (unwrap_or (output_number source r instance name) 0)
    shows instance name w cells is stands =
        let f = found r instance (of_member (λ b. shown_number source b name) r instance is) in
        let s = seated_at instance f.0 f.1 f.2 in
        let m = unwrap_or (output_number source r instance name) 0 in
        let block = block_found r instance f.0 f.1 f.2 in
        let numbered : shown_number source f.1.of name ≡ Some m = sym (ap (option_and_then (λ b. shown_number source b name)) block) ∙ there_is (output_number source r instance name) is in
        let p = words_of (instance ∷ path) in
        let seat_at = seat_is instance f.0 f.1 f.2 s.0 s.1 in
        ap (λ o. worlds.output_at w p o name) block
        ∙ output_same w cells stands s.0 p f.1.of (sits_named instance f.0 f.1 f.2 s.0 s.3) name m numbered
        ∙ ap (λ o. output_by o base s.0 cells m) (sym s.3.of_is)
        ∙ ap (λ o. walks.output_at o base cells m) (sym seat_at)

    takes : (instance name : List ℕ) (x : ℤ) (w : World) (cells : PlainCells) → is_some (input_number source r instance name) ≡ true → StandFor source cells w
        → StandFor source (with_input (slice_get seats (unwrap_or (instance_number r instance) 0)) base cells (unwrap_or (input_number source r instance name) 0) x) (assign w (words_of (name ∷ instance ∷ path)) x)
    takes instance name x w cells is stands =
        let f = found r instance (of_member (λ b. member_number source.blocks b name) r instance is) in
        let s = seated_at instance f.0 f.1 f.2 in
        let m = unwrap_or (input_number source r instance name) 0 in
        let block = block_found r instance f.0 f.1 f.2 in
        let numbered : member_number source.blocks f.1.of name ≡ Some m = sym (ap (option_and_then (λ b. member_number source.blocks b name)) block) ∙ there_is (input_number source r instance name) is in
        let seat_at = seat_is instance f.0 f.1 f.2 s.0 s.1 in
        subst (λ o. StandFor source (with_input o base cells m x) (assign w (words_of (name ∷ instance ∷ path)) x)) (sym seat_at)
        (input_put w cells stands s.0 (words_of (instance ∷ path)) f.1.of (sits_named instance f.0 f.1 f.2 s.0 s.3) name m x numbered)

    -- numbers for names are lawful
    pub spaces_lawful : IsLawfulForAny (meant_names source r) (numbers source r) (routine_space t inner r path) (frame_space t (global_cells source) frame seats base path) (Matches source)
    spaces_lawful = record {
      path_is = refl;
      variable_is = λ v w cells is m. sym (value_held source cells w m (slot_of (global_cells source) base (unwrap_or (variable_number source r v) 0)) (path_in r path v) (variable_at w cells m v is));
      put_matches = λ v x w cells is m. value_put source cells w m named (slot_of (global_cells source) base (unwrap_or (variable_number source r v) 0)) (path_in r path v) x (variable_at w cells m v is);
      element_is = λ v bounds i w cells is within m.
          sym (value_held source cells w m (row_place (slot_of (global_cells source) base (unwrap_or (array_number source r v) 0)) bounds i) (element_path r path v i) (element_found w cells m v bounds i is within));
      put_at_matches = λ v bounds i x w cells is within m.
          value_put source cells w m named (row_place (slot_of (global_cells source) base (unwrap_or (array_number source r v) 0)) bounds i) (element_path r path v i) x (element_found w cells m v bounds i is within);
      output_is = λ instance name w cells is m. shows instance name w cells is m;
      put_input_matches = λ instance name x w cells is m. takes instance name x w cells is m;
      enter_agrees = λ instance w cells is m. let parts = and_parts (is_some (instance_number r instance)) (is_called r instance) is in entered instance w cells parts.0 parts.1 m;
      node_is = λ e w cells m. refl;
    }
