-- What a frame of a source names is there where the values and the standard blocks of its routine are.
use Rattle.std.proofs.Common.{◌≡◌, ◌∙◌, ap, sym, subst, refl, ℕ, zero, suc, ◌+◌, ◌-◌, ◌<◌, ◌≤◌, Bool, true, false, List, [], ◌∷◌, ◌++◌, length, take, pos, ◌+ℤ◌, Option, Some, None, slice_get, if◌then◌else◌, inl, inr, arith}
use Rattle.std.specs.Prelude.{◌&&◌, nat_lt, is_some, unwrap_or, option_map, option_and_then}
use Rattle.std.specs.List.{list_all, range_with_len}
use Rattle.std.specs.Option.{option_map_or}
use Rattle.std.specs.Str.{bytes_eq}
use Rattle.std.proofs.lemmas.Bool.{cases_lt, cases_Bool, lt-ltb}
use Rattle.std.proofs.lemmas.Bool.Decides.{nat_tests}
use Rattle.std.proofs.lemmas.List.{length-map}
use Rattle.std.proofs.lemmas.List.Quantifiers.{position-Some}
use Rattle.std.proofs.lemmas.Option.{slice_get_within}
use Rattle.plant_types.specs.declared.values.Bounds.{Bounds}
use Rattle.plant_types.specs.Values.{row_length, Path}
use Rattle.plant_types.specs.Words.{folded}
use Rattle.logic_source.specs.Scopes.{or_other}
use Rattle.st_tree.specs.Plain.{PlainBody, done}
use Rattle.st_tree.specs.View.{view_body}
use Rattle.st_tree.specs.Mapping.{mapped_body, body_known}
use Rattle.st_blocks.specs.Chains.{Among}
use Rattle.logic_source.specs.declared.logic.Variable.{Variable}
use Rattle.logic_source.specs.declared.logic.Row.{Row}
use Rattle.logic_source.specs.declared.logic.Instance.{Instance}
use Rattle.logic_source.specs.declared.logic.BlockRef.{BlockRef}
use Rattle.logic_source.specs.declared.logic.BlockRef.TheVariants.{Ton, Tof, RTrig, Declared}
use Rattle.logic_source.specs.Source.{PlainRoutine, Source, row_cells, own_cells, global_cells}
use Rattle.logic_source.specs.Names.{find_word, own_words, row_words, global_words, instance_words, bounds_named, kinds_named, meant_in}
use Rattle.logic_source.specs.Blocks.{AreBelow, HasItsTypes, DeclaresThere}
use Rattle.logic_source.specs.Worlds.{index_word, in_word, pt_word, clk_word}
use Rattle.logic_source.specs.Layout.{ClockAt, own_values, block_values, instance_values, values_rule, routine_values, block_clocks, instance_clocks, clocks_rule, routine_clocks}
use Rattle.logic_source.specs.Seats.{StandsFrom, value_count, clock_count, own_or_global, member_number, is_of_standard}
use Rattle.logic_source.proofs.Agreeing.{among_at, values_ask, clocks_ask}
use Rattle.logic_source.proofs.Layouts.{all_at}
use Rattle.logic_source.proofs.Levels.{by_its_rule}
use Rattle.logic_source.proofs.Members.{member_at, clock_at, instance_of_number}
use Rattle.logic_source.proofs.Seats.{variable_among, row_of_number, row_ends, own_row_numbered, stands_left, stands_right, stands_moved, own_count, own_at, block_length, routine_length, block_clocks_length, routine_clocks_length}
use Rattle.logic_walk.specs.declared.frame.Seat.{Seat}
use Rattle.logic_walk.specs.declared.frame.Base.{Base}
use Rattle.logic_walk.specs.declared.frame.Frame.{Frame}
use Rattle.logic_walk.specs.Walks.{slot_of, member_slot, base_of}
use Rattle.logic_walk.proofs.Firsts.{first_is, first_past}
use Rattle.logic_frames.specs.Numbers.{variable_number, array_number, shown_number, numbers, numbered_in, HasItsNames, HasAllNames}
use Rattle.logic_frames.specs.Reached.{flagged}
use Rattle.logic_frames.specs.Frames.{place_in, seated, AreSeats, IsFrame, framed, IsFrames}
use Rattle.vm_programs.specs.Within.{has_row, has_input, has_shown, has_output, has_called, has_instance, there, routine_there, frame_there}
use Rattle.vm_logic.proofs.Known.{both, meant_goes}
use Rattle.vm_logic.proofs.Costs.{element, place_at, place_within}

there_is : (o : Option ℕ) → is_some o ≡ true → o ≡ Some (unwrap_or o 0)
there_is None h = absurd (cc)
there_is (Some n) h = refl

where_called : (b x : Bool) → x ≡ true → (if b then x else true) ≡ true
where_called true x h = h
where_called false x h = refl

-- what holds of so many slots from one on
all_slots : (test : ℕ → Bool) (first n : ℕ) → ((j : ℕ) → j < n → test (first + j) ≡ true) → list_all test (range_with_len first n ++ []) ≡ true
all_slots test first zero each = refl
all_slots test first (suc n) each =
    let here : first + 0 ≡ first = omega arith in
    both (test first) (list_all test (range_with_len (first + 1) n ++ [])) (ap test (sym here) ∙ each 0 (omega arith))
    (all_slots test (first + 1) n (λ j less. let same : first + 1 + j ≡ first + suc j = omega arith in ap test same ∙ each (suc j) (omega (arith, less))))

-- where tests have the numbers that values and standard blocks have in two lists, and those of the globals
module _ (source : Source) (order : List ℕ) (below : AreBelow source.blocks order) (paths : List Path) (clocks : List ClockAt) (has_value has_clock : ℕ → Bool)
    (value_there : (n : ℕ) (word : List ℕ) (p : Path) → slice_get paths n ≡ Some (word ∷ p) → has_value n ≡ true)
    (clock_there : (n : ℕ) (b : BlockRef) (p : Path) → is_of_standard b ≡ true → slice_get clocks n ≡ Some (record { of = b; path = p }) → has_clock n ≡ true)
    (global_there : (j : ℕ) → j < global_cells source → has_value j ≡ true) where
  -- a seat at which the values and the standard blocks of an instance stand, by its path in small letters
  record Sits (base : Base) (seat : Seat) (b : BlockRef) (p : Path) : Type 0 where
    of_is : seat.of ≡ seated order b
    values_stand : StandsFrom paths (base.values + seat.values) (block_values (routine_values source.blocks) b p)
    clocks_stand : StandsFrom clocks (base.clocks + seat.clocks) (block_clocks (routine_clocks source.blocks) b p)

  seats_sit : (r : PlainRoutine) (base : Base) (path : Path) (is : List Instance) (seats : List Seat) (v c k : ℕ) (i : Instance) → AreSeats source.blocks r order v c is seats
      → StandsFrom paths (base.values + v) (instance_values (routine_values source.blocks) is path) → StandsFrom clocks (base.clocks + c) (instance_clocks (routine_clocks source.blocks) is path)
      → slice_get is k ≡ Some i → (seat : Seat) × (slice_get seats k ≡ Some seat) × Sits base seat i.of (folded i.name ∷ path)
  seats_sit r base path [] seats v c k i are vs cs at = absurd (cc)
  seats_sit r base path (j ∷ is) [] v c k i are vs cs at = absurd are
  seats_sit r base path (j ∷ is) (seat ∷ seats) v c zero i are vs cs at =
      let same : j ≡ i = cc in
      let p = folded j.name ∷ path in
      let own_values = block_values (routine_values source.blocks) j.of p in
      let own_clocks = block_clocks (routine_clocks source.blocks) j.of p in
      let first : Sits base seat j.of p = record {
        of_is = are.0.of_is;
        values_stand = stands_moved paths (base.values + v) (base.values + seat.values) own_values (ap (λ n. base.values + n) (sym are.0.values_is)) (stands_left paths (base.values + v) own_values (instance_values (routine_values source.blocks) is path) vs);
        clocks_stand = stands_moved clocks (base.clocks + c) (base.clocks + seat.clocks) own_clocks (ap (λ n. base.clocks + n) (sym are.0.clocks_is)) (stands_left clocks (base.clocks + c) own_clocks (instance_clocks (routine_clocks source.blocks) is path) cs);
      } in
      (seat, refl, subst (λ (x : Instance). Sits base seat x.of (folded x.name ∷ path)) same first)
  seats_sit r base path (j ∷ is) (seat ∷ seats) v c (suc k) i are vs cs at =
      let p = folded j.name ∷ path in
      let own_values = block_values (routine_values source.blocks) j.of p in
      let own_clocks = block_clocks (routine_clocks source.blocks) j.of p in
      let values_long = block_length (routine_values source.blocks) (routine_length source.blocks) j.of p [] in
      let clocks_long = block_clocks_length (routine_clocks source.blocks) (routine_clocks_length source.blocks) j.of p [] in
      seats_sit r base path is seats (v + value_count source.blocks j.of) (c + clock_count source.blocks j.of) k i are.1
      (stands_right paths (base.values + v) (base.values + (v + value_count source.blocks j.of)) own_values (instance_values (routine_values source.blocks) is path) (omega (arith, values_long)) vs)
      (stands_right clocks (base.clocks + c) (base.clocks + (c + clock_count source.blocks j.of)) own_clocks (instance_clocks (routine_clocks source.blocks) is path) (omega (arith, clocks_long)) cs) at

  module _ (base : Base) (seat : Seat) (p : Path) where
    -- an input of an instance, and an output of it
    input_there : (b : BlockRef) → Sits base seat b p → (name : List ℕ) (m : ℕ) → member_number source.blocks b name ≡ Some m → has_value (member_slot base seat m) ≡ true
    input_there b sits name m is = value_there (member_slot base seat m) (folded name) p (member_at paths (base.values + seat.values) p name m source.blocks order below b sits.values_stand is)

    clock_sits : (b : BlockRef) → is_of_standard b ≡ true → Sits base seat b p → has_clock (base.clocks + seat.clocks) ≡ true
    clock_sits b is sits = clock_there (base.clocks + seat.clocks) b p is (clock_at source.blocks clocks (base.clocks + seat.clocks) p b is sits.clocks_stand)

    output_there : (b : BlockRef) → Sits base seat b p → (name : List ℕ) (m : ℕ) → shown_number source b name ≡ Some m → has_shown has_value has_clock (seated order b) base seat m ≡ true
    output_there Ton sits name m is = clock_sits Ton refl sits
    output_there Tof sits name m is = clock_sits Tof refl sits
    output_there RTrig sits name m is = clock_sits RTrig refl sits
    output_there (Declared n) sits name m is = input_there (Declared n) sits name m is

    -- what a call of it names
    called_there : (reach : ℕ → Base → Bool) (b : BlockRef) → Sits base seat b p
        → ((m : ℕ) → b ≡ Declared m → StandsFrom paths (base.values + seat.values) (routine_values source.blocks m p) → StandsFrom clocks (base.clocks + seat.clocks) (routine_clocks source.blocks m p) → reach (place_in order m) (base_of base seat) ≡ true)
        → has_called has_value has_clock reach (seated order b) base seat ≡ true
    called_there reach Ton sits callee =
        both (has_clock (base.clocks + seat.clocks)) (has_value (member_slot base seat 0) && has_value (member_slot base seat 1)) (clock_sits Ton refl sits)
        (both (has_value (member_slot base seat 0)) (has_value (member_slot base seat 1)) (value_there _ in_word p (sits.values_stand 0 (in_word ∷ p) refl)) (value_there _ pt_word p (sits.values_stand 1 (pt_word ∷ p) refl)))
    called_there reach Tof sits callee =
        both (has_clock (base.clocks + seat.clocks)) (has_value (member_slot base seat 0) && has_value (member_slot base seat 1)) (clock_sits Tof refl sits)
        (both (has_value (member_slot base seat 0)) (has_value (member_slot base seat 1)) (value_there _ in_word p (sits.values_stand 0 (in_word ∷ p) refl)) (value_there _ pt_word p (sits.values_stand 1 (pt_word ∷ p) refl)))
    called_there reach RTrig sits callee =
        both (has_clock (base.clocks + seat.clocks)) (has_value (member_slot base seat 0) && true) (clock_sits RTrig refl sits)
        (both (has_value (member_slot base seat 0)) true (value_there _ clk_word p (sits.values_stand 0 (clk_word ∷ p) refl)) refl)
    called_there reach (Declared m) sits callee = where_called seat.is_called (reach (place_in order m) (base_of base seat)) (callee m refl sits.values_stand sits.clocks_stand)

  global_within : (name : List ℕ) (j : ℕ) → find_word (global_words source.globals) name ≡ Some j → j < global_cells source
  global_within name j is =
      let less = (position-Some (bytes_eq (folded name)) (global_words source.globals) j name is).0 in
      let words = length-map source.globals (λ (global : Variable). folded global.name) in
      omega (arith, less, words)

  -- a routine's frame at a base, where what the frames that it calls name is there
  module _ (r : PlainRoutine) (seats : List Seat) (are : AreSeats source.blocks r order (own_cells r) 0 r.instances seats) (path : Path) (base : Base)
      (values : StandsFrom paths base.values (values_rule (routine_values source.blocks) r path)) (stood : StandsFrom clocks base.clocks (clocks_rule (routine_clocks source.blocks) r path)) (reach : ℕ → Base → Bool)
      (callees : (i : Instance) (m : ℕ) → Among r.instances i → i.of ≡ Declared m → (p : Path) (at : Base) → StandsFrom paths at.values (routine_values source.blocks m p) → StandsFrom clocks at.clocks (routine_clocks source.blocks m p) → reach (place_in order m) at ≡ true) where
    variable_by : (name : List ℕ) (own other : Option ℕ) → find_word (own_words r.locals) name ≡ own → find_word (global_words source.globals) name ≡ other → is_some (own_or_global (global_cells source) own other) ≡ true
        → has_value (slot_of (global_cells source) base (unwrap_or (own_or_global (global_cells source) own other) 0)) ≡ true
    variable_by name (Some i) other found_own found_global h =
        let n = global_cells source in
        let past : nat_lt (n + i) n ≡ false = grind (arith, nat_tests) in
        let same : n + i - n ≡ i = omega arith in
        let at = values i (folded name ∷ path) (variable_among source.blocks r path i (folded name ∷ path) (own_at r.locals path name i found_own)) in
        rw past (subst (λ k. has_value (base.values + k) ≡ true) (sym same) (value_there (base.values + i) (folded name) path at))
    variable_by name None (Some j) found_own found_global h =
        let less = global_within name j found_global in
        rw (lt-ltb j (global_cells source) less) (global_there j less)
    variable_by name None None found_own found_global h = absurd (cc)

    variable_goes : (name : List ℕ) → is_some (variable_number source r name) ≡ true → has_value (slot_of (global_cells source) base (unwrap_or (variable_number source r name) 0)) ≡ true
    variable_goes name h = variable_by name (find_word (own_words r.locals) name) (find_word (global_words source.globals) name) refl refl h

    -- each element of an array
    abbrev place : (own other : Option ℕ) → Option ℕ
    place own other = own_or_global (global_cells source + length r.locals) (option_map (λ k. row_cells (take k r.rows)) own) (option_map (λ n. length source.globals + n) (option_map (λ k. row_cells (take k source.rows)) other))

    abbrev bounds_by : (own other : Option ℕ) → Bounds
    bounds_by own other = option_map_or (λ (row : Row). row.bounds) (or_other (option_and_then (slice_get r.rows) own) (option_and_then (slice_get source.rows) other)) (record { low = pos 0; high = pos 0 })

    array_by : (name : List ℕ) (own other : Option ℕ) → find_word (row_words r.rows) name ≡ own → find_word (row_words source.rows) name ≡ other → is_some (place own other) ≡ true
        → has_row has_value (slot_of (global_cells source) base (unwrap_or (place own other) 0)) (bounds_by own other) ≡ true
    array_by name (Some k) other found_own found_global h =
        let globals = global_cells source in
        let cells = row_cells (take k r.rows) in
        let n = globals + length r.locals + cells in
        let row = row_of_number r.rows name k found_own in
        let past : nat_lt n globals ≡ false = grind (arith, nat_tests) in
        let slot : slot_of globals base n ≡ base.values + (length r.locals + cells) = rw past (let same : n - globals ≡ length r.locals + cells = omega arith in ap (λ m. base.values + m) same) in
        let bounds : bounds_by (Some k) other ≡ row.0.bounds = ap (λ o. option_map_or (λ (row : Row). row.bounds) (or_other o (option_and_then (slice_get source.rows) other)) (record { low = pos 0; high = pos 0 })) row.1 in
        (λ x. has_row has_value (slot x) (bounds x))
        ∙ all_slots has_value (base.values + (length r.locals + cells)) (row_length row.0.bounds)
        (λ j less.
        let at = own_row_numbered source.blocks r path k row.0 j row.1 less in
        let same : base.values + (length r.locals + (cells + j)) ≡ base.values + (length r.locals + cells) + j = omega arith in
        let word = index_word (row.0.bounds.low +ℤ pos j) in
        let there : slice_get paths (base.values + (length r.locals + (cells + j))) ≡ Some (word ∷ folded row.0.name ∷ path) = values (length r.locals + (cells + j)) (word ∷ folded row.0.name ∷ path) at in
        value_there (base.values + (length r.locals + cells) + j) word (folded row.0.name ∷ path) (subst (λ m. slice_get paths m ≡ Some (word ∷ folded row.0.name ∷ path)) same there))
    array_by name None (Some k) found_own found_global h =
        let globals = global_cells source in
        let n = length source.globals + row_cells (take k source.rows) in
        let row = row_of_number source.rows name k found_global in
        let ends = row_ends source.rows k row.0 row.1 in
        let less : n < globals = omega (arith, ends) in
        let slot : slot_of globals base n ≡ n = rw (lt-ltb n globals less) refl in
        let bounds : bounds_by None (Some k) ≡ row.0.bounds = ap (λ o. option_map_or (λ (row : Row). row.bounds) o (record { low = pos 0; high = pos 0 })) row.1 in
        (λ x. has_row has_value (slot x) (bounds x)) ∙ all_slots has_value n (row_length row.0.bounds) (λ j within. global_there (n + j) (omega (arith, ends, within)))
    array_by name None None found_own found_global h = absurd (cc)

    array_goes : (name : List ℕ) → is_some (array_number source r name) ≡ true → has_row has_value (slot_of (global_cells source) base (unwrap_or (array_number source r name) 0)) (bounds_named source r name) ≡ true
    array_goes name h = array_by name (find_word (row_words r.rows) name) (find_word (row_words source.rows) name) refl refl h

    -- the seat of an instance
    seat_at : (k : ℕ) (i : Instance) → slice_get r.instances k ≡ Some i → (seat : Seat) × (slice_get seats k ≡ Some seat) × Sits base seat i.of (folded i.name ∷ path)
    seat_at k i at =
        let long = own_count r path in
        let own = own_values r path in
        let rest = instance_values (routine_values source.blocks) r.instances path in
        let none = instance_clocks (routine_clocks source.blocks) r.instances path in
        seats_sit r base path r.instances seats (own_cells r) 0 k i are (stands_right paths base.values (base.values + own_cells r) own rest (omega (arith, long)) values)
        (stands_moved clocks base.clocks (base.clocks + 0) none (omega arith) stood) at

    instance_by : (name : List ℕ) (o : Option ℕ) → find_word (instance_words r.instances) name ≡ o → is_some o ≡ true → has_instance has_value has_clock reach (slice_get seats (unwrap_or o 0)) base ≡ true
    instance_by name None found h = absurd (cc)
    instance_by name (Some k) found h =
        let it = instance_of_number r name k found in
        let i = it.0 in
        let s = seat_at k i it.1 in
        let seat = s.0 in
        let called = called_there base seat (folded i.name ∷ path) reach i.of s.2 (λ m of_is vs cs. callees i m (among_at r.instances k i it.1) of_is (folded i.name ∷ path) (base_of base seat) vs cs) in
        subst (λ (o : Option Seat). has_instance has_value has_clock reach o base ≡ true) (sym s.1) (subst (λ of. has_called has_value has_clock reach of base seat ≡ true) (sym s.2.of_is) called)

    abbrev member : {A : Type 0} → (BlockRef → Option A) → Option ℕ → Option A
    member f o = option_and_then f (option_map (λ (i : Instance). i.of) (option_and_then (slice_get r.instances) o))

    member_is : {A : Type 0} (f : BlockRef → Option A) (k : ℕ) (i : Instance) → slice_get r.instances k ≡ Some i → member f (Some k) ≡ f i.of
    member_is f k i at = ap (λ o. option_and_then f (option_map (λ (x : Instance). x.of) o)) at

    input_by : (instance name : List ℕ) (o : Option ℕ) → find_word (instance_words r.instances) instance ≡ o → is_some (member (λ (b : BlockRef). member_number source.blocks b name) o) ≡ true
        → has_input has_value has_clock (slice_get seats (unwrap_or o 0)) base (unwrap_or (member (λ (b : BlockRef). member_number source.blocks b name) o) 0) ≡ true
    input_by instance name None found h = absurd (cc)
    input_by instance name (Some k) found h =
        let it = instance_of_number r instance k found in
        let i = it.0 in
        let s = seat_at k i it.1 in
        let f = λ (b : BlockRef). member_number source.blocks b name in
        let numbered = sym (member_is f k i it.1) ∙ there_is (member f (Some k)) h in
        subst (λ (o : Option Seat). has_input has_value has_clock o base (unwrap_or (member f (Some k)) 0) ≡ true) (sym s.1) (input_there base s.0 (folded i.name ∷ path) i.of s.2 name (unwrap_or (member f (Some k)) 0) numbered)

    output_by : (instance name : List ℕ) (o : Option ℕ) → find_word (instance_words r.instances) instance ≡ o → is_some (member (λ (b : BlockRef). shown_number source b name) o) ≡ true
        → has_output has_value has_clock (slice_get seats (unwrap_or o 0)) base (unwrap_or (member (λ (b : BlockRef). shown_number source b name) o) 0) ≡ true
    output_by instance name None found h = absurd (cc)
    output_by instance name (Some k) found h =
        let it = instance_of_number r instance k found in
        let i = it.0 in
        let s = seat_at k i it.1 in
        let f = λ (b : BlockRef). shown_number source b name in
        let m = unwrap_or (member f (Some k)) 0 in
        let numbered = sym (member_is f k i it.1) ∙ there_is (member f (Some k)) h in
        subst (λ (o : Option Seat). has_output has_value has_clock o base m ≡ true) (sym s.1)
        (subst (λ of. has_shown has_value has_clock of base s.0 m ≡ true) (sym s.2.of_is) (output_there base s.0 (folded i.name ∷ path) i.of s.2 name m numbered))

    pub body_there : HasItsNames source r → body_known (there has_value has_clock (global_cells source) reach seats base) (mapped_body (numbers source r) (meant_in source r r.body)) ≡ true
    body_there names =
        meant_goes (numbers source r) (numbered_in source r) (there has_value has_clock (global_cells source) reach seats base) (λ e h. h)
        variable_goes (λ name h. instance_by name (find_word (instance_words r.instances) name) refl h)
        (λ instance name h. input_by instance name (find_word (instance_words r.instances) instance) refl h)
        (λ instance name h. output_by instance name (find_word (instance_words r.instances) instance) refl h)
        (kinds_named source r) (λ name bounds h. array_goes name h) r.body names.in_body

  module _ (frames : List Frame) (are : IsFrames source order frames) (types : HasItsTypes source) (names : HasAllNames source) where
    abbrev reached : (limit k : ℕ) → Base → Bool
    reached limit k = frame_there has_value has_clock (global_cells source) frames limit k

    -- where the values and the standard blocks of a routine stand from a base on, there what a frame names is there
    abbrev There : (Base → Bool) → (Path → List Path) → (Path → List ClockAt) → Type 0
    There reach values stood = (path : Path) (base : Base) → StandsFrom paths base.values (values path) → StandsFrom clocks base.clocks (stood path) → reach base ≡ true

    abbrev BlockThere : (limit k n : ℕ) → Type 0
    BlockThere limit k n = There (reached limit k) (routine_values source.blocks n) (routine_clocks source.blocks n)

    empty_there : (reach : ℕ → Base → Bool) (frame : Frame) (base : Base) → view_body frame.body.items ≡ done → routine_there has_value has_clock (global_cells source) reach frame base ≡ true
    empty_there reach frame base is = ap (λ (body : PlainBody ℕ). body_known (there has_value has_clock (global_cells source) reach frame.seats.items base) body) is

    routine_is : (r : PlainRoutine) (frame : Frame) (k : ℕ) → IsFrame source order r frame → HasItsNames source r → ((i : Instance) (m : ℕ) → Among r.instances i → i.of ≡ Declared m → BlockThere k (place_in order m) m)
        → There (routine_there has_value has_clock (global_cells source) (reached k) frame) (values_rule (routine_values source.blocks) r) (clocks_rule (routine_clocks source.blocks) r)
    routine_is r frame k is known callees path base values stood =
        ap (λ (body : PlainBody ℕ). body_known (there has_value has_clock (global_cells source) (reached k) frame.seats.items base) body) is.body_is
        ∙ body_there r frame.seats.items is.seats_are path base values stood (reached k) (λ i m here of_is p at. callees i m here of_is p at) known

    run_is : (b : Bool) (r : PlainRoutine) (frame : Frame) (k : ℕ) → IsFrame source order (framed b r) frame → HasItsNames source r → ((i : Instance) (m : ℕ) → Among r.instances i → i.of ≡ Declared m → BlockThere k (place_in order m) m)
        → There (routine_there has_value has_clock (global_cells source) (reached k) frame) (values_rule (routine_values source.blocks) r) (clocks_rule (routine_clocks source.blocks) r)
    run_is true r frame k is known callees path base values stood = routine_is r frame k is known callees path base values stood
    run_is false r frame k is known callees path base values stood = empty_there (reached k) frame base is.body_is

    frame_at : (k : ℕ) → k < length order + length source.programs → (frame : Frame) × (slice_get frames k ≡ Some frame)
    frame_at k less = let whole = are.whole in element frames k (omega (arith, less, whole))

    reached_is : (limit k : ℕ) (frame : Frame) (base : Base) → k < limit → slice_get frames k ≡ Some frame → reached limit k base ≡ routine_there has_value has_clock (global_cells source) (reached k) frame base
    reached_is limit k frame base less at = ap (λ (f : Base → Bool). f base) (first_is (λ base. true) (routine_there has_value has_clock (global_cells source)) frames limit k frame less at)

    reached_past : (limit k : ℕ) (base : Base) → limit ≤ k → reached limit k base ≡ true
    reached_past limit k base past = ap (λ (f : Base → Bool). f base) (first_past (λ base. true) (routine_there has_value has_clock (global_cells source)) frames limit k past)

    -- the frame at a block type's place, if those before a number do
    place_there : (k m : ℕ) → k ≤ length order → ((j : ℕ) → j < k → slice_get order j ≡ Some m → BlockThere k j m) → BlockThere k (place_in order m) m
    place_there k m short before path base values stood =
        elim (cases_lt (place_in order m) k) [
          | inl less ↦ before (place_in order m) less (place_at order m (omega (arith, less, short))) path base values stood
          | inr past ↦ reached_past k (place_in order m) base past
        ]

    -- a block type's frame
    block_there : (depth limit k n : ℕ) → k < depth → slice_get order k ≡ Some n → BlockThere limit k n
    block_there zero limit k n deep at path base values stood = absurd (omega (arith, deep))
    block_there (suc d) limit k n deep at path base values stood =
        elim (cases_lt k limit) [
          | inl less ↦ (
              let within = slice_get_within order k n at in
              let r = element source.blocks n (below.within n (among_at order k n at)) in
              let frame = frame_at k (omega (arith, within)) in
              let known = all_at (HasItsNames source) source.blocks n r.0 names.in_blocks r.1 in
              let values_are = by_its_rule (λ path. []) values_rule source.blocks order below values_ask n r.0 r.1 in
              let clocks_are = by_its_rule (λ path. []) clocks_rule source.blocks order below clocks_ask n r.0 r.1 in
              let values' : StandsFrom paths base.values (values_rule (routine_values source.blocks) r.0 path) = subst (λ (f : Path → List Path). StandsFrom paths base.values (f path)) values_are values in
              let stood' : StandsFrom clocks base.clocks (clocks_rule (routine_clocks source.blocks) r.0 path) = subst (λ (f : Path → List ClockAt). StandsFrom clocks base.clocks (f path)) clocks_are stood in
              let inside : routine_there has_value has_clock (global_cells source) (reached k) frame.0 base ≡ true =
              elim (cases_Bool (flagged are.used n)) [
                | inl used ↦ run_is (flagged are.run n) r.0 frame.0 k (are.of_blocks k n r.0 frame.0 at r.1 frame.1 used) known
                    (λ i m here of_is. place_there k m (omega (arith, within)) (λ j before there. block_there d k j m (omega (arith, deep, before)) there)) path base values' stood'
                | inr off ↦ empty_there (reached k) frame.0 base (ap (λ l. view_body l) (are.of_others k n frame.0 at frame.1 off).body_is)
              ]
              in
              reached_is limit k frame.0 base less frame.1 ∙ inside)
          | inr past ↦ reached_past limit k base past
        ]

    listed_there : (k m : ℕ) → Among order m → BlockThere k (place_in order m) m
    listed_there k m here = let within = place_within order m here in block_there (suc (place_in order m)) k (place_in order m) m (omega arith) (place_at order m within)

    -- what a program's frame names is there
    pub program_there : (n : ℕ) (p : PlainRoutine) → slice_get source.programs n ≡ Some p → There (λ base. frame_there has_value has_clock (global_cells source) frames (length frames) (length order + n) base) (values_rule (routine_values source.blocks) p) (clocks_rule (routine_clocks source.blocks) p)
    program_there n p at path base values stood =
        let within = slice_get_within source.programs n p at in
        let k = length order + n in
        let frame = frame_at k (omega (arith, within)) in
        let less = slice_get_within frames k frame.0 frame.1 in
        let known = all_at (HasItsNames source) source.programs n p names.in_programs at in
        let declared = all_at (DeclaresThere source.blocks) source.programs n p types.in_programs at in
        reached_is (length frames) k frame.0 base less frame.1
        ∙ routine_is p frame.0 k (are.of_programs n p frame.0 at frame.1) known (λ i m here of_is. listed_there k m (below.whole m (declared m (i, here, of_is)))) path base values stood
