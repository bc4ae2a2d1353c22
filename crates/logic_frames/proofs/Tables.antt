-- A table of frames as it grows, each block type after those that it declares.
use Rattle.std.proofs.Common.{◌≡◌, ◌≢◌, ◌∙◌, ap, sym, subst, refl, ℕ, zero, suc, ◌+◌, ◌^◌, ◌<◌, ◌≤◌, Bool, List, [], ◌∷◌, ◌++◌, take, length, get_or, set, Some, true, false, inl, inr, arith}
use Rattle.std.specs.Prelude.{◌⊎◌, ◌||◌, ◌==◌, not, slice_get, nat_eq, nat_lt, if◌then◌else◌}
use Rattle.std.specs.List.{list_any, position_or_len}
use Rattle.std.specs.Option.{option_map_or}
use Rattle.std.proofs.lemmas.Bool.{cases_Bool}
use Rattle.std.proofs.lemmas.Bool.Decides.{nat_tests}
use Rattle.std.proofs.lemmas.List.{length-map, length-append, length-set, take_more, get_or-set_same, get_or-set_other}
use Rattle.std.proofs.lemmas.Option.{slice_get_within, slice_get-get_or}
use Rattle.plant_types.specs.Words.{folded}
use Rattle.st_tree.specs.View.{view_body}
use Rattle.st_tree.specs.Mapping.{mapped_body}
use Rattle.st_blocks.specs.Chains.{Among}
use Rattle.st_blocks.specs.Blocks.{Once}
use Rattle.logic_source.specs.declared.logic.Instance.{Instance}
use Rattle.logic_source.specs.declared.logic.BlockRef.{BlockRef}
use Rattle.logic_source.specs.declared.logic.BlockRef.TheVariants.{Ton, Tof, RTrig, Declared}
use Rattle.logic_source.specs.Source.{PlainRoutine, Source, own_cells}
use Rattle.logic_source.specs.Blocks.{Declares, AreBelow}
use Rattle.logic_source.specs.Paths.{is_called}
use Rattle.logic_source.specs.Names.{meant_in}
use Rattle.plant_types.specs.Values.{Path}
use Rattle.logic_source.specs.Layout.{ClockAt, own_values, block_values, instance_values, values_rule, routine_values, block_clocks, instance_clocks, clocks_rule, routine_clocks}
use Rattle.logic_source.specs.Seats.{value_count, clock_count}
use Rattle.logic_source.proofs.Agreeing.{among_at}
use Rattle.logic_source.proofs.Seats.{own_count, block_length, routine_length, block_clocks_length, routine_clocks_length}
use Rattle.logic_cells.specs.declared.clock.Standard.{Standard}
use Rattle.logic_walk.specs.declared.frame.SeatOf.TheVariants as seat_of
use Rattle.logic_walk.specs.declared.frame.Seat.{Seat}
use Rattle.logic_walk.specs.declared.frame.Frame.{Frame}
use Rattle.logic_walk.specs.Frames.{paths_of, seats_paths, routine_paths, frame_paths, AreNumbered, InTurn, AreInTurn}
use Rattle.logic_walk.specs.Starts.{seat_has_starts, routine_has_starts, frame_has_starts}
use Rattle.logic_walk.specs.Standards.{seat_standards, seats_standards, frame_standards}
use Rattle.logic_walk.proofs.Firsts.{first_is, paths_is}
use Rattle.logic_walk.proofs.Marks.{standards_is}
use Rattle.logic_walk.proofs.Growing.{paths_more, starts_more, standards_more, each_more, marked_more, counted_more}
use Rattle.logic_seats.specs.declared.seats.Extent.{Extent}
use Rattle.logic_seats.specs.declared.seats.Callee.{Callee}
use Rattle.logic_frames.specs.Numbers.{numbers}
use Rattle.logic_frames.specs.Reached.{flagged, AreReached}
use Rattle.logic_frames.specs.Frames.{place_in, seated, AreSeats, IsFrame, framed, IsBlank}
use Rattle.logic_seats.specs.Seats.{extent, plus, extent_called, extent_by, seated_by, starts_by, any_starts, seats_by, ends_by}
use Rattle.logic_frames.specs.Built.{first_of, IsKnown, IsMade, AreBuilt}
use Rattle.logic_frames.proofs.Flags.{declared_asks, get_or_is}

-- frames behind others change nothing for these
pub front : {A : Type 0} (xs ys : List A) (n : ℕ) → n < length xs → slice_get (xs ++ ys) n ≡ slice_get xs n
front [] ys n h = absurd (omega arith)
front (x ∷ xs) ys zero h = refl
front (x ∷ xs) ys (suc n) h = front xs ys n (omega arith)

pub at_end : {A : Type 0} (xs : List A) (y : A) → slice_get (xs ++ y ∷ []) (length xs) ≡ Some y
at_end [] y = refl
at_end (x ∷ xs) y = at_end xs y

pub in_turn_more : (frames : List Frame) (frame : Frame) → AreInTurn frames → InTurn (frame_paths frames (length frames)) frame.seats.items → AreInTurn (frames ++ frame ∷ [])
in_turn_more frames frame before here =
    each_more (λ k f. InTurn (frame_paths (frames ++ frame ∷ []) k) f.seats.items) frames frame
    (λ k f small at. subst (λ p. InTurn p f.seats.items) (λ i j. sym (paths_more frames (frame ∷ []) k (omega (arith, small)) j) i) (before k f at))
    (subst (λ p. InTurn p frame.seats.items) (λ i j. sym (paths_more frames (frame ∷ []) (length frames) (omega arith) j) i) here)

-- whether a frame has initial values below it, by its own
has_starts_is : (frames : List Frame) (limit k : ℕ) (frame : Frame) → k < limit → slice_get frames k ≡ Some frame → frame_has_starts frames limit k ≡ routine_has_starts (frame_has_starts frames k) frame
unfolding frame_has_starts
has_starts_is frames limit k frame h at = first_is false routine_has_starts frames limit k frame h at

-- the seats that a table gives, where it knows the block types of the instances
module _ (blocks : List PlainRoutine) (order : List ℕ) (frames : List Frame) (table : List Callee) where
  abbrev paths : ℕ → List Path
  paths = frame_paths frames (length frames)

  abbrev has : ℕ → Bool
  has = frame_has_starts frames (length frames)

  abbrev standards : ℕ → List Standard
  standards = frame_standards frames (length frames)

  abbrev Knows : BlockRef → Type 0
  Knows b = (n : ℕ) → b ≡ Declared n → IsKnown blocks order frames table n

  record BlockIs (name : List ℕ) (b : BlockRef) : Type 0 where
    of_is : seated_by table b ≡ seated order b
    values_is : (extent_by table b).values ≡ value_count blocks b
    clocks_is : (extent_by table b).clocks ≡ clock_count blocks b
    paths_is : (extent_by table b).paths ≡ length (paths_of paths name (seated_by table b))
    starts_is : seat_has_starts has (seated_by table b) ≡ starts_by table b
    standards_is : (extent_by table b).clocks ≡ length (seat_standards standards (seated_by table b))

  block_is : (name : List ℕ) (b : BlockRef) → Knows b → BlockIs name b
  block_is name Ton knows = record { of_is = refl; values_is = refl; clocks_is = refl; paths_is = refl; starts_is = refl; standards_is = refl }
  block_is name Tof knows = record { of_is = refl; values_is = refl; clocks_is = refl; paths_is = refl; starts_is = refl; standards_is = refl }
  block_is name RTrig knows = record { of_is = refl; values_is = refl; clocks_is = refl; paths_is = refl; starts_is = refl; standards_is = refl }
  block_is name (Declared n) knows =
      let k = knows n refl in
      record {
        of_is = ap (λ o. seat_of.Frame (option_map_or (λ (p : Callee). p.place) o 0)) k.at ∙ ap seat_of.Frame k.place_is;
        values_is = ap (λ o. (option_map_or (λ (p : Callee). p.extent) o (extent 0 0 0)).values) k.at ∙ k.values_is;
        clocks_is = ap (λ o. (option_map_or (λ (p : Callee). p.extent) o (extent 0 0 0)).clocks) k.at ∙ k.clocks_is;
        paths_is = ap (λ o. (option_map_or (λ (p : Callee). p.extent) o (extent 0 0 0)).paths) k.at ∙ k.paths_is ∙ sym (length-map (paths k.callee.place) (λ path. path ++ name ∷ []))
            ∙ sym (ap (λ o. length (paths_of paths name (seat_of.Frame (option_map_or (λ (p : Callee). p.place) o 0)))) k.at);
        starts_is = ap (λ o. has (option_map_or (λ (p : Callee). p.place) o 0)) k.at ∙ sym k.starts_is ∙ sym (ap (λ o. option_map_or (λ (p : Callee). p.has_starts) o false) k.at);
        standards_is = ap (λ o. (option_map_or (λ (p : Callee). p.extent) o (extent 0 0 0)).clocks) k.at ∙ k.standards_is ∙ sym (ap (λ o. length (standards (option_map_or (λ (p : Callee). p.place) o 0))) k.at);
      }

  -- the same of what an instance adds to its routine
  record InstanceIs (called : Bool) (name : List ℕ) (b : BlockRef) : Type 0 where
    of_is : seated_by table b ≡ seated order b
    values_is : (extent_called called (extent_by table b)).values ≡ value_count blocks b
    clocks_is : (extent_called called (extent_by table b)).clocks ≡ clock_count blocks b
    paths_is : (extent_called called (extent_by table b)).paths ≡ length (if called then paths_of paths name (seated_by table b) else [])
    standards_is : (extent_called called (extent_by table b)).clocks ≡ length (seat_standards standards (seated_by table b))

  instance_is : (called : Bool) (name : List ℕ) (b : BlockRef) → Knows b → InstanceIs called name b
  instance_is true name b knows = let it = block_is name b knows in record { of_is = it.of_is; values_is = it.values_is; clocks_is = it.clocks_is; paths_is = it.paths_is; standards_is = it.standards_is }
  instance_is false name b knows = let it = block_is name b knows in record { of_is = it.of_is; values_is = it.values_is; clocks_is = it.clocks_is; paths_is = refl; standards_is = it.standards_is }

  abbrev KnowsAll : List Instance → Type 0
  KnowsAll is = (i : Instance) → Among is i → Knows i.of

  module _ (r : PlainRoutine) where
    abbrev next : Extent → Instance → Extent
    next at i = plus at (extent_called (is_called r i.name) (extent_by table i.of))

    abbrev seats : Extent → List Instance → List Seat
    seats at is = seats_by table (is_called r) at is

    seats_are : (at : Extent) (is : List Instance) → KnowsAll is → AreSeats blocks r order at.values at.clocks is (seats at is)
    seats_are at [] knows = tt
    seats_are at (i ∷ is) knows =
        let b = instance_is (is_called r i.name) i.name i.of (knows i (inl refl)) in
        let rest = seats_are (next at i) is (λ j there. knows j (inr there)) in (
          record { name_is = refl; of_is = b.of_is; values_is = refl; clocks_is = refl; called_is = refl },
          subst (λ v. AreSeats blocks r order (at.values + v) (at.clocks + clock_count blocks i.of) is (seats (next at i) is)) b.values_is
              (subst (λ c. AreSeats blocks r order (at.values + (extent_called (is_called r i.name) (extent_by table i.of)).values) (at.clocks + c) is (seats (next at i) is)) b.clocks_is rest),
        )

    numbered : (at : Extent) (is : List Instance) → KnowsAll is → AreNumbered paths at.paths (seats at is)
    numbered at [] knows = tt
    numbered at (i ∷ is) knows =
        let b = instance_is (is_called r i.name) i.name i.of (knows i (inl refl)) in
        (refl, subst (λ n. AreNumbered paths (at.paths + n) (seats (next at i) is)) b.paths_is (numbered (next at i) is (λ j there. knows j (inr there))))

    starts_are : (at : Extent) (is : List Instance) → KnowsAll is → list_any (λ (s : Seat). seat_has_starts has s.of) (seats at is) ≡ any_starts table is
    starts_are at [] knows = refl
    starts_are at (i ∷ is) knows = λ j. (block_is i.name i.of (knows i (inl refl))).starts_is j || starts_are (next at i) is (λ x there. knows x (inr there)) j

    record EndsAt (at : Extent) (is : List Instance) : Type 0 where
      values_is : (ends_by table (is_called r) at is).values ≡ at.values + length (instance_values (routine_values blocks) is [])
      clocks_is : (ends_by table (is_called r) at is).clocks ≡ at.clocks + length (instance_clocks (routine_clocks blocks) is [])
      paths_is : (ends_by table (is_called r) at is).paths ≡ at.paths + length (seats_paths paths (seats at is))
      standards_is : (ends_by table (is_called r) at is).clocks ≡ at.clocks + length (seats_standards standards (seats at is))

    ends_at : (at : Extent) (is : List Instance) → KnowsAll is → EndsAt at is
    ends_at at [] knows = record { values_is = omega arith; clocks_is = omega arith; paths_is = omega arith; standards_is = omega arith }
    ends_at at (i ∷ is) knows =
        let b = instance_is (is_called r i.name) i.name i.of (knows i (inl refl)) in
        let e = ends_at (next at i) is (λ j there. knows j (inr there)) in
        let values = block_length (routine_values blocks) (routine_length blocks) i.of (folded i.name ∷ []) [] in
        let clocks = block_clocks_length (routine_clocks blocks) (routine_clocks_length blocks) i.of (folded i.name ∷ []) [] in
        let first = b.values_is in
        let first' = b.clocks_is in
        let first'' = b.paths_is in
        let later = e.values_is in
        let later' = e.clocks_is in
        let later'' = e.paths_is in
        let one = b.standards_is in
        let others = e.standards_is in
        let sum = length-append (block_values (routine_values blocks) i.of (folded i.name ∷ [])) (instance_values (routine_values blocks) is []) in
        let sum' = length-append (block_clocks (routine_clocks blocks) i.of (folded i.name ∷ [])) (instance_clocks (routine_clocks blocks) is []) in
        let sum'' = length-append (if is_called r i.name then paths_of paths i.name (seated_by table i.of) else []) (seats_paths paths (seats (next at i) is)) in
        let both = length-append (seat_standards standards (seated_by table i.of)) (seats_standards standards (seats (next at i) is)) in
        record { values_is = omega (arith, first, later, values, sum); clocks_is = omega (arith, first', later', clocks, sum'); paths_is = omega (arith, first'', later'', sum''); standards_is = omega (arith, one, others, both) }

-- a frame that is made by a table which knows the block types that the routine declares
module _ (source : Source) (order : List ℕ) (frames : List Frame) (table : List Callee) (r : PlainRoutine) (frame : Frame) (end : Extent) (made : IsMade source table r frame end)
    (known : (n : ℕ) → Declares r n → IsKnown source.blocks order frames table n) where
  knows_all : KnowsAll source.blocks order frames table r.instances
  knows_all i there n is = known n (i, there, is)

  pub made_is_frame : IsFrame source order r frame
  made_is_frame = record {
    seats_are = subst (AreSeats source.blocks r order (own_cells r) 0 r.instances) (sym made.seats_are) (seats_are source.blocks order frames table r (first_of r) r.instances knows_all);
    starts_are = made.starts_are;
    body_is = made.body_is;
  }

  many : end.paths ≡ length (routine_paths (frame_paths frames (length frames)) frame.seats.items)
  many =
      let e = ap (λ (x : Extent). x.paths) made.end_is ∙ (ends_at source.blocks order frames table r (first_of r) r.instances knows_all).paths_is in
      let same = ap (λ l. length (seats_paths (frame_paths frames (length frames)) l)) (sym made.seats_are) in
      let one : length (routine_paths (frame_paths frames (length frames)) frame.seats.items) ≡ suc (length (seats_paths (frame_paths frames (length frames)) frame.seats.items)) = refl in
      omega (arith, e, same, one)

  pub made_in_turn : InTurn (frame_paths frames (length frames)) frame.seats.items
  made_in_turn = record {
    numbered = subst (AreNumbered (frame_paths frames (length frames)) 1) (sym made.seats_are) (numbered source.blocks order frames table r (first_of r) r.instances knows_all);
    few = (let all = many in let small = made.few in omega (arith, all, small));
  }

  pub made_marked : frame.has_starts ≡ routine_has_starts (frame_has_starts frames (length frames)) frame
  made_marked =
      made.marked
      ∙ ap (λ b. not (length frame.starts.items == 0) || b)
      (sym (starts_are source.blocks order frames table r (first_of r) r.instances knows_all) ∙ ap (list_any (λ (s : Seat). seat_has_starts (frame_has_starts frames (length frames)) s.of)) (sym made.seats_are))

  pub made_counted : frame.clocks ≡ length (seats_standards (frame_standards frames (length frames)) frame.seats.items)
  made_counted =
      let e = made.counted in
      let end_is = ap (λ (x : Extent). x.clocks) made.end_is ∙ (ends_at source.blocks order frames table r (first_of r) r.instances knows_all).standards_is in
      let same = ap (λ l. length (seats_standards (frame_standards frames (length frames)) l)) (sym made.seats_are) in
      omega (arith, e, end_is, same)

  pub made_paths : end.paths ≡ length (routine_paths (frame_paths frames (length frames)) frame.seats.items)
  made_paths = many

  pub made_values : end.values ≡ length (values_rule (routine_values source.blocks) r [])
  made_values =
      let e = ap (λ (x : Extent). x.values) made.end_is ∙ (ends_at source.blocks order frames table r (first_of r) r.instances knows_all).values_is in
      let sum = length-append (own_values r []) (instance_values (routine_values source.blocks) r.instances []) in
      let own = own_count r [] in
      omega (arith, e, sum, own)

  pub made_clocks : end.clocks ≡ length (clocks_rule (routine_clocks source.blocks) r [])
  made_clocks =
      let e = ap (λ (x : Extent). x.clocks) made.end_is ∙ (ends_at source.blocks order frames table r (first_of r) r.instances knows_all).clocks_is in
      omega (arith, e)

-- what a table knows stays known when a frame is pushed
pub known_more : (blocks : List PlainRoutine) (order : List ℕ) (frames : List Frame) (more : Frame) (table : List Callee) (n : ℕ) → IsKnown blocks order frames table n → IsKnown blocks order (frames ++ more ∷ []) table n
known_more blocks order frames more table n k =
    let j = k.callee.place in
    let inside = k.within in
    let all = frames ++ more ∷ [] in
    let long = length-append frames (more ∷ []) in
    let here = slice_get_some frames j inside in
    let there : slice_get all j ≡ Some here.0 = front frames (more ∷ []) j inside ∙ here.1 in
    let most : j ≤ length frames = omega (arith, inside) in
    let less : j < length all = omega (arith, inside, long) in
    let paths : frame_paths all (length all) j ≡ frame_paths frames (length frames) j =
    paths_is all (length all) j here.0 less there ∙ (λ i. routine_paths (λ m. paths_more frames (more ∷ []) j most m i) here.0.seats.items) ∙ sym (paths_is frames (length frames) j here.0 inside here.1) in
    let starts : frame_has_starts all (length all) j ≡ frame_has_starts frames (length frames) j =
    has_starts_is all (length all) j here.0 less there ∙ (λ i. routine_has_starts (λ m. starts_more frames (more ∷ []) j most m i) here.0) ∙ sym (has_starts_is frames (length frames) j here.0 inside here.1) in
    let standards : frame_standards all (length all) j ≡ frame_standards frames (length frames) j =
    standards_is all (length all) j here.0 less there ∙ (λ i. seats_standards (λ m. standards_more frames (more ∷ []) j most m i) here.0.seats.items) ∙ sym (standards_is frames (length frames) j here.0 inside here.1) in
    record {
      callee = k.callee;
      at = k.at;
      values_is = k.values_is;
      clocks_is = k.clocks_is;
      place_is = k.place_is;
      within = less;
      paths_is = k.paths_is ∙ ap length (sym paths);
      starts_is = k.starts_is ∙ sym starts;
      standards_is = k.standards_is ∙ ap length (sym standards);
    }
  where
    slice_get_some : (xs : List Frame) (j : ℕ) → j < length xs → (x : Frame) × (slice_get xs j ≡ Some x)
    slice_get_some [] j h = absurd (omega arith)
    slice_get_some (x ∷ xs) zero h = (x, refl)
    slice_get_some (x ∷ xs) (suc j) h = slice_get_some xs j (omega arith)

-- a number that is listed once has its place where it is listed
first_place : (order : List ℕ) (k n : ℕ) → Once order → slice_get order k ≡ Some n → position_or_len (nat_eq n) order ≡ k
first_place [] k n once at = absurd (cc)
first_place (a ∷ order) zero n once at =
    let same : a ≡ n = cc in
    let is : nat_eq n a ≡ true = grind (arith, nat_tests) in
    rw is refl
first_place (a ∷ order) (suc k) n once at =
    elim (cases_Bool (nat_eq n a)) [
      | inl is ↦ (let same : n ≡ a = grind (arith, nat_tests) in absurd (once.0 (subst (Among order) same (among_at order k n at))))
      | inr isnt ↦ (let later = first_place order k n once.1 at in rw isnt (omega (arith, later)))
    ]

place_there : (order : List ℕ) (k n : ℕ) → Once order → slice_get order k ≡ Some n → place_in order n ≡ k
place_there order k n once at =
    let same = first_place order k n once at in
    let small = slice_get_within order k n at in
    let is : nat_lt (position_or_len (nat_eq n) order) (length order) ≡ true = grind (arith, nat_tests) in
    rw is same

pub among_last : (xs : List ℕ) (x n : ℕ) → Among (xs ++ x ∷ []) n → Among xs n ⊎ (x ≡ n)
among_last [] x n (inl is) = inr is
among_last [] x n (inr none) = elim none [ ]
among_last (y ∷ ys) x n (inl is) = inl (inl is)
among_last (y ∷ ys) x n (inr later) =
    elim (among_last ys x n later) [
      | inl before ↦ inl (inr before)
      | inr is ↦ inr is
    ]

pub set_here : (table : List Callee) (a : ℕ) (p : Callee) → a < length table → slice_get (set table a p) a ≡ Some p
set_here table a p within =
    let long = length-set table a p in
    slice_get-get_or (set table a p) a p (omega arith) ∙ ap Some (get_or-set_same table a p p within)

pub set_there : (table : List Callee) (a n : ℕ) (p known : Callee) → n ≢ a → slice_get table n ≡ Some known → slice_get (set table a p) n ≡ Some known
set_there table a n p known other is =
    let long = length-set table a p in
    let within = slice_get_within table n known is in
    slice_get-get_or (set table a p) n p (omega arith) ∙ ap Some (get_or-set_other table a n p p other) ∙ sym (slice_get-get_or table n p within) ∙ is

-- a frame without its body has the values and the standard blocks of its routine
framed_values : (b : Bool) (inner : ℕ → Path → List Path) (r : PlainRoutine) (p : Path) → values_rule inner (framed b r) p ≡ values_rule inner r p
framed_values true inner r p = refl
framed_values false inner r p = refl

framed_clocks : (b : Bool) (inner : ℕ → Path → List ClockAt) (r : PlainRoutine) (p : Path) → clocks_rule inner (framed b r) p ≡ clocks_rule inner r p
framed_clocks true inner r p = refl
framed_clocks false inner r p = refl

framed_declares : (b : Bool) (r : PlainRoutine) (n : ℕ) → Declares (framed b r) n → Declares r n
framed_declares true r n declares = declares
framed_declares false r n declares = declares

-- a frame that has nothing
blank_in_turn : (paths : ℕ → List Path) (frame : Frame) → IsBlank frame → InTurn paths frame.seats.items
blank_in_turn paths frame blank = subst (InTurn paths) (sym blank.seats_are) (record { numbered = tt; few = omega arith })

blank_marked : (inner : ℕ → Bool) (frame : Frame) → IsBlank frame → frame.has_starts ≡ routine_has_starts inner frame
blank_marked inner frame blank = blank.marked ∙ (λ i. not (length (sym blank.starts_are i) == 0) || list_any (λ (s : Seat). seat_has_starts inner s.of) (sym blank.seats_are i))

blank_counted : (inner : ℕ → List Standard) (frame : Frame) → IsBlank frame → frame.clocks ≡ length (seats_standards inner frame.seats.items)
blank_counted inner frame blank = blank.counted ∙ ap (λ l. length (seats_standards inner l)) (sym blank.seats_are)

module _ (source : Source) (order : List ℕ) (used run : List Bool) (below : AreBelow source.blocks order) (are_used : AreReached false source used)
    (has_values : (n : ℕ) (r : PlainRoutine) → slice_get source.blocks n ≡ Some r → routine_values source.blocks n ≡ values_rule (routine_values source.blocks) r)
    (has_clocks : (n : ℕ) (r : PlainRoutine) → slice_get source.blocks n ≡ Some r → routine_clocks source.blocks n ≡ clocks_rule (routine_clocks source.blocks) r) where
  module _ (k a : ℕ) (r : PlainRoutine) (frames frames' : List Frame) (table table' : List Callee) (frame : Frame) (end : Extent) (built : AreBuilt source order used run k frames table) (at : slice_get order k ≡ Some a) (is : slice_get source.blocks a ≡ Some r)
      (types : (n : ℕ) → Declares r n → n < length source.blocks) (made : flagged used a ≡ true → IsMade source table (framed (flagged run a) r) frame end) (unused : flagged used a ≡ false → IsBlank frame)
      (pushed : frames' ≡ frames ++ frame ∷ []) (kept : table' ≡ set table a (record { extent = end; place = k; has_starts = frame.has_starts })) where
    abbrev entry : Callee
    entry = record { extent = end; place = k; has_starts = frame.has_starts }

    module _ (on : flagged used a ≡ true) where
      abbrev shown : PlainRoutine
      shown = framed (flagged run a) r

      -- the block types that it declares come before it
      knows : (n : ℕ) → Declares shown n → IsKnown source.blocks order frames table n
      knows n declares =
          let own = framed_declares (flagged run a) r n declares in
          built.known n (below.after k a n r at is own (types n own)) (are_used.by_blocks a n r is on (declared_asks r n own))

      its_mark : frame.has_starts ≡ routine_has_starts (frame_has_starts frames (length frames)) frame
      its_mark = made_marked source order frames table shown frame end (made on) knows

      its_count : frame.clocks ≡ length (seats_standards (frame_standards frames (length frames)) frame.seats.items)
      its_count = made_counted source order frames table shown frame end (made on) knows

      fresh : IsKnown source.blocks order (frames ++ frame ∷ []) (set table a entry) a
      fresh =
          let all = frames ++ frame ∷ [] in
          let inside = slice_get_within source.blocks a r is in
          let long = built.long in
          let many = built.many in
          let sum = length-append frames (frame ∷ []) in
          let less : k < length all = omega (arith, many, sum) in
          let most : k ≤ length frames = omega (arith, many) in
          let there : slice_get all k ≡ Some frame = ap (slice_get all) (sym many) ∙ at_end frames frame in
          let paths : frame_paths all (length all) k ≡ routine_paths (frame_paths frames (length frames)) frame.seats.items =
          paths_is all (length all) k frame less there ∙ (λ i. routine_paths (λ m. paths_more frames (frame ∷ []) k most m i) frame.seats.items) ∙ ap (λ n. routine_paths (frame_paths frames n) frame.seats.items) (sym many) in
          let starts : frame_has_starts all (length all) k ≡ routine_has_starts (frame_has_starts frames (length frames)) frame =
          has_starts_is all (length all) k frame less there ∙ (λ i. routine_has_starts (λ m. starts_more frames (frame ∷ []) k most m i) frame) ∙ ap (λ n. routine_has_starts (frame_has_starts frames n) frame) (sym many) in
          let standards : frame_standards all (length all) k ≡ seats_standards (frame_standards frames (length frames)) frame.seats.items =
          standards_is all (length all) k frame less there ∙ (λ i. seats_standards (λ m. standards_more frames (frame ∷ []) k most m i) frame.seats.items) ∙ ap (λ n. seats_standards (frame_standards frames n) frame.seats.items) (sym many) in
          record {
            callee = entry;
            at = set_here table a entry (omega (arith, inside, long));
            values_is = made_values source order frames table shown frame end (made on) knows ∙ ap length (framed_values (flagged run a) (routine_values source.blocks) r []) ∙ ap (λ f. length (f [])) (sym (has_values a r is));
            clocks_is = made_clocks source order frames table shown frame end (made on) knows ∙ ap length (framed_clocks (flagged run a) (routine_clocks source.blocks) r []) ∙ ap (λ f. length (f [])) (sym (has_clocks a r is));
            place_is = sym (place_there order k a below.once at);
            within = less;
            paths_is = made_paths source order frames table shown frame end (made on) knows ∙ ap length (sym paths);
            starts_is = its_mark ∙ sym starts;
            standards_is = sym (made on).counted ∙ its_count ∙ ap length (sym standards);
          }

      its_frame : IsFrame source order shown frame
      its_frame = made_is_frame source order frames table shown frame end (made on) knows

      its_turn : InTurn (frame_paths frames (length frames)) frame.seats.items
      its_turn = made_in_turn source order frames table shown frame end (made on) knows

    known_on : (n : ℕ) → Among (take (k + 1) order) n → flagged used n ≡ true → IsKnown source.blocks order (frames ++ frame ∷ []) (set table a entry) n
    known_on n here on =
        let inside = slice_get_within order k a at in
        let more : take (k + 1) order ≡ take k order ++ a ∷ [] = take_more order k a inside ∙ ap (λ x. take k order ++ x ∷ []) (get_or_is order k a at) in
        elim (cases_Bool (nat_eq n a)) [
          | inl same ↦ (
              let equal : a ≡ n = grind (arith, nat_tests) in
              subst (IsKnown source.blocks order (frames ++ frame ∷ []) (set table a entry)) equal (fresh (ap (flagged used) equal ∙ on)))
          | inr other ↦ (
              let apart : n ≢ a = grind (arith, nat_tests) in
              let before : Among (take k order) n = elim (among_last (take k order) a n (subst (λ l. Among l n) more here)) [
                | inl there ↦ there
                | inr last ↦ absurd (apart (sym last))
              ] in
              let old = known_more source.blocks order frames frame table n (built.known n before on) in
              record { callee = old.callee; at = set_there table a n entry old.callee apart old.at; values_is = old.values_is; clocks_is = old.clocks_is; place_is = old.place_is; within = old.within; paths_is = old.paths_is; starts_is = old.starts_is; standards_is = old.standards_is })
        ]

    of_blocks_on : (j n : ℕ) (p : PlainRoutine) (f : Frame) → slice_get order j ≡ Some n → slice_get source.blocks n ≡ Some p → slice_get (frames ++ frame ∷ []) j ≡ Some f → flagged used n ≡ true → IsFrame source order (framed (flagged run n) p) f
    of_blocks_on j n p f listed there found on =
        let many = built.many in
        let sum = length-append frames (frame ∷ []) in
        let within = slice_get_within (frames ++ frame ∷ []) j f found in
        elim (cases_Bool (nat_lt j (length frames))) [
          | inl less ↦ (let small : j < length frames = grind (arith, nat_tests) in built.of_blocks j n p f listed there (sym (front frames (frame ∷ []) j small) ∙ found) on)
          | inr past ↦ (
              let last : j ≡ length frames = grind (arith, nat_tests, within, sum) in
              let same_frame : Some frame ≡ Some f = sym (at_end frames frame) ∙ ap (slice_get (frames ++ frame ∷ [])) (sym last) ∙ found in
              let same_number : Some a ≡ Some n = sym at ∙ ap (slice_get order) (sym (last ∙ many)) ∙ listed in
              let number : a ≡ n = cc in
              let same_routine : Some r ≡ Some p = sym is ∙ ap (slice_get source.blocks) number ∙ there in
              let f_is : frame ≡ f = cc in
              let p_is : r ≡ p = cc in
              subst (λ m. IsFrame source order (framed (flagged run m) p) f) number
              (subst (λ x. IsFrame source order (framed (flagged run a) x) f) p_is (subst (IsFrame source order (framed (flagged run a) r)) f_is (its_frame (ap (flagged used) number ∙ on)))))
        ]

    of_others_on : (j n : ℕ) (f : Frame) → slice_get order j ≡ Some n → slice_get (frames ++ frame ∷ []) j ≡ Some f → flagged used n ≡ false → IsBlank f
    of_others_on j n f listed found off =
        let many = built.many in
        let sum = length-append frames (frame ∷ []) in
        let within = slice_get_within (frames ++ frame ∷ []) j f found in
        elim (cases_Bool (nat_lt j (length frames))) [
          | inl less ↦ (let small : j < length frames = grind (arith, nat_tests) in built.of_others j n f listed (sym (front frames (frame ∷ []) j small) ∙ found) off)
          | inr past ↦ (
              let last : j ≡ length frames = grind (arith, nat_tests, within, sum) in
              let same_frame : Some frame ≡ Some f = sym (at_end frames frame) ∙ ap (slice_get (frames ++ frame ∷ [])) (sym last) ∙ found in
              let same_number : Some a ≡ Some n = sym at ∙ ap (slice_get order) (sym (last ∙ many)) ∙ listed in
              let number : a ≡ n = cc in
              let f_is : frame ≡ f = cc in
              subst IsBlank f_is (unused (ap (flagged used) number ∙ off)))
        ]

    in_turn_on : InTurn (frame_paths frames (length frames)) frame.seats.items
    in_turn_on =
        elim (cases_Bool (flagged used a)) [
          | inl on ↦ its_turn on
          | inr off ↦ blank_in_turn (frame_paths frames (length frames)) frame (unused off)
        ]

    marked_on : frame.has_starts ≡ routine_has_starts (frame_has_starts frames (length frames)) frame
    marked_on =
        elim (cases_Bool (flagged used a)) [
          | inl on ↦ its_mark on
          | inr off ↦ blank_marked (frame_has_starts frames (length frames)) frame (unused off)
        ]

    counted_on : frame.clocks ≡ length (seats_standards (frame_standards frames (length frames)) frame.seats.items)
    counted_on =
        elim (cases_Bool (flagged used a)) [
          | inl on ↦ its_count on
          | inr off ↦ blank_counted (frame_standards frames (length frames)) frame (unused off)
        ]

    pub built_more : AreBuilt source order used run (k + 1) frames' table'
    built_more =
        let whole : AreBuilt source order used run (k + 1) (frames ++ frame ∷ []) (set table a entry) = record {
          many = (let many = built.many in let sum = length-append frames (frame ∷ []) in omega (arith, many, sum));
          long = length-set table a entry ∙ built.long;
          known = known_on;
          of_blocks = of_blocks_on;
          of_others = of_others_on;
          in_turn = in_turn_more frames frame built.in_turn in_turn_on;
          marked = marked_more frames frame built.marked marked_on;
          counted = counted_more frames frame built.counted counted_on;
        } in
        subst (λ fs. AreBuilt source order used run (k + 1) fs table') (sym pushed) (subst (AreBuilt source order used run (k + 1) (frames ++ frame ∷ [])) (sym kept) whole)

-- before the first block type
pub built_none : (source : Source) (order : List ℕ) (used run : List Bool) (frames : List Frame) (table : List Callee) → frames ≡ [] → length table ≡ length source.blocks → AreBuilt source order used run 0 frames table
built_none source order used run frames table none long =
    subst (λ fs. AreBuilt source order used run 0 fs table) (sym none)
    (record { many = refl; long = long; known = λ n here on. absurd (nowhere order n here); of_blocks = λ j n r f listed there found on. absurd (cc); of_others = λ j n f listed found off. absurd (cc); in_turn = λ k f at. absurd (cc); marked = λ k f at. absurd (cc); counted = λ k f at. absurd (cc) })
  where
    nowhere : (xs : List ℕ) (n : ℕ) → Among (take 0 xs) n → ⊥
    nowhere [] n here = elim here [ ]
    nowhere (x ∷ xs) n here = elim here [ ]

-- what an order lists is the number of a block type
pub listed : (blocks : List PlainRoutine) (order : List ℕ) → AreBelow blocks order → (k : ℕ) → k < length order → get_or order k 0 < length blocks
listed blocks order below k less = below.within (get_or order k 0) (among_at order k (get_or order k 0) (slice_get-get_or order k 0 less))

-- what is made of a routine, with or without its body
pub made_framed : (source : Source) (table : List Callee) (run : Bool) (r : PlainRoutine) (frame : Frame) (end : Extent) → frame.seats.items ≡ seats_by table (is_called (framed run r)) (first_of r) r.instances
    → end ≡ ends_by table (is_called (framed run r)) (first_of r) r.instances → end.paths < 2 ^ 32 → view_body frame.starts.items ≡ mapped_body (numbers source r) (meant_in source r r.starts)
    → view_body frame.body.items ≡ mapped_body (numbers source r) (meant_in source r (framed run r).body) → frame.has_starts ≡ (not (length frame.starts.items == 0) || any_starts table r.instances) → frame.clocks ≡ end.clocks
    → IsMade source table (framed run r) frame end
made_framed source table true r frame end seats is few starts body marked counted = record { seats_are = seats; end_is = is; few = few; starts_are = starts; body_is = body; marked = marked; counted = counted }
made_framed source table false r frame end seats is few starts body marked counted = record { seats_are = seats; end_is = is; few = few; starts_are = starts; body_is = body; marked = marked; counted = counted }
