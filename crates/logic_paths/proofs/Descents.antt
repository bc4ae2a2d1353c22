-- The instance below which a path lies, and the text of the path by the one below the instance.
use Rattle.std.proofs.Common.{◌≡◌, ◌∙◌, ap, sym, subst, refl, arith, ℕ, suc, ◌+◌, ◌-◌, ◌<◌, ◌≤◌, Bool, true, false, List, [], ◌∷◌, ◌++◌, Some, inl, inr, length, get_or, length-append, append_assoc, append-nil}
use Rattle.std.proofs.lemmas.Bool.{cases_lt}
use Rattle.std.proofs.lemmas.List.{length-map}
use Rattle.std.proofs.lemmas.Bool.Decides.{nat_tests}
use Rattle.std.proofs.lemmas.Option.{slice_get_within, slice_get_read}
use Rattle.std.specs.Prelude.{slice_get, nat_le, ◌&&◌, if◌then◌else◌, codes, Ok, Err, Result, IfOk}
use Rattle.logic_cells.specs.declared.clock.Standard.{Standard}
use Rattle.plant_types.specs.Values.{Path}
use Rattle.logic_walk.specs.declared.frame.Frame.{Frame}
use Rattle.logic_walk.specs.declared.frame.SeatOf.{SeatOf}
use Rattle.logic_walk.specs.declared.frame.SeatOf.TheVariants as seat_of
use Rattle.logic_walk.specs.declared.frame.Seat.{Seat}
use Rattle.logic_walk.specs.Frames.{paths_of, paths_below, seats_paths, routine_paths, frame_paths, AreNumbered, InTurn, AreInTurn}
use Rattle.logic_walk.specs.Paths.{path_suffix, is_of_frame, begins_by, last_by}
use Rattle.logic_walk.proofs.Firsts.{first_past, paths_is}
use Rattle.logic_walk.proofs.Numbers.{number_below}
use Rattle.logic_walk.proofs.Ranks.{frame_at}

frame_is_none : (standard : Standard) (k : ℕ) → seat_of.Standard standard ≡ seat_of.Frame k → ⊥
frame_is_none standard k e = cc

plus_zero : (i : ℕ) → i + 0 ≡ i
plus_zero i = omega arith

zero_plus : (j : ℕ) → 0 + j ≡ j
zero_plus j = omega arith

plus_next : (i j : ℕ) → i + suc j ≡ (i + 1) + j
plus_next i j = omega arith

module _ (paths : ℕ → List Path) (all : List Seat) (path : ℕ) where
  -- a path number is below an instance, which is of a frame and called
  pub record IsUnder (seat : Seat) : Type 0 where
    pub k : ℕ
    pub is : seat.of ≡ seat_of.Frame k
    pub marked : seat.is_called ≡ true
    pub low : seat.paths ≤ path
    pub inside : path < seat.paths + length (paths k)

  -- the path number is below the instance of a number
  pub record IsBelow (i : ℕ) : Type 0 where
    pub seat : Seat
    pub at : slice_get all i ≡ Some seat
    pub under : IsUnder seat

  module _ (seat : Seat) (n i found : ℕ) (number : seat.paths ≡ n) (at : slice_get all i ≡ Some seat) (before : path < n → IsBelow found) where
    step_of : (of : SeatOf) (b low : Bool) → seat.of ≡ of → seat.is_called ≡ b → nat_le seat.paths path ≡ low → path < n + length (if b then paths_of paths seat.name of else []) → IsBelow (if is_of_frame of && (b && low) then i else found)
    step_of (seat_of.Standard standard) true low is marked e h = before (omega (arith, h))
    step_of (seat_of.Standard standard) false low is marked e h = before (omega (arith, h))
    step_of (seat_of.Frame k) true true is marked e h =
        let many : length (paths_of paths seat.name (seat_of.Frame k)) ≡ length (paths k) = length-map (paths k) (λ p. p ++ seat.name ∷ []) in
        record { seat = seat; at = at; under = record { k = k; is = is; marked = marked; low = grind (arith, nat_tests); inside = omega (arith, h, many, number) } }
    step_of (seat_of.Frame k) true false is marked e h =
        let above : path < seat.paths = grind (arith, nat_tests) in
        before (omega (arith, above, number))
    step_of (seat_of.Frame k) false low is marked e h = before (omega (arith, h))

    step : path < n + length (paths_below paths seat) → IsBelow (if begins_by seat path then i else found)
    step h = step_of seat.of seat.is_called (nat_le seat.paths path) refl refl refl h

  last_is : (seats : List Seat) (n i found : ℕ) → AreNumbered paths n seats → ((j : ℕ) (s : Seat) → slice_get seats j ≡ Some s → slice_get all (i + j) ≡ Some s) → path < n + length (seats_paths paths seats) → (path < n → IsBelow found)
      → IsBelow (last_by seats path found i)
  last_is [] n i found numbered at h before = before (omega (arith, h))
  last_is (seat ∷ seats) n i found numbered at h before =
      let many : length (paths_below paths seat ++ seats_paths paths seats) ≡ length (paths_below paths seat) + length (seats_paths paths seats) = length-append (paths_below paths seat) (seats_paths paths seats) in
      let here : slice_get all i ≡ Some seat = subst (λ j. slice_get all j ≡ Some seat) (plus_zero i) (at 0 seat refl) in
      last_is seats (n + length (paths_below paths seat)) (i + 1) (if begins_by seat path then i else found) numbered.1
      (λ j s e. subst (λ m. slice_get all m ≡ Some s) (plus_next i j) (at (suc j) s e))
      (omega (arith, h, many))
      (step seat n i found numbered.0 here before)

module _ (paths : ℕ → List Path) (seats : List Seat) (path : ℕ) where
  -- the instance that was read is the one below which the path number is
  pub read_is : (i : ℕ) (seat : Seat) → IsBelow paths seats path i → seat ≡ get_or seats i seat → slice_get seats i ≡ Some seat
  read_is i seat b is = slice_get_read seats (length seats) i seat refl (slice_get_within seats i b.seat b.at) is

  pub read_under : (i : ℕ) (seat : Seat) → IsBelow paths seats path i → seat ≡ get_or seats i seat → IsUnder paths seats path seat
  read_under i seat b is =
      let at = b.at in
      let read = read_is i seat b is in
      let same : b.seat ≡ seat = cc in
      subst (λ s. IsUnder paths seats path s) same b.under

  pub rest_inside : (seat : Seat) (k : ℕ) → IsUnder paths seats path seat → seat.of ≡ seat_of.Frame k → path - seat.paths < length (paths k)
  rest_inside seat k b is =
      let own = b.is in
      let same : b.k ≡ k = cc in
      let inside : path < seat.paths + length (paths k) = subst (λ n. path < seat.paths + length (paths n)) same b.inside in
      let low = b.low in
      omega (arith, inside, low)

  -- which is none of a standard block
  pub not_standard : (seat : Seat) (standard : Standard) → IsUnder paths seats path seat → seat.of ≡ seat_of.Standard standard → ⊥
  not_standard seat standard b is = frame_is_none standard b.k (sym is ∙ b.is)

-- the text of a path that goes on from another
suffix_append : (xs ys : Path) → path_suffix (xs ++ ys) ≡ path_suffix ys ++ path_suffix xs
suffix_append [] ys = sym (append-nil (path_suffix ys))
suffix_append (name ∷ xs) ys =
    ap (λ l. l ++ codes "." ++ name) (suffix_append xs ys)
    ∙ ap (λ l. l ++ name) (append_assoc (path_suffix ys) (path_suffix xs) (codes "."))
    ∙ append_assoc (path_suffix ys) (path_suffix xs ++ codes ".") name

module _ (frames : List Frame) (limit k : ℕ) where
  past : limit ≤ k → frame_paths frames limit k ≡ []
  unfolding frame_paths
  past h = first_past [] (λ paths frame. routine_paths paths frame.seats.items) frames limit k h

  none : (path : ℕ) → path < length (frame_paths frames limit k) → frame_paths frames limit k ≡ [] → ⊥
  none path h e = let empty : length (frame_paths frames limit k) ≡ 0 = ap (λ (l : List Path). length l) e in omega (arith, h, empty)

  -- a path number below a frame says that the frame is there
  pub within_limit : (path : ℕ) → path < length (frame_paths frames limit k) → k < limit
  within_limit path h = elim (cases_lt k limit) [
    | inl less ↦ less
    | inr more ↦ absurd (none path h (past more))
  ]

  module _ (frame : Frame) (less : k < limit) (at : slice_get frames k ≡ Some frame) where
    -- the frame itself has the path number 0
    own_suffix : (path : ℕ) → path ≡ 0 → path_suffix (get_or (frame_paths frames limit k) path []) ≡ []
    own_suffix path is = ap (λ (l : List Path). path_suffix (get_or l path [])) (paths_is frames limit k frame less at) ∙ ap (λ n. path_suffix (get_or (routine_paths (frame_paths frames k) frame.seats.items) n [])) is

    -- any other is below an instance
    descends : (path : ℕ) → AreInTurn frames → (path ≡ 0 → ⊥) → path < length (frame_paths frames limit k) → (seats : List Seat) (i : ℕ) → seats ≡ frame.seats.items → i ≡ last_by seats path 0 0 → IsBelow (frame_paths frames k) seats path i
    descends path turn other h seats i same is =
        let many : length (frame_paths frames limit k) ≡ suc (length (seats_paths (frame_paths frames k) frame.seats.items)) = ap (λ (l : List Path). length l) (paths_is frames limit k frame less at) in
        let b = last_is (frame_paths frames k) frame.seats.items path frame.seats.items 1 0 0 (turn k frame at).numbered (λ j s e. subst (λ m. slice_get frame.seats.items m ≡ Some s) (sym (zero_plus j)) e) (omega (arith, h, many)) (λ small. absurd (other (omega (arith, small)))) in
        subst (λ n. IsBelow (frame_paths frames k) seats path n) (sym is) (subst (λ l. IsBelow (frame_paths frames k) l path (last_by l path 0 0)) (sym same) b)

    -- its text goes on from the instance's name
    suffix_under : (path below i : ℕ) (seats : List Seat) (seat : Seat) → AreInTurn frames → seats ≡ frame.seats.items → slice_get seats i ≡ Some seat → IsUnder (frame_paths frames k) seats path seat → seat.of ≡ seat_of.Frame below
        → path_suffix (get_or (frame_paths frames limit k) path []) ≡ (codes "." ++ seat.name) ++ path_suffix (get_or (frame_paths frames k below) (path - seat.paths) [])
    suffix_under path below i seats seat turn same there b is =
        let low = b.low in
        let sum : seat.paths + (path - seat.paths) ≡ path = omega (arith, low) in
        let own : InTurn (frame_paths frames k) seats = subst (InTurn (frame_paths frames k)) (sym same) (turn k frame at) in
        let number = number_below (frame_paths frames k) seats i seat below (path - seat.paths) own there is b.marked (rest_inside (frame_paths frames k) seats path seat below b is) in
        ap (λ (l : List Path). path_suffix (get_or l path [])) (paths_is frames limit k frame less at)
        ∙ ap (λ (l : List Seat). path_suffix (get_or (routine_paths (frame_paths frames k) l) path [])) (sym same)
        ∙ ap (λ n. path_suffix (get_or (routine_paths (frame_paths frames k) seats) n [])) (sym sum)
        ∙ ap path_suffix number.path_is
        ∙ suffix_append (get_or (frame_paths frames k below) (path - seat.paths) []) (seat.name ∷ [])

module _ (frames : List Frame) (limit k path : ℕ) (there : limit ≤ length frames) (turn : AreInTurn frames) (within : path < length (frame_paths frames limit k)) where
  frame_is : (frame : Frame) → frame ≡ get_or frames k frame → slice_get frames k ≡ Some frame
  frame_is frame read = let less = within_limit frames limit k path within in frame_at frames k frame (omega (arith, less)) read

  pub own_found : (frame : Frame) → frame ≡ get_or frames k frame → path ≡ 0 → path_suffix (get_or (frame_paths frames limit k) path []) ≡ []
  own_found frame read is = own_suffix frames limit k frame (within_limit frames limit k path within) (frame_is frame read) path is

  -- the instance that is found in the frame that was read
  pub found : (frame : Frame) (seats : List Seat) (i : ℕ) → (path ≡ 0 → ⊥) → frame ≡ get_or frames k frame → seats ≡ frame.seats.items → i ≡ last_by seats path 0 0 → IsBelow (frame_paths frames k) seats path i
  found frame seats i other read same is = descends frames limit k frame (within_limit frames limit k path within) (frame_is frame read) path turn other within seats i same is

  -- and the text of the path
  pub found_suffix : (frame : Frame) (seats : List Seat) (i below : ℕ) (seat : Seat) → frame ≡ get_or frames k frame → seats ≡ frame.seats.items → IsBelow (frame_paths frames k) seats path i → seat ≡ get_or seats i seat → seat.of ≡ seat_of.Frame below
      → path_suffix (get_or (frame_paths frames limit k) path []) ≡ (codes "." ++ seat.name) ++ path_suffix (get_or (frame_paths frames k below) (path - seat.paths) [])
  found_suffix frame seats i below seat read same b at is =
      suffix_under frames limit k frame (within_limit frames limit k path within) (frame_is frame read) path below i seats seat turn same (read_is (frame_paths frames k) seats path i seat b at) (read_under (frame_paths frames k) seats path i seat b at) is

-- what was appended for the frame itself, and for an instance
pub own_pushed : (old suffix : List ℕ) → suffix ≡ [] → old ≡ old ++ suffix
own_pushed old suffix e = sym (append-nil old) ∙ ap (λ l. old ++ l) (sym e)

below_pushed : (old name inner suffix now later : List ℕ) → suffix ≡ (codes "." ++ name) ++ inner → now ≡ old ++ codes "." ++ name → later ≡ now ++ inner → later ≡ old ++ suffix
below_pushed old name inner suffix now later is first second =
    second ∙ ap (λ l. l ++ inner) (first ∙ append_assoc old (codes ".") name) ∙ append_assoc old (codes "." ++ name) inner ∙ ap (λ l. old ++ l) (sym is)

pub below_ok : {E : Type 0} (r : Result (Unit {0}) E) (old name inner suffix now later : List ℕ) → suffix ≡ (codes "." ++ name) ++ inner → now ≡ old ++ codes "." ++ name → IfOk r (λ _. later ≡ now ++ inner) → IfOk r (λ _. later ≡ old ++ suffix)
below_ok (Ok u) old name inner suffix now later is first second = below_pushed old name inner suffix now later is first second
below_ok (Err e) old name inner suffix now later is first second = second
