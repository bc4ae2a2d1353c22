-- The path numbers below the instances of a routine.
use Rattle.std.proofs.Common.{◌≡◌, ◌∙◌, ap, sym, subst, arith, ℕ, zero, suc, ◌+◌, ◌^◌, ◌<◌, List, [], ◌∷◌, ◌++◌, Some, length, map, get_or, length-append, true}
use Rattle.std.proofs.lemmas.List.{length-map, get_or-map, get_or_append_left, get_or-append-add}
use Rattle.std.specs.Prelude.{slice_get, if◌then◌else◌}
use Rattle.plant_types.specs.Values.{Path}
use Rattle.logic_walk.specs.declared.frame.SeatOf.TheVariants as seat_of
use Rattle.logic_walk.specs.declared.frame.Seat.{Seat}
use Rattle.logic_walk.specs.Frames.{paths_of, paths_below, seats_paths, routine_paths, AreNumbered, InTurn}

module _ (paths : ℕ → List Path) where
  -- the numbers below an instance, from a number on
  record Below (n m : ℕ) (seats : List Seat) (seat : Seat) : Type 0 where
    before : ℕ
    number_is : n + before ≡ seat.paths
    inside : before + m < length (seats_paths paths seats)
    path_is : get_or (seats_paths paths seats) (before + m) [] ≡ get_or (paths_below paths seat) m []

  below_first : (n m : ℕ) (seats : List Seat) (seat : Seat) → seat.paths ≡ n → m < length (paths_below paths seat) → Below n m (seat ∷ seats) seat
  below_first n m seats seat is h =
      let own = paths_below paths seat in
      let many : length (own ++ seats_paths paths seats) ≡ length own + length (seats_paths paths seats) = length-append own (seats_paths paths seats) in
      let start : 0 + m ≡ m = omega arith in
      record { before = 0; number_is = omega (arith, is); inside = omega (arith, h, many); path_is = ap (λ j. get_or (own ++ seats_paths paths seats) j []) start ∙ get_or_append_left own (seats_paths paths seats) [] m h }

  below_next : (n m : ℕ) (first : Seat) (seats : List Seat) (seat : Seat) → Below (n + length (paths_below paths first)) m seats seat → Below n m (first ∷ seats) seat
  below_next n m first seats seat b =
      let own = paths_below paths first in
      let many : length (own ++ seats_paths paths seats) ≡ length own + length (seats_paths paths seats) = length-append own (seats_paths paths seats) in
      let number = b.number_is in
      let inside = b.inside in
      let shift : (length own + b.before) + m ≡ length own + (b.before + m) = omega arith in
      record {
        before = length own + b.before;
        number_is = omega (arith, number);
        inside = omega (arith, inside, many);
        path_is = ap (λ j. get_or (own ++ seats_paths paths seats) j []) shift ∙ get_or-append-add own (seats_paths paths seats) (b.before + m) [] ∙ b.path_is;
      }

  below_seat : (n m i : ℕ) (seats : List Seat) (seat : Seat) → AreNumbered paths n seats → slice_get seats i ≡ Some seat → m < length (paths_below paths seat) → Below n m seats seat
  below_seat n m i [] seat numbered at h = absurd (cc)
  below_seat n m zero (first ∷ seats) seat numbered at h =
      let same : first ≡ seat = cc in
      subst (λ s. Below n m (first ∷ seats) s) same (below_first n m seats first numbered.0 (subst (λ (s : Seat). m < length (paths_below paths s)) (sym same) h))
  below_seat n m (suc i) (first ∷ seats) seat numbered at h = below_next n m first seats seat (below_seat (n + length (paths_below paths first)) m i seats seat numbered.1 at h)

  -- the paths below an instance of a frame that is called
  paths_called : (seat : Seat) (k : ℕ) → seat.of ≡ seat_of.Frame k → seat.is_called ≡ true → paths_below paths seat ≡ map (λ path. path ++ seat.name ∷ []) (paths k)
  paths_called seat k is marked = ap (λ b. if b then paths_of paths seat.name seat.of else []) marked ∙ ap (paths_of paths seat.name) is

  -- a path number below an instance of a frame that is called is one of the routine's, fits 32 bits, and its path is that of the frame, and then the instance's name
  pub record NumberedBelow (seats : List Seat) (seat : Seat) (k m : ℕ) : Type 0 where
    pub inside : seat.paths + m < length (routine_paths paths seats)
    pub fits : seat.paths + m < 2 ^ 32
    pub path_is : get_or (routine_paths paths seats) (seat.paths + m) [] ≡ get_or (paths k) m [] ++ seat.name ∷ []

  pub number_below : (seats : List Seat) (i : ℕ) (seat : Seat) (k m : ℕ) → InTurn paths seats → slice_get seats i ≡ Some seat → seat.of ≡ seat_of.Frame k → seat.is_called ≡ true → m < length (paths k) → NumberedBelow seats seat k m
  number_below seats i seat k m turn at is marked h =
      let under = λ (path : Path). path ++ seat.name ∷ [] in
      let own : paths_below paths seat ≡ map under (paths k) = paths_called seat k is marked in
      let many : length (paths_below paths seat) ≡ length (paths k) = ap (λ (l : List Path). length l) own ∙ length-map (paths k) under in
      let b = below_seat 1 m i seats seat turn.numbered at (subst (λ n. m < n) (sym many) h) in
      let number = b.number_is in
      let inside = b.inside in
      let few = turn.few in
      let sum : seat.paths + m ≡ suc (b.before + m) = omega (arith, number) in
      let within : seat.paths + m < length (routine_paths paths seats) = omega (arith, sum, inside) in
      record {
        inside = within;
        fits = omega (arith, within, few);
        path_is = ap (λ j. get_or (routine_paths paths seats) j []) sum ∙ b.path_is ∙ ap (λ (l : List Path). get_or l m []) own ∙ get_or-map under (paths k) m [] [] h;
      }
