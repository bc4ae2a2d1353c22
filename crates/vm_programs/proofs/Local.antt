-- What a routine is hangs on the frames of its instances alone.
use Rattle.std.proofs.Common.{◌≡◌, ap, refl, ℕ, zero, suc, ◌+◌, ◌<◌, ◌≤◌, ◌++◌, Bool, true, List, [], ◌∷◌, length, Option, Some, None, subst}
use Rattle.std.specs.Prelude.{slice_get, if◌then◌else◌}
use Rattle.std.specs.Option.{option_map_or}
use Rattle.st_tree.specs.View.{view_body}
use Rattle.st_tree.specs.Costs.{body_cost, body_size}
use Rattle.st_tree.specs.Mapping.{body_known}
use Rattle.st_tree.specs.Meaning.{Ran, Done, run_all}
use Rattle.logic_cells.specs.Cells.{PlainCells}
use Rattle.plant_types.specs.Values.{Path}
use Rattle.logic_walk.specs.declared.frame.SeatOf.{SeatOf}
use Rattle.logic_walk.specs.declared.frame.SeatOf.TheVariants as seat_of
use Rattle.logic_walk.specs.declared.frame.Base.{Base}
use Rattle.logic_walk.specs.declared.frame.Frame.{Frame}
use Rattle.logic_walk.specs.declared.frame.Seat.{Seat}
use Rattle.logic_walk.specs.Frames.{paths_of, paths_below, seats_paths, routine_paths, AreNumbered, InTurn}
use Rattle.logic_walk.specs.Walks.{called, called_by, frame_space, base_of}
use Rattle.codegen.specs.Sizes.{seat_cost, called_cost, frame_turns, routine_cost, routine_size}
use Rattle.codegen.specs.Within.{has_called, has_instance, there, routine_there}
use Rattle.vm_programs.specs.Codes.{IsOfFirst, AreOfFirst}

-- two rules give the same of so many first frames
abbrev pub AreAlike : {A : Type 0} → (first : ℕ) → (ℕ → A) → (ℕ → A) → Type 0
AreAlike first inner outer = (k : ℕ) → k < first → inner k ≡ outer k

-- what two rules give alike of instances of first frames they give alike of each of a list
module _ {X : Type 0} (f g : Option Seat → X) (first : ℕ) (nothing : f None ≡ g None) (seated : (seat : Seat) → IsOfFirst first seat.of → f (Some seat) ≡ g (Some seat)) where
  at_seat : (seats : List Seat) → AreOfFirst first seats → (i : ℕ) → f (slice_get seats i) ≡ g (slice_get seats i)
  at_seat [] are i = nothing
  at_seat (seat ∷ seats) are zero = seated seat are.0
  at_seat (seat ∷ seats) are (suc i) = at_seat seats are.1 i

module _ (first : ℕ) (inner outer : ℕ → List Path) (alike : AreAlike first inner outer) where
  paths_of_same : (name : List ℕ) (of : SeatOf) → IsOfFirst first of → paths_of inner name of ≡ paths_of outer name of
  paths_of_same name (seat_of.Standard standard) is = refl
  paths_of_same name (seat_of.Frame k) is = ap (λ (ps : List Path). paths_of (λ j. ps) name (seat_of.Frame k)) (alike k is)

  below_same : (seat : Seat) → IsOfFirst first seat.of → paths_below inner seat ≡ paths_below outer seat
  below_same seat is = ap (λ (ps : List Path). if seat.is_called then ps else []) (paths_of_same seat.name seat.of is)

  seats_same : (seats : List Seat) → AreOfFirst first seats → seats_paths inner seats ≡ seats_paths outer seats
  seats_same [] are = refl
  seats_same (seat ∷ seats) are = λ i. below_same seat are.0 i ++ seats_same seats are.1 i

  pub paths_local : (seats : List Seat) → AreOfFirst first seats → routine_paths inner seats ≡ routine_paths outer seats
  paths_local seats are = ap (λ (ps : List Path). [] ∷ ps) (seats_same seats are)

  numbered_local : (n : ℕ) (seats : List Seat) → AreOfFirst first seats → AreNumbered inner n seats → AreNumbered outer n seats
  numbered_local n [] are h = tt
  numbered_local n (seat ∷ seats) are h =
      (h.0, subst (λ m. AreNumbered outer (n + m) seats) (ap (λ (ps : List Path). length ps) (below_same seat are.0)) (numbered_local (n + length (paths_below inner seat)) seats are.1 h.1))

  pub in_turn_local : (seats : List Seat) → AreOfFirst first seats → InTurn inner seats → InTurn outer seats
  in_turn_local seats are h = record {
    numbered = numbered_local 1 seats are h.numbered;
    few = subst (λ (ps : List Path). length ps ≤ 4294967296) (paths_local seats are) h.few;
  }

module _ (first t globals : ℕ) (inner outer : ℕ → Base → Path → PlainCells → Ran PlainCells) (alike : AreAlike first inner outer) where
  called_by_same : (of : SeatOf) (base : Base) (seat : Seat) (path : Path) (cells : PlainCells) → IsOfFirst first of → called_by t inner of base seat path cells ≡ called_by t outer of base seat path cells
  called_by_same (seat_of.Standard standard) base seat path cells is = refl
  called_by_same (seat_of.Frame k) base seat path cells is = λ i. if seat.is_called then alike k is i (base_of base seat) (seat.name ∷ path) cells else Done cells

  pub run_local : (frame : Frame) → AreOfFirst first frame.seats.items → (base : Base) (path : Path) (cells : PlainCells)
      → run_all (frame_space t globals inner frame.seats.items base path) (view_body frame.body.items) cells ≡ run_all (frame_space t globals outer frame.seats.items base path) (view_body frame.body.items) cells
  run_local frame are base path cells =
      let seats = frame.seats.items in
      let enters : (cs : PlainCells) (instance : ℕ) → called t inner (slice_get seats instance) base path cs ≡ called t outer (slice_get seats instance) base path cs =
      λ cs instance. at_seat (λ o. called t inner o base path cs) (λ o. called t outer o base path cs) first refl (λ seat is. called_by_same seat.of base seat path cs is) seats are instance
      in
      let same = frame_space t globals inner seats base path in
      λ i. run_all (record { path = same.path; get = same.get; put = same.put; get_at = same.get_at; put_at = same.put_at; get_output = same.get_output; put_input = same.put_input; enter = λ cs instance. enters cs instance i }) (view_body frame.body.items) cells

module _ (has_value has_clock : ℕ → Bool) (first globals : ℕ) (inner outer : ℕ → Base → Bool) (alike : AreAlike first inner outer) where
  has_called_same : (of : SeatOf) (base : Base) (seat : Seat) → IsOfFirst first of → has_called has_value has_clock inner of base seat ≡ has_called has_value has_clock outer of base seat
  has_called_same (seat_of.Standard of) base seat is = refl
  has_called_same (seat_of.Frame k) base seat is = λ i. if seat.is_called then alike k is i (base_of base seat) else true

  pub there_local : (frame : Frame) → AreOfFirst first frame.seats.items → (base : Base) → routine_there has_value has_clock globals inner frame base ≡ routine_there has_value has_clock globals outer frame base
  there_local frame are base =
      let seats = frame.seats.items in
      let called_same : (instance : ℕ) → has_instance has_value has_clock inner (slice_get seats instance) base ≡ has_instance has_value has_clock outer (slice_get seats instance) base =
      λ instance. at_seat (λ o. has_instance has_value has_clock inner o base) (λ o. has_instance has_value has_clock outer o base) first refl (λ seat is. has_called_same seat.of base seat is) seats are instance
      in
      let same = there has_value has_clock globals inner seats base in
      λ i. body_known (record { has_variable = same.has_variable; has_array = same.has_array; has_instance = λ instance. called_same instance i; has_input = same.has_input; has_output = same.has_output }) (view_body frame.body.items)

module _ (first : ℕ) (inner outer : ℕ → ℕ) (alike : AreAlike first inner outer) where
  seat_cost_same : (of : SeatOf) → IsOfFirst first of → seat_cost inner of ≡ seat_cost outer of
  seat_cost_same (seat_of.Standard of) is = refl
  seat_cost_same (seat_of.Frame k) is = alike k is

  called_same : (seats : List Seat) → AreOfFirst first seats → (instance : ℕ) → called_cost inner seats instance ≡ called_cost outer seats instance
  called_same seats are instance =
      at_seat (λ o. option_map_or (λ (seat : Seat). seat_cost inner seat.of) o 0) (λ o. option_map_or (λ (seat : Seat). seat_cost outer seat.of) o 0) first refl (λ seat is. seat_cost_same seat.of is) seats are instance

  pub cost_local : (frame : Frame) → AreOfFirst first frame.seats.items → routine_cost inner frame ≡ routine_cost outer frame
  cost_local frame are = λ i. body_cost frame_turns (λ instance. called_same frame.seats.items are instance i) (view_body frame.body.items)

  pub size_local : (frame : Frame) → AreOfFirst first frame.seats.items → routine_size inner frame ≡ routine_size outer frame
  size_local frame are = λ i. body_size (λ instance. called_same frame.seats.items are instance i) (view_body frame.body.items)
