-- A program's frame costs no more than the program.
use Rattle.std.proofs.Common.{◌≡◌, ◌∙◌, ap, sym, subst, refl, ℕ, zero, suc, ◌+◌, ◌<◌, ◌≤◌, max, Bool, true, false, List, [], ◌∷◌, length, get_or, Option, Some, None, slice_get, inl, inr, arith}
use Rattle.std.specs.Prelude.{nat_eq, nat_lt, is_some, unwrap_or, option_map}
use Rattle.std.specs.List.{position, position_or_len}
use Rattle.std.specs.Option.{option_map_or}
use Rattle.std.proofs.lemmas.Bool.{cases_lt, cases_Bool}
use Rattle.std.proofs.lemmas.Bool.Decides.{nat_tests}
use Rattle.std.proofs.lemmas.List.{length-map}
use Rattle.std.proofs.lemmas.List.Quantifiers.{position-Some}
use Rattle.std.proofs.lemmas.Option.{slice_get_within, slice_get-get_or, slice_get-map, get_or_from_slice_get}
use Rattle.st_tree.specs.Costs.{body_cost}
use Rattle.st_tree.specs.Plain.{PlainBody, done}
use Rattle.st_tree.specs.View.{view_body}
use Rattle.logic_source.specs.Constants.{for_turns}
use Rattle.st_blocks.specs.Chains.{Among}
use Rattle.logic_source.specs.declared.logic.Instance.{Instance}
use Rattle.logic_source.specs.declared.logic.BlockRef.{BlockRef}
use Rattle.logic_source.specs.declared.logic.BlockRef.TheVariants.{Ton, Tof, RTrig, Declared}
use Rattle.logic_source.specs.Source.{PlainRoutine, Source, own_cells}
use Rattle.logic_source.specs.Blocks.{AreBelow, HasItsTypes, DeclaresThere}
use Rattle.logic_source.specs.Seats.{value_count, clock_count}
use Rattle.logic_source.proofs.Agreeing.{among_at}
use Rattle.logic_source.proofs.Layouts.{all_at}
use Rattle.logic_source.proofs.Members.{instance_of_number}
use Rattle.logic_limits.specs.Counts as limits
use Rattle.logic_limits.specs.Counts.{instance_weight, called_weight, type_cost, program_costs}
use Rattle.logic_walk.specs.declared.frame.Seat.{Seat}
use Rattle.logic_walk.specs.declared.frame.Frame.{Frame}
use Rattle.logic_walk.proofs.Firsts.{first_past}
use Rattle.logic_frames.specs.Reached.{flagged}
use Rattle.logic_frames.specs.Numbers.{instance_number, HasItsNames, HasAllNames}
use Rattle.logic_frames.specs.Frames.{place_in, seated, AreSeats, IsFrame, framed, IsFrames}
use Rattle.vm_programs.specs.Sizes.{seat_cost, called_cost, frame_turns, routine_cost, frame_cost}
use Rattle.vm_programs.proofs.Parts.{cost_is}
use Rattle.vm_programs.specs.Codes.{CostNoMore}
use Rattle.vm_programs.proofs.Costs.{greater_rises}
use Rattle.vm_logic.proofs.Weighed.{turns_are, body_less}

-- a block type costs what its routine does, by what the block types that it declares cost
abbrev pub TypesCost : List PlainRoutine → List ℕ → Type 0
TypesCost blocks order = AreBelow blocks order → (n : ℕ) (r : PlainRoutine) → slice_get blocks n ≡ Some r → type_cost blocks n ≡ limits.routine_cost (type_cost blocks) r

pub element : {A : Type 0} (xs : List A) (n : ℕ) → n < length xs → (x : A) × (slice_get xs n ≡ Some x)
element [] n less = absurd (omega arith)
element (x ∷ xs) zero less = (x, refl)
element (x ∷ xs) (suc n) less = element xs n (omega (arith, less))

-- what stands at the place of a number in an order
place_by : (order : List ℕ) (m : ℕ) (o : Option ℕ) → position (nat_eq m) order ≡ o → unwrap_or o (length order) < length order → slice_get order (unwrap_or o (length order)) ≡ Some m
place_by order m None is less = absurd (omega arith)
place_by order m (Some j) is less =
    let found = position-Some (nat_eq m) order j 0 is in
    let test = found.1 in
    let same : get_or order j 0 ≡ m = grind (arith, nat_tests) in
    slice_get-get_or order j 0 less ∙ ap Some same

pub place_at : (order : List ℕ) (m : ℕ) → place_in order m < length order → slice_get order (place_in order m) ≡ Some m
place_at order m less = place_by order m (position (nat_eq m) order) refl less

-- a number that is listed has its place
listed_within : (order : List ℕ) (m : ℕ) → Among order m → position_or_len (nat_eq m) order < length order
listed_within [] m here = elim here [ ]
listed_within (a ∷ order) m here =
    elim (cases_Bool (nat_eq m a)) [
      | inl is ↦ rw is (omega arith)
      | inr isnt ↦ (let more = listed_within order m (later a m order isnt here) in rw isnt (omega (arith, more)))
    ]
  where
    later : (a m : ℕ) (order : List ℕ) → nat_eq m a ≡ false → Among (a ∷ order) m → Among order m
    later a m order isnt (inl same) = absurd (let other = isnt in grind (arith, nat_tests))
    later a m order isnt (inr more) = more

pub place_within : (order : List ℕ) (m : ℕ) → Among order m → place_in order m < length order
place_within order m here =
    let within = listed_within order m here in
    let is : nat_lt (position_or_len (nat_eq m) order) (length order) ≡ true = grind (arith, nat_tests) in
    rw is within

-- what is cost past the first frames
cost_past : (frames : List Frame) (limit k : ℕ) → limit ≤ k → frame_cost frames limit k ≡ 0
unfolding frame_cost
cost_past frames limit k h = first_past 0 routine_cost frames limit k h

-- what a routine's instances cost by their seats
module _ (blocks : List PlainRoutine) (order : List ℕ) (r : PlainRoutine) (inner outer : ℕ → ℕ) where
  seat_less : (b : BlockRef) → ((m : ℕ) → b ≡ Declared m → inner (place_in order m) ≤ outer m) → seat_cost inner (seated order b) ≤ instance_weight outer b
  seat_less Ton less = omega arith
  seat_less Tof less = omega arith
  seat_less RTrig less = omega arith
  seat_less (Declared m) less = less m refl

  abbrev seat_at : List Seat → ℕ → ℕ
  seat_at seats k = option_map_or (λ (s : Seat). seat_cost inner s.of) (slice_get seats k) 0

  seats_less : (is : List Instance) (seats : List Seat) (v c k : ℕ) (i : Instance) → AreSeats blocks r order v c is seats → slice_get is k ≡ Some i → ((m : ℕ) → i.of ≡ Declared m → inner (place_in order m) ≤ outer m) → seat_at seats k ≤ instance_weight outer i.of
  seats_less [] seats v c k i are at less = absurd (cc)
  seats_less (j ∷ is) [] v c k i are at less = absurd are
  seats_less (j ∷ is) (seat ∷ seats) v c zero i are at less =
      let same : j ≡ i = cc in
      let of_is : seat.of ≡ seated order i.of = are.0.of_is ∙ ap (λ (x : Instance). seated order x.of) same in
      subst (λ o. seat_cost inner o ≤ instance_weight outer i.of) (sym of_is) (seat_less i.of less)
  seats_less (j ∷ is) (seat ∷ seats) v c (suc k) i are at less = seats_less is seats (v + value_count blocks j.of) (c + clock_count blocks j.of) k i are.1 at less

  called_by : (seats : List Seat) (name : List ℕ) (o : Option ℕ) → AreSeats blocks r order (own_cells r) 0 r.instances seats → ((i : Instance) (m : ℕ) → Among r.instances i → i.of ≡ Declared m → inner (place_in order m) ≤ outer m)
      → instance_number r name ≡ o → is_some o ≡ true → called_cost inner seats (unwrap_or o 0) ≤ called_weight outer r name
  called_by seats name None are less number there = absurd (cc)
  called_by seats name (Some k) are less number there =
      let it = instance_of_number r name k number in
      let i = it.0 in
      let own = seats_less r.instances seats (own_cells r) 0 k i are it.1 (λ m of_is. less i m (among_at r.instances k i it.1) of_is) in
      let named : called_weight outer r name ≡ instance_weight outer i.of = ap (λ o. option_map_or (instance_weight outer) (option_map (λ (x : Instance). x.of) o) 0) it.2 in
      omega (arith, own, named)

  pub called_less : (seats : List Seat) (name : List ℕ) → AreSeats blocks r order (own_cells r) 0 r.instances seats → ((i : Instance) (m : ℕ) → Among r.instances i → i.of ≡ Declared m → inner (place_in order m) ≤ outer m)
      → is_some (instance_number r name) ≡ true → called_cost inner seats (unwrap_or (instance_number r name) 0) ≤ called_weight outer r name
  called_less seats name are less there = called_by seats name (instance_number r name) are less refl there

module _ (source : Source) (order : List ℕ) (frames : List Frame) (are : IsFrames source order frames) (below : AreBelow source.blocks order) (types : HasItsTypes source) (names : HasAllNames source) (costs : TypesCost source.blocks order) where
  -- a frame with a routine's seats and body costs no more than the routine
  frame_less : (r : PlainRoutine) (frame : Frame) (k : ℕ) → IsFrame source order r frame → HasItsNames source r
      → ((i : Instance) (m : ℕ) → Among r.instances i → i.of ≡ Declared m → frame_cost frames k (place_in order m) ≤ type_cost source.blocks m) → routine_cost (frame_cost frames k) frame ≤ limits.routine_cost (type_cost source.blocks) r
  frame_less r frame k is known less =
      let own = body_less source r max greater_rises frame_turns for_turns (turns_are source r) (called_cost (frame_cost frames k) frame.seats.items) (called_weight (type_cost source.blocks) r)
      (λ name there. called_less source.blocks order r (frame_cost frames k) (type_cost source.blocks) frame.seats.items name is.seats_are less there) 1 r.body known.in_body in
      subst (λ (body : PlainBody ℕ). body_cost frame_turns (called_cost (frame_cost frames k) frame.seats.items) body ≤ limits.routine_cost (type_cost source.blocks) r) (sym is.body_is) own

  empty_less : (frame : Frame) (k most : ℕ) → view_body frame.body.items ≡ done → routine_cost (frame_cost frames k) frame ≤ most
  empty_less frame k most is = subst (λ (body : PlainBody ℕ). body_cost frame_turns (called_cost (frame_cost frames k) frame.seats.items) body ≤ most) (sym is) (omega arith)

  run_less : (b : Bool) (r : PlainRoutine) (frame : Frame) (k : ℕ) → IsFrame source order (framed b r) frame → HasItsNames source r
      → ((i : Instance) (m : ℕ) → Among r.instances i → i.of ≡ Declared m → frame_cost frames k (place_in order m) ≤ type_cost source.blocks m) → routine_cost (frame_cost frames k) frame ≤ limits.routine_cost (type_cost source.blocks) r
  run_less true r frame k is known less = frame_less r frame k is known less
  run_less false r frame k is known less = empty_less frame k _ is.body_is

  frame_there : (k : ℕ) → k < length order + length source.programs → (frame : Frame) × (slice_get frames k ≡ Some frame)
  frame_there k less = let many = are.whole in element frames k (omega (arith, less, many))

  -- the frame at a block type's place costs no more than the block type, if those before a number do
  place_less : (k m : ℕ) → k ≤ length order → ((j : ℕ) → j < k → slice_get order j ≡ Some m → frame_cost frames k j ≤ type_cost source.blocks m) → frame_cost frames k (place_in order m) ≤ type_cost source.blocks m
  place_less k m short before =
      elim (cases_lt (place_in order m) k) [
        | inl less ↦ before (place_in order m) less (place_at order m (omega (arith, less, short)))
        | inr past ↦ (let none = cost_past frames k (place_in order m) past in omega (arith, none))
      ]

  -- a block type's frame costs no more than the block type
  block_less : (depth limit k n : ℕ) → k < depth → slice_get order k ≡ Some n → frame_cost frames limit k ≤ type_cost source.blocks n
  block_less zero limit k n deep at = absurd (omega (arith, deep))
  block_less (suc d) limit k n deep at =
      elim (cases_lt k limit) [
        | inl less ↦ (
            let within = slice_get_within order k n at in
            let r = element source.blocks n (below.within n (among_at order k n at)) in
            let frame = frame_there k (omega (arith, within)) in
            let known = all_at (HasItsNames source) source.blocks n r.0 names.in_blocks r.1 in
            let is = cost_is frames limit k frame.0 less frame.1 in
            let type_is = costs below n r.0 r.1 in
            let inside : routine_cost (frame_cost frames k) frame.0 ≤ limits.routine_cost (type_cost source.blocks) r.0 =
            elim (cases_Bool (flagged are.used n)) [
              | inl used ↦ run_less (flagged are.run n) r.0 frame.0 k (are.of_blocks k n r.0 frame.0 at r.1 frame.1 used) known
                  (λ i m here of_is. place_less k m (omega (arith, within)) (λ j before there. block_less d k j m (omega (arith, deep, before)) there))
              | inr off ↦ empty_less frame.0 k _ (ap (λ l. view_body l) (are.of_others k n frame.0 at frame.1 off).body_is)
            ]
            in
            omega (arith, is, type_is, inside))
        | inr past ↦ (let none = cost_past frames limit k past in omega (arith, none))
      ]

  -- the frame of a block type that is listed
  listed_less : (k m : ℕ) → Among order m → frame_cost frames k (place_in order m) ≤ type_cost source.blocks m
  listed_less k m here = let there = place_within order m here in block_less (suc (place_in order m)) k (place_in order m) m (omega arith) (place_at order m there)

  -- a program's frame costs no more than the program
  pub program_less : (n : ℕ) (p : PlainRoutine) → slice_get source.programs n ≡ Some p → frame_cost frames (length frames) (length order + n) ≤ limits.routine_cost (type_cost source.blocks) p
  program_less n p at =
      let within = slice_get_within source.programs n p at in
      let k = length order + n in
      let frame = frame_there k (omega (arith, within)) in
      let less = slice_get_within frames k frame.0 frame.1 in
      let known = all_at (HasItsNames source) source.programs n p names.in_programs at in
      let there = all_at (DeclaresThere source.blocks) source.programs n p types.in_programs at in
      let is = cost_is frames (length frames) k frame.0 less frame.1 in
      let inside = frame_less p frame.0 k (are.of_programs n p frame.0 at frame.1) known (λ i m here of_is. listed_less k m (below.whole m (there m (i, here, of_is)))) in
      omega (arith, is, inside)

  -- as the list of all programs' costs has it
  cost_listed : (n : ℕ) (p : PlainRoutine) → slice_get source.programs n ≡ Some p → frame_cost frames (length frames) (length order + n) ≤ get_or (program_costs source) n 0
  cost_listed n p at =
      let own = program_less n p at in
      let listed : slice_get (program_costs source) n ≡ Some (limits.routine_cost (type_cost source.blocks) p) = slice_get-map (limits.routine_cost (type_cost source.blocks)) source.programs n ∙ ap (option_map (limits.routine_cost (type_cost source.blocks))) at in
      let same = get_or_from_slice_get (program_costs source) n (limits.routine_cost (type_cost source.blocks) p) 0 listed in
      omega (arith, own, same)

  -- no program's frame costs more than the list has it
  pub costs_listed : CostNoMore frames (length order) (program_costs source)
  costs_listed n less =
      let many = length-map source.programs (limits.routine_cost (type_cost source.blocks)) in
      let p = element source.programs n (omega (arith, less, many)) in
      cost_listed n p.0 p.1
