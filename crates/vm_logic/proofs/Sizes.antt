-- The frames of a source that keeps the limit on size are small.
use Rattle.std.proofs.Common.{◌≡◌, ap, sym, subst, refl, ℕ, zero, suc, ◌+◌, ◌-◌, ◌<◌, ◌≤◌, Bool, true, false, List, length, Some, slice_get, inl, inr, arith}
use Rattle.std.proofs.lemmas.Bool.{cases_lt, cases_Bool}
use Rattle.std.proofs.lemmas.Option.{slice_get_within}
use Rattle.st_tree.specs.Costs.{body_size}
use Rattle.st_tree.specs.Plain.{PlainBody, done}
use Rattle.st_tree.specs.View.{view_body}
use Rattle.st_blocks.specs.Chains.{Among}
use Rattle.logic_source.specs.declared.logic.Instance.{Instance}
use Rattle.logic_source.specs.declared.logic.BlockRef.TheVariants.{Declared}
use Rattle.logic_source.specs.Source.{PlainRoutine, Source}
use Rattle.logic_source.specs.Blocks.{AreBelow, HasItsTypes, DeclaresThere}
use Rattle.logic_source.proofs.Agreeing.{among_at}
use Rattle.logic_source.proofs.Layouts.{all_at}
use Rattle.logic_limits.specs.Counts as limits
use Rattle.logic_limits.specs.Counts.{called_weight, type_slots, type_size, routine_slots}
use Rattle.logic_walk.specs.declared.frame.Frame.{Frame}
use Rattle.logic_walk.proofs.Firsts.{first_past}
use Rattle.logic_frames.specs.Reached.{flagged}
use Rattle.logic_frames.specs.Numbers.{HasItsNames, HasAllNames}
use Rattle.logic_frames.specs.Frames.{place_in, IsFrame, framed, IsFrames}
use Rattle.vm_programs.specs.Sizes.{called_cost, routine_size, frame_size}
use Rattle.vm_programs.proofs.Parts.{size_is}
use Rattle.vm_programs.specs.Codes.{AreSmall}
use Rattle.vm_programs.proofs.Costs.{sum_rises}
use Rattle.vm_logic.specs.Sound.{IsSound}
use Rattle.vm_logic.proofs.Costs.{element, place_at, place_within, called_less}
use Rattle.vm_logic.proofs.Weighed.{body_less}
use Rattle.vm_logic.proofs.Little.{program_size, reached_size}

-- a block type is as large as its routine, by the sizes of the block types that it declares
abbrev pub TypesSize : List PlainRoutine → List ℕ → Type 0
TypesSize blocks order = AreBelow blocks order → (n : ℕ) (r : PlainRoutine) → slice_get blocks n ≡ Some r → type_size blocks n ≡ limits.routine_size (type_size blocks) r

-- how large a frame is past the first ones
size_past : (frames : List Frame) (limit k : ℕ) → limit ≤ k → frame_size frames limit k ≡ 0
unfolding frame_size
size_past frames limit k h = first_past 0 routine_size frames limit k h

module _ (source : Source) (order : List ℕ) (frames : List Frame) (are : IsFrames source order frames) (below : AreBelow source.blocks order) (types : HasItsTypes source) (names : HasAllNames source) (types_size : TypesSize source.blocks order) where
  -- a frame with a routine's seats and body is no larger than the routine
  frame_less : (r : PlainRoutine) (frame : Frame) (k : ℕ) → IsFrame source order r frame → HasItsNames source r
      → ((i : Instance) (m : ℕ) → Among r.instances i → i.of ≡ Declared m → frame_size frames k (place_in order m) ≤ type_size source.blocks m) → routine_size (frame_size frames k) frame ≤ limits.routine_size (type_size source.blocks) r
  frame_less r frame k is known less =
      let own = body_less source r (λ a b. a + b) sum_rises (λ from to by. 1) (λ from to by. 1) (λ from to by. refl) (called_cost (frame_size frames k) frame.seats.items) (called_weight (type_size source.blocks) r)
      (λ name there. called_less source.blocks order r (frame_size frames k) (type_size source.blocks) frame.seats.items name is.seats_are less there) 1 r.body known.in_body in
      subst (λ (body : PlainBody ℕ). body_size (called_cost (frame_size frames k) frame.seats.items) body ≤ limits.routine_size (type_size source.blocks) r) (sym is.body_is) own

  empty_less : (frame : Frame) (k most : ℕ) → view_body frame.body.items ≡ done → routine_size (frame_size frames k) frame ≤ most
  empty_less frame k most is = subst (λ (body : PlainBody ℕ). body_size (called_cost (frame_size frames k) frame.seats.items) body ≤ most) (sym is) (omega arith)

  run_less : (b : Bool) (r : PlainRoutine) (frame : Frame) (k : ℕ) → IsFrame source order (framed b r) frame → HasItsNames source r
      → ((i : Instance) (m : ℕ) → Among r.instances i → i.of ≡ Declared m → frame_size frames k (place_in order m) ≤ type_size source.blocks m) → routine_size (frame_size frames k) frame ≤ limits.routine_size (type_size source.blocks) r
  run_less true r frame k is known less = frame_less r frame k is known less
  run_less false r frame k is known less = empty_less frame k _ is.body_is

  frame_there : (k : ℕ) → k < length order + length source.programs → (frame : Frame) × (slice_get frames k ≡ Some frame)
  frame_there k less = let many = are.whole in element frames k (omega (arith, less, many))

  -- the frame at a block type's place is no larger than the block type, if those before a number do
  place_less : (k m : ℕ) → k ≤ length order → ((j : ℕ) → j < k → slice_get order j ≡ Some m → frame_size frames k j ≤ type_size source.blocks m) → frame_size frames k (place_in order m) ≤ type_size source.blocks m
  place_less k m short before =
      elim (cases_lt (place_in order m) k) [
        | inl less ↦ before (place_in order m) less (place_at order m (omega (arith, less, short)))
        | inr past ↦ (let none = size_past frames k (place_in order m) past in omega (arith, none))
      ]

  -- a block type's frame is no larger than the block type
  block_less : (depth limit k n : ℕ) → k < depth → slice_get order k ≡ Some n → frame_size frames limit k ≤ type_size source.blocks n
  block_less zero limit k n deep at = absurd (omega (arith, deep))
  block_less (suc d) limit k n deep at =
      elim (cases_lt k limit) [
        | inl less ↦ (
            let within = slice_get_within order k n at in
            let r = element source.blocks n (below.within n (among_at order k n at)) in
            let frame = frame_there k (omega (arith, within)) in
            let known = all_at (HasItsNames source) source.blocks n r.0 names.in_blocks r.1 in
            let is = size_is frames limit k frame.0 less frame.1 in
            let type_is = types_size below n r.0 r.1 in
            let inside : routine_size (frame_size frames k) frame.0 ≤ limits.routine_size (type_size source.blocks) r.0 =
            elim (cases_Bool (flagged are.used n)) [
              | inl used ↦ run_less (flagged are.run n) r.0 frame.0 k (are.of_blocks k n r.0 frame.0 at r.1 frame.1 used) known
                  (λ i m here of_is. place_less k m (omega (arith, within)) (λ j before there. block_less d k j m (omega (arith, deep, before)) there))
              | inr off ↦ empty_less frame.0 k _ (ap (λ l. view_body l) (are.of_others k n frame.0 at frame.1 off).body_is)
            ]
            in
            omega (arith, is, type_is, inside))
        | inr past ↦ (let none = size_past frames limit k past in omega (arith, none))
      ]

  -- the frame of a block type that is listed
  listed_less : (k m : ℕ) → Among order m → frame_size frames k (place_in order m) ≤ type_size source.blocks m
  listed_less k m here = let there = place_within order m here in block_less (suc (place_in order m)) k (place_in order m) m (omega arith) (place_at order m there)

  -- a program's frame is no larger than the program
  program_less : (n : ℕ) (p : PlainRoutine) → slice_get source.programs n ≡ Some p → frame_size frames (length frames) (length order + n) ≤ limits.routine_size (type_size source.blocks) p
  program_less n p at =
      let within = slice_get_within source.programs n p at in
      let k = length order + n in
      let frame = frame_there k (omega (arith, within)) in
      let less = slice_get_within frames k frame.0 frame.1 in
      let known = all_at (HasItsNames source) source.programs n p names.in_programs at in
      let there = all_at (DeclaresThere source.blocks) source.programs n p types.in_programs at in
      let is = size_is frames (length frames) k frame.0 less frame.1 in
      let inside = frame_less p frame.0 k (are.of_programs n p frame.0 at frame.1) known (λ i m here of_is. listed_less k m (below.whole m (there m (i, here, of_is)))) in
      omega (arith, is, inside)

  -- a sound source's frames: a block type's that programs come to call, one that has no body, and a program's
  module _ (sound : IsSound source) (slots_are : (n : ℕ) (r : PlainRoutine) → slice_get source.blocks n ≡ Some r → type_slots source.blocks n ≡ routine_slots (type_slots source.blocks) r) where
    called_small : (k n : ℕ) → slice_get order k ≡ Some n → flagged are.run n ≡ true → frame_size frames (length frames) k ≤ 1000000
    called_small k n at run =
        let own = block_less (suc k) (length frames) k n (omega arith) at in
        let most = reached_size source sound slots_are (types_size below) n (are.run_alone n run) in
        omega (arith, own, most)

    none_small : (k : ℕ) (frame : Frame) → k < length frames → slice_get frames k ≡ Some frame → view_body frame.body.items ≡ done → frame_size frames (length frames) k ≤ 1000000
    none_small k frame less at is = let same = size_is frames (length frames) k frame less at in let none = empty_less frame k 0 is in omega (arith, same, none)

    block_small : (k : ℕ) → k < length order → frame_size frames (length frames) k ≤ 1000000
    block_small k less =
        let whole = are.whole in
        let n = element order k less in
        let r = element source.blocks n.0 (below.within n.0 (among_at order k n.0 n.1)) in
        let frame = frame_there k (omega (arith, less)) in
        let within : k < length frames = omega (arith, less, whole) in
        elim (cases_Bool (flagged are.used n.0)) [
          | inl used ↦ (
              elim (cases_Bool (flagged are.run n.0)) [
                | inl run ↦ called_small k n.0 n.1 run
                | inr off ↦ none_small k frame.0 within frame.1 (subst (λ b. IsFrame source order (framed b r.0) frame.0) off (are.of_blocks k n.0 r.0 frame.0 n.1 r.1 frame.1 used)).body_is
              ])
          | inr off ↦ none_small k frame.0 within frame.1 (ap (λ l. view_body l) (are.of_others k n.0 frame.0 n.1 frame.1 off).body_is)
        ]

    program_small : (n : ℕ) → n < length source.programs → frame_size frames (length frames) (length order + n) ≤ 1000000
    program_small n less =
        let p = element source.programs n less in
        let own = program_less n p.0 p.1 in
        let most = program_size source sound slots_are (types_size below) n p.0 p.1 in
        omega (arith, own, most)

    each_small : (k : ℕ) → frame_size frames (length frames) k ≤ 1000000
    each_small k =
        elim (cases_lt k (length order)) [
          | inl block ↦ block_small k block
          | inr past ↦ (
              elim (cases_lt (k - length order) (length source.programs)) [
                | inl program ↦ (let same : length order + (k - length order) ≡ k = omega (arith, past) in subst (λ m. frame_size frames (length frames) m ≤ 1000000) same (program_small (k - length order) program))
                | inr none ↦ (let whole = are.whole in let zero_is = size_past frames (length frames) k (omega (arith, past, none, whole)) in omega (arith, zero_is))
              ])
        ]

    pub frames_small : AreSmall frames
    frames_small k = let small = each_small k in omega (arith, small)
