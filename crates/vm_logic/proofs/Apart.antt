-- Programs have instances of block types alone, whose frames come before theirs.
use Rattle.std.proofs.Common.{◌≡◌, sym, subst, refl, ℕ, ◌+◌, ◌<◌, List, [], ◌∷◌, length, Some, slice_get, inl, inr, arith}
use Rattle.std.proofs.lemmas.Option.{slice_get_within}
use Rattle.st_blocks.specs.Chains.{Among}
use Rattle.logic_source.specs.declared.logic.Instance.{Instance}
use Rattle.logic_source.specs.declared.logic.BlockRef.{BlockRef}
use Rattle.logic_source.specs.declared.logic.BlockRef.TheVariants.{Ton, Tof, RTrig, Declared}
use Rattle.logic_source.specs.Source.{PlainRoutine, Source, own_cells}
use Rattle.logic_source.specs.Blocks.{AreBelow, HasItsTypes, DeclaresThere}
use Rattle.logic_source.specs.Seats.{value_count, clock_count}
use Rattle.logic_source.proofs.Layouts.{all_at}
use Rattle.logic_walk.specs.declared.frame.Seat.{Seat}
use Rattle.logic_walk.specs.declared.frame.Frame.{Frame}
use Rattle.logic_frames.specs.Frames.{place_in, seated, AreSeats, IsFrames}
use Rattle.vm_programs.specs.Codes.{IsOfFirst, AreOfFirst, ProgramsUseFirst}
use Rattle.vm_logic.proofs.Costs.{element, place_within}

seated_first : (order : List ℕ) (b : BlockRef) → ((m : ℕ) → b ≡ Declared m → place_in order m < length order) → IsOfFirst (length order) (seated order b)
seated_first order Ton placed = tt
seated_first order Tof placed = tt
seated_first order RTrig placed = tt
seated_first order (Declared m) placed = placed m refl

seats_first : (blocks : List PlainRoutine) (r : PlainRoutine) (order : List ℕ) (values clocks : ℕ) (is : List Instance) (seats : List Seat) → AreSeats blocks r order values clocks is seats
    → ((i : Instance) (m : ℕ) → Among is i → i.of ≡ Declared m → place_in order m < length order) → AreOfFirst (length order) seats
seats_first blocks r order values clocks [] [] are placed = tt
seats_first blocks r order values clocks [] (seat ∷ seats) are placed = absurd are
seats_first blocks r order values clocks (i ∷ is) [] are placed = absurd are
seats_first blocks r order values clocks (i ∷ is) (seat ∷ seats) are placed = (
  subst (IsOfFirst (length order)) (sym are.0.of_is) (seated_first order i.of (λ m of_is. placed i m (inl refl) of_is)),
  seats_first blocks r order (values + value_count blocks i.of) (clocks + clock_count blocks i.of) is seats are.1 (λ j m here of_is. placed j m (inr here) of_is),
)

pub programs_use_first : (source : Source) (order : List ℕ) (frames : List Frame) → IsFrames source order frames → AreBelow source.blocks order → HasItsTypes source → ProgramsUseFirst frames (length order)
programs_use_first source order frames are below types n program at =
    let within = slice_get_within frames (length order + n) program at in
    let whole = are.whole in
    let p = element source.programs n (omega (arith, within, whole)) in
    let there = all_at (DeclaresThere source.blocks) source.programs n p.0 types.in_programs p.1 in
    let is = are.of_programs n p.0 program p.1 at in
    seats_first source.blocks p.0 order (own_cells p.0) 0 p.0.instances program.seats.items is.seats_are (λ i m here of_is. place_within order m (below.whole m (there m (i, here, of_is))))
