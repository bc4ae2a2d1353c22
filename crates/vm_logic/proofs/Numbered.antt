-- How many paths frames have, counted over a row of the frames' counts.
use Rattle.std.proofs.Common.{◌≡◌, ◌∙◌, ap, sym, refl, ℕ, suc, ◌+◌, ◌≤◌, Bool, true, false, List, [], ◌∷◌, ◌++◌, length, get_or, Some, inl, inr, arith}
use Rattle.std.specs.Prelude.{slice_get, nat_eq, if◌then◌else◌}
use Rattle.std.specs.List.{sum_by}
use Rattle.std.proofs.lemmas.Bool.{cases_Bool, cases_lt}
use Rattle.std.proofs.lemmas.Bool.Decides.{nat_tests}
use Rattle.std.proofs.lemmas.List.{length-append, length-map, length_push, get_or_append_left, get_or_push, get_or_past}
use Rattle.std.proofs.lemmas.List.Sums.{sum_by-cons}
use Rattle.plant_types.specs.Values.{Path}
use Rattle.logic_walk.specs.declared.frame.SeatOf.{SeatOf}
use Rattle.logic_walk.specs.declared.frame.SeatOf.TheVariants as seat_of
use Rattle.logic_walk.specs.declared.frame.Seat.{Seat}
use Rattle.logic_walk.specs.declared.frame.Frame.{Frame}
use Rattle.logic_walk.specs.Frames as walk
use Rattle.logic_walk.specs.Frames.{paths_below, seats_paths, routine_paths, frame_paths}
use Rattle.logic_walk.proofs.Firsts.{paths_is}
use Rattle.vm_logic.specs.Bases.{numbers_in, paths_of_seat, seat_count, stopped_paths, ArePathsCounted}

-- a sum of counts that stop is that of the true ones, up to where counts stop
sums : (a b c d : ℕ) → stopped_paths a ≡ stopped_paths b → stopped_paths c ≡ stopped_paths d → stopped_paths (a + c) ≡ stopped_paths (b + d)
sums a b c d first second = omega arith

module _ (paths : ℕ → List Path) (counts : ℕ → ℕ) (right : (k : ℕ) → counts k ≡ stopped_paths (length (paths k))) where
  of_seat : (name : List ℕ) (of : SeatOf) → stopped_paths (paths_of_seat counts of) ≡ stopped_paths (length (walk.paths_of paths name of))
  of_seat name (seat_of.Standard standard) = refl
  of_seat name (seat_of.Frame k) = let known = right k in let many = length-map (paths k) (λ path. path ++ name ∷ []) in omega (arith, known, many)

  below_seat : (b : Bool) (name : List ℕ) (of : SeatOf) → stopped_paths (if b then paths_of_seat counts of else 0) ≡ stopped_paths (length (if b then walk.paths_of paths name of else []))
  below_seat true name of = of_seat name of
  below_seat false name of = refl

  seats_counted : (seats : List Seat) → stopped_paths (sum_by (seat_count counts) seats) ≡ stopped_paths (length (seats_paths paths seats))
  seats_counted [] = refl
  seats_counted (seat ∷ seats) =
      let first = below_seat seat.is_called seat.name seat.of in
      let rest = seats_counted seats in
      let many = length-append (paths_below paths seat) (seats_paths paths seats) in
      ap stopped_paths (sum_by-cons (seat_count counts) seat seats)
      ∙ sums (seat_count counts seat) (length (paths_below paths seat)) (sum_by (seat_count counts) seats) (length (seats_paths paths seats)) first rest ∙ ap stopped_paths (sym many)

  -- the count of a routine's paths
  pub routine_numbered : (seats : List Seat) → stopped_paths (1 + sum_by (seat_count counts) seats) ≡ stopped_paths (length (routine_paths paths seats))
  routine_numbered seats = let rest = seats_counted seats in omega (arith, rest)

pub paths_none : (frames : List Frame) (row : List ℕ) → row ≡ [] → ArePathsCounted frames 0 row
unfolding frame_paths
paths_none frames row is = record { long = ap length is; each = λ k. ap (λ l. get_or l k 0) is }

paths_there : (frames : List Frame) (i k : ℕ) → nat_eq k i ≡ false → frame_paths frames (suc i) k ≡ frame_paths frames i k
unfolding frame_paths
paths_there frames i k other = rw other refl

paths_other : (frames : List Frame) (i k : ℕ) → nat_eq k i ≡ false → frame_paths frames (i + 1) k ≡ frame_paths frames i k
paths_other frames i k other = let e : i + 1 ≡ suc i = omega arith in ap (λ n. frame_paths frames n k) e ∙ paths_there frames i k other

-- one more frame
pub paths_counted : (frames : List Frame) (i : ℕ) (frame : Frame) (row row' : List ℕ) (count : ℕ) → slice_get frames i ≡ Some frame → count ≡ stopped_paths (1 + sum_by (seat_count (numbers_in row)) frame.seats.items) → row' ≡ row ++ count ∷ [] → ArePathsCounted frames i row → ArePathsCounted frames (i + 1) row'
paths_counted frames i frame row row' count at is pushed before =
    let long = before.long in
    record {
      long = ap length pushed ∙ length_push row count ∙ ap (λ n. n + 1) long;
      each = λ k. ap (λ l. get_or l k 0) pushed ∙ elim (cases_Bool (nat_eq k i)) [
        | inl same ↦ (
            let equal : k ≡ i = grind (arith, nat_tests) in
            get_or_push row count 0 k (omega (arith, equal, long)) ∙ is ∙ routine_numbered (frame_paths frames i) (numbers_in row) before.each frame.seats.items
            ∙ ap (λ (l : List Path). stopped_paths (length l)) (sym (paths_is frames (i + 1) i frame (omega arith) at)) ∙ ap (λ n. stopped_paths (length (frame_paths frames (i + 1) n))) (sym equal))
        | inr other ↦ elim (cases_lt k i) [
          | inl less ↦ get_or_append_left row (count ∷ []) 0 k (omega (arith, less, long)) ∙ before.each k ∙ ap (λ (l : List Path). stopped_paths (length l)) (sym (paths_other frames i k other))
          | inr past ↦ (
              let more : i + 1 ≤ k = grind (arith, nat_tests, other, past) in
              let long' = length_push row count in
              get_or_past (row ++ count ∷ []) k 0 (omega (arith, more, long, long')) ∙ sym (get_or_past row k 0 (omega (arith, more, long))) ∙ before.each k ∙ ap (λ (l : List Path). stopped_paths (length l)) (sym (paths_other frames i k other)))
        ]
      ];
    }
