-- What the marks of frames say.
use Rattle.std.proofs.Common.{◌≡◌, ◌∙◌, ap, sym, refl, ℕ, zero, suc, ◌+◌, Bool, true, false, ◌<◌, ◌≤◌, List, [], ◌∷◌, ◌++◌, append-nil, Option, Some, None, length, arith}
use Rattle.std.specs.Prelude.{slice_get, nat_eq, if◌then◌else◌, not, ◌==◌}
use Rattle.std.specs.List.{list_any}
use Rattle.std.proofs.lemmas.Bool.{or_parts}
use Rattle.std.proofs.lemmas.Bool.Decides.{nat_tests}
use Rattle.st_tree.specs.declared.tree.Stmt.{Stmt}
use Rattle.st_tree.specs.View.{view_body}
use Rattle.st_tree.specs.Meaning.{run_all}
use Rattle.logic_cells.specs.declared.clock.Standard.{Standard}
use Rattle.logic_cells.specs.Cells.{PlainCells}
use Rattle.logic_walk.specs.declared.frame.Base.{Base}
use Rattle.logic_walk.specs.declared.frame.Frame.{Frame}
use Rattle.logic_walk.specs.declared.frame.SeatOf.{SeatOf}
use Rattle.logic_walk.specs.declared.frame.SeatOf.TheVariants as seat_of
use Rattle.logic_walk.specs.declared.frame.Seat.{Seat}
use Rattle.logic_walk.specs.Frames.{of_frame, of_first}
use Rattle.logic_walk.specs.Starts.{left_by, start_space, seat_begun, seats_begun, frame_begun, seat_has_starts, routine_has_starts, frame_has_starts, StartsAreMarked}
use Rattle.logic_walk.specs.Standards.{seats_standards, frame_standards, ClocksAreCounted}
use Rattle.logic_walk.proofs.Firsts.{first_is, first_past}

no_such : (n : ℕ) → not (suc n == 0) ≡ false → ⊥
no_such n h = grind (arith, nat_tests)

nothing : {A : Type 0} (xs : List A) → not (length xs == 0) ≡ false → xs ≡ []
nothing [] h = refl
nothing (x ∷ xs) h = absurd (no_such (length xs) h)

module _ (globals : ℕ) (frames : List Frame) where
  abbrev begun_rule : (ℕ → Base → PlainCells → PlainCells) → Frame → Base → PlainCells → PlainCells
  begun_rule inner frame base cells = seats_begun inner frame.seats.items base (left_by (run_all (start_space globals base) (view_body frame.starts.items) cells))

  abbrev begun : (limit k : ℕ) → Base → PlainCells → PlainCells
  begun = of_first (λ base cells. cells) begun_rule frames

  abbrev has : (limit k : ℕ) → Bool
  has = of_first false routine_has_starts frames

  module _ (n : ℕ) (same : (k : ℕ) → has n k ≡ false → (base : Base) (cells : PlainCells) → begun n k base cells ≡ cells) where
    seat_same : (of : SeatOf) (seat : Seat) → seat_has_starts (has n) of ≡ false → (base : Base) (cells : PlainCells) → seat_begun (begun n) of base seat cells ≡ cells
    seat_same (seat_of.Standard standard) seat h base cells = refl
    seat_same (seat_of.Frame k) seat h base cells = same k h (record { values = base.values + seat.values; clocks = base.clocks + seat.clocks }) cells

    seats_same : (seats : List Seat) → list_any (λ (seat : Seat). seat_has_starts (has n) seat.of) seats ≡ false → (base : Base) (cells : PlainCells) → seats_begun (begun n) seats base cells ≡ cells
    seats_same [] h base cells = refl
    seats_same (seat ∷ seats) h base cells =
        let parts = or_parts (seat_has_starts (has n) seat.of) (list_any (λ (s : Seat). seat_has_starts (has n) s.of) seats) h in
        ap (seats_begun (begun n) seats base) (seat_same seat.of seat parts.0 base cells) ∙ seats_same seats parts.1 base cells

    frame_same : (o : Option Frame) → of_frame false (routine_has_starts (has n)) o ≡ false → (base : Base) (cells : PlainCells) → of_frame (λ b c. c) (begun_rule (begun n)) o base cells ≡ cells
    frame_same None h base cells = refl
    frame_same (Some frame) h base cells =
        let parts = or_parts (not (length frame.starts.items == 0)) (list_any (λ (s : Seat). seat_has_starts (has n) s.of) frame.seats.items) h in
        ap (λ (starts : List (Stmt ℕ)). seats_begun (begun n) frame.seats.items base (left_by (run_all (start_space globals base) (view_body starts) cells))) (nothing frame.starts.items parts.0)
        ∙ seats_same frame.seats.items parts.1 base cells

    by_test : (b : Bool) (k : ℕ) → (if b then of_frame false (routine_has_starts (has n)) (slice_get frames n) else has n k) ≡ false → (base : Base) (cells : PlainCells)
        → (if b then of_frame (λ base c. c) (begun_rule (begun n)) (slice_get frames n) else begun n k) base cells ≡ cells
    by_test true k h = frame_same (slice_get frames n) h
    by_test false k h = same k h

  all_same : (limit k : ℕ) → has limit k ≡ false → (base : Base) (cells : PlainCells) → begun limit k base cells ≡ cells
  all_same zero k h base cells = refl
  all_same (suc n) k h base cells = by_test n (all_same n) (nat_eq k n) k h base cells

  -- a frame that assigns no initial value, nor does an instance below it, leaves the cells
  pub begun_same : (limit k : ℕ) (base : Base) (cells : PlainCells) → frame_has_starts frames limit k ≡ false → frame_begun globals frames limit k base cells ≡ cells
  unfolding frame_begun frame_has_starts
  begun_same limit k base cells h = all_same limit k h base cells

module _ (frames : List Frame) (limit k : ℕ) where
  -- a mark says it of its frame
  pub starts_marked : (frame : Frame) → StartsAreMarked frames → k < limit → slice_get frames k ≡ Some frame → frame_has_starts frames limit k ≡ frame.has_starts
  unfolding frame_has_starts
  starts_marked frame marked h at = first_is false routine_has_starts frames limit k frame h at ∙ sym (marked k frame at)

  pub standards_is : (frame : Frame) → k < limit → slice_get frames k ≡ Some frame → frame_standards frames limit k ≡ seats_standards (frame_standards frames k) frame.seats.items
  unfolding frame_standards
  standards_is frame h at = first_is [] (λ inner f. seats_standards inner f.seats.items) frames limit k frame h at

  pub standards_past : limit ≤ k → frame_standards frames limit k ≡ []
  unfolding frame_standards
  standards_past h = first_past [] (λ inner f. seats_standards inner f.seats.items) frames limit k h

  -- a mark counts the standard blocks of its frame
  pub clocks_counted : (frame : Frame) → ClocksAreCounted frames → k < limit → slice_get frames k ≡ Some frame → frame.clocks ≡ length (frame_standards frames limit k)
  clocks_counted frame counted h at = counted k frame at ∙ ap (λ (l : List Standard). length l) (sym (standards_is frame h at))

no_more : {A : Type 0} (xs : List A) → length xs ≡ 0 → xs ≡ []
no_more [] h = refl
no_more (x ∷ xs) h = absurd (omega (arith, h))

-- a frame marked with no standard blocks has none
pub none_counted : (frames : List Frame) (limit k : ℕ) (frame : Frame) → ClocksAreCounted frames → k < limit → slice_get frames k ≡ Some frame → frame.clocks ≡ 0 → frame_standards frames limit k ≡ []
none_counted frames limit k frame counted h at none = no_more (frame_standards frames limit k) (sym (clocks_counted frames limit k frame counted h at) ∙ none)

-- what was appended for a frame that has standard blocks, and for one that has none
module _ (frames : List Frame) (limit k : ℕ) (old : List Standard) where
  pub some_pushed : (frame : Frame) (seats : List Seat) (new : List Standard) → k < limit → slice_get frames k ≡ Some frame → seats ≡ frame.seats.items → new ≡ old ++ seats_standards (frame_standards frames k) seats → new ≡ old ++ frame_standards frames limit k
  some_pushed frame seats new h at same e = e ∙ ap (λ l. old ++ seats_standards (frame_standards frames k) l) same ∙ ap (λ l. old ++ l) (sym (standards_is frames limit k frame h at))

  pub none_pushed : frame_standards frames limit k ≡ [] → old ≡ old ++ frame_standards frames limit k
  none_pushed e = sym (append-nil old) ∙ ap (λ l. old ++ l) (sym e)
