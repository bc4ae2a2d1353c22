-- What a rule gives for a frame of a table.
use Rattle.std.proofs.Common.{◌≡◌, ◌∙◌, ap, sym, subst, refl, arith, ℕ, zero, suc, ◌<◌, ◌≤◌, List, [], Some, true, false, inl, inr}
use Rattle.std.specs.Prelude.{slice_get, nat_eq}
use Rattle.std.proofs.lemmas.Bool.Decides.{nat_tests}
use Rattle.std.proofs.Math.Nat.{eq-or-lt_of_le}
use Rattle.st_tree.specs.View.{view_body}
use Rattle.st_tree.specs.Meaning.{Ran, Done, run_all}
use Rattle.logic_cells.specs.Cells.{PlainCells}
use Rattle.plant_types.specs.Values.{Path}
use Rattle.logic_walk.specs.declared.frame.Base.{Base}
use Rattle.logic_walk.specs.declared.frame.Frame.{Frame}
use Rattle.logic_walk.specs.Frames.{of_frame, of_first, routine_paths, frame_paths}
use Rattle.logic_walk.specs.Walks.{frame_space, placed, run_frame, run_within, space_within}

below : (k n : ℕ) → k < suc n → k ≤ n
below k n h = omega arith

module _ {A : Type 0} (none : A) (rule : (ℕ → A) → Frame → A) (frames : List Frame) where
  first_at : (limit k : ℕ) → k < limit → of_first none rule frames limit k ≡ of_frame none (rule (of_first none rule frames k)) (slice_get frames k)
  first_at zero k h = absurd (omega arith)
  first_at (suc n) k h =
      elim (eq-or-lt_of_le (below k n h)) [
        | inl same ↦ (
            let is : nat_eq k n ≡ true = grind (arith, nat_tests) in
            rw is (subst (λ j. of_frame none (rule (of_first none rule frames n)) (slice_get frames n) ≡ of_frame none (rule (of_first none rule frames j)) (slice_get frames j)) (sym same) refl))
        | inr less ↦ (
            let is : nat_eq k n ≡ false = grind (arith, nat_tests) in
            rw is (first_at n k less))
      ]

  -- among more first ones a frame gives the same
  pub first_is : (limit k : ℕ) (frame : Frame) → k < limit → slice_get frames k ≡ Some frame → of_first none rule frames limit k ≡ rule (of_first none rule frames k) frame
  first_is limit k frame h at = first_at limit k h ∙ ap (of_frame none (rule (of_first none rule frames k))) at

  -- a frame past the limit gives nothing
  pub first_past : (limit k : ℕ) → limit ≤ k → of_first none rule frames limit k ≡ none
  first_past zero k h = refl
  first_past (suc n) k h =
      let is : nat_eq k n ≡ false = grind (arith, nat_tests) in
      rw is (first_past n k (omega arith))

module _ (frames : List Frame) (limit k : ℕ) where
  pub paths_is : (frame : Frame) → k < limit → slice_get frames k ≡ Some frame → frame_paths frames limit k ≡ routine_paths (frame_paths frames k) frame.seats.items
  unfolding frame_paths
  paths_is frame h at = first_is [] (λ paths f. routine_paths paths f.seats.items) frames limit k frame h at

  module _ (t globals : ℕ) (base : Base) (cells : PlainCells) where
    pub within_is : (frame : Frame) → k < limit → slice_get frames k ≡ Some frame → run_within t globals frames limit k base cells ≡ run_all (space_within t globals frames k frame.seats.items base) (view_body frame.body.items) cells
    unfolding run_within
    within_is frame h at =
        ap (λ (f : Base → PlainCells → Ran PlainCells). f base cells)
        (first_is (λ b c. Done c) (λ inner f b c. run_all (frame_space t globals (placed inner) f.seats.items b []) (view_body f.body.items) c) frames limit k frame h at)

    pub within_past : limit ≤ k → run_within t globals frames limit k base cells ≡ Done cells
    unfolding run_within
    within_past h =
        ap (λ (f : Base → PlainCells → Ran PlainCells). f base cells) (first_past (λ b c. Done c) (λ inner f b c. run_all (frame_space t globals (placed inner) f.seats.items b []) (view_body f.body.items) c) frames limit k h)

    pub frame_is : (frame : Frame) (path : Path) → k < limit → slice_get frames k ≡ Some frame
        → run_frame t globals frames limit k base path cells ≡ run_all (frame_space t globals (run_frame t globals frames k) frame.seats.items base path) (view_body frame.body.items) cells
    unfolding run_frame
    frame_is frame path h at =
        ap (λ (f : Base → Path → PlainCells → Ran PlainCells). f base path cells)
        (first_is (λ b p c. Done c) (λ inner f b p c. run_all (frame_space t globals inner f.seats.items b p) (view_body f.body.items) c) frames limit k frame h at)

    pub frame_past : (path : Path) → limit ≤ k → run_frame t globals frames limit k base path cells ≡ Done cells
    unfolding run_frame
    frame_past path h =
        ap (λ (f : Base → Path → PlainCells → Ran PlainCells). f base path cells) (first_past (λ b p c. Done c) (λ inner f b p c. run_all (frame_space t globals inner f.seats.items b p) (view_body f.body.items) c) frames limit k h)
