-- A table of frames as it grows: a frame behind others changes nothing for these.
use Rattle.std.proofs.Common.{◌≡◌, ◌∙◌, ap, sym, subst, refl, ℕ, zero, suc, ◌<◌, ◌≤◌, List, [], ◌∷◌, ◌++◌, length, Some, inl, inr, arith}
use Rattle.std.specs.Prelude.{slice_get, nat_eq, nat_lt, if◌then◌else◌}
use Rattle.std.proofs.lemmas.Bool.{cases_Bool}
use Rattle.std.proofs.lemmas.Bool.Decides.{nat_tests}
use Rattle.std.proofs.lemmas.List.{length-append}
use Rattle.std.proofs.lemmas.Option.{slice_get_within}
use Rattle.logic_walk.specs.declared.frame.Frame.{Frame}
use Rattle.logic_walk.specs.Frames.{of_frame, of_first, routine_paths, frame_paths}
use Rattle.logic_walk.specs.Starts.{routine_has_starts, frame_has_starts, StartsAreMarked}
use Rattle.logic_walk.specs.Standards.{seats_standards, frame_standards, ClocksAreCounted}

front : {A : Type 0} (xs ys : List A) (n : ℕ) → n < length xs → slice_get (xs ++ ys) n ≡ slice_get xs n
front [] ys n h = absurd (omega arith)
front (x ∷ xs) ys zero h = refl
front (x ∷ xs) ys (suc n) h = front xs ys n (omega arith)

at_end : {A : Type 0} (xs : List A) (y : A) → slice_get (xs ++ y ∷ []) (length xs) ≡ Some y
at_end [] y = refl
at_end (x ∷ xs) y = at_end xs y

pub first_more : {A : Type 0} (none : A) (rule : (ℕ → A) → Frame → A) (frames more : List Frame) (limit : ℕ) → limit ≤ length frames → (k : ℕ) → of_first none rule (frames ++ more) limit k ≡ of_first none rule frames limit k
first_more none rule frames more zero h k = refl
first_more none rule frames more (suc n) h k =
    let before : n ≤ length frames = omega arith in
    let here = front frames more n (omega arith) in
    λ i. if nat_eq k n then of_frame none (rule (λ j. first_more none rule frames more n before j i)) (here i) else first_more none rule frames more n before k i

module _ (frames more : List Frame) (limit : ℕ) (h : limit ≤ length frames) (k : ℕ) where
  pub paths_more : frame_paths (frames ++ more) limit k ≡ frame_paths frames limit k
  unfolding frame_paths
  paths_more = first_more [] (λ paths frame. routine_paths paths frame.seats.items) frames more limit h k

  pub starts_more : frame_has_starts (frames ++ more) limit k ≡ frame_has_starts frames limit k
  unfolding frame_has_starts
  starts_more = first_more _ routine_has_starts frames more limit h k

  pub standards_more : frame_standards (frames ++ more) limit k ≡ frame_standards frames limit k
  unfolding frame_standards
  standards_more = first_more [] (λ inner frame. seats_standards inner frame.seats.items) frames more limit h k

-- what holds of each frame and of one behind them holds of all
pub each_more : (P : ℕ → Frame → Type 0) (frames : List Frame) (frame : Frame) → ((k : ℕ) (f : Frame) → k < length frames → slice_get frames k ≡ Some f → P k f) → P (length frames) frame
    → (k : ℕ) (f : Frame) → slice_get (frames ++ frame ∷ []) k ≡ Some f → P k f
each_more P frames frame before here k f at =
    let long = length-append frames (frame ∷ []) in
    let within = slice_get_within (frames ++ frame ∷ []) k f at in
    elim (cases_Bool (nat_lt k (length frames))) [
      | inl less ↦ (
          let small : k < length frames = grind (arith, nat_tests) in
          before k f small (sym (front frames (frame ∷ []) k small) ∙ at))
      | inr past ↦ (
          let same : k ≡ length frames = grind (arith, nat_tests, within, long) in
          let is : Some frame ≡ Some f = sym (at_end frames frame) ∙ ap (slice_get (frames ++ frame ∷ [])) (sym same) ∙ at in
          let equal : frame ≡ f = cc in
          subst (λ x. P k x) equal (subst (λ n. P n frame) (sym same) here))
    ]

module _ (frames : List Frame) (frame : Frame) where
  -- frames stay marked when a marked one is put behind them
  pub marked_more : StartsAreMarked frames → frame.has_starts ≡ routine_has_starts (frame_has_starts frames (length frames)) frame → StartsAreMarked (frames ++ frame ∷ [])
  marked_more before here =
      each_more (λ k f. f.has_starts ≡ routine_has_starts (frame_has_starts (frames ++ frame ∷ []) k) f) frames frame
      (λ k f small at. before k f at ∙ sym (λ i. routine_has_starts (λ j. starts_more frames (frame ∷ []) k (omega (arith, small)) j i) f))
      (here ∙ sym (λ i. routine_has_starts (λ j. starts_more frames (frame ∷ []) (length frames) (omega arith) j i) frame))

  -- and counted
  pub counted_more : ClocksAreCounted frames → frame.clocks ≡ length (seats_standards (frame_standards frames (length frames)) frame.seats.items) → ClocksAreCounted (frames ++ frame ∷ [])
  counted_more before here =
      each_more (λ k f. f.clocks ≡ length (seats_standards (frame_standards (frames ++ frame ∷ []) k) f.seats.items)) frames frame
      (λ k f small at. before k f at ∙ sym (λ i. length (seats_standards (λ j. standards_more frames (frame ∷ []) k (omega (arith, small)) j i) f.seats.items)))
      (here ∙ sym (λ i. length (seats_standards (λ j. standards_more frames (frame ∷ []) (length frames) (omega arith) j i) frame.seats.items)))
