-- What a frame is, by what the frames before it are.
use Rattle.std.proofs.Common.{◌≡◌, ap, refl, ℕ, zero, suc, ◌<◌, ◌≤◌, List, [], Option, Some, None, true, false, Bool, if◌then◌else◌}
use Rattle.std.specs.Prelude.{slice_get, nat_eq}
use Rattle.logic_walk.specs.declared.frame.Frame.{Frame}
use Rattle.logic_walk.specs.Frames.{of_frame}
use Rattle.logic_walk.proofs.Firsts.{first_is, first_past}
use Rattle.vm_sizes.specs.Sizes.{routine_lines, routine_words, routine_cost, routine_size, frame_lines, frame_words, frame_cost, frame_size}
use Rattle.codegen.specs.Codes.{Part, routine_part, frame_part}

abbrev pub none : Part
none = record { lines = 0; code = λ base path pc. [] }

-- the frame of a number is by those before it
pub part_is : (globals : ℕ) (frames : List Frame) (limit k : ℕ) (frame : Frame) → k < limit → slice_get frames k ≡ Some frame → frame_part globals frames limit k ≡ routine_part globals (frame_part globals frames k) frame
unfolding frame_part
part_is globals frames limit k frame h at = first_is none (routine_part globals) frames limit k frame h at

-- a frame that isn't among the first ones is nothing
pub part_past : (globals : ℕ) (frames : List Frame) (limit k : ℕ) → limit ≤ k → frame_part globals frames limit k ≡ none
unfolding frame_part
part_past globals frames limit k h = first_past none (routine_part globals) frames limit k h

pub words_is : (frames : List Frame) (limit k : ℕ) (frame : Frame) → k < limit → slice_get frames k ≡ Some frame → frame_words frames limit k ≡ routine_words (frame_words frames k) frame
unfolding frame_words
words_is frames limit k frame h at = first_is 0 routine_words frames limit k frame h at

pub cost_is : (frames : List Frame) (limit k : ℕ) (frame : Frame) → k < limit → slice_get frames k ≡ Some frame → frame_cost frames limit k ≡ routine_cost (frame_cost frames k) frame
unfolding frame_cost
cost_is frames limit k frame h at = first_is 0 routine_cost frames limit k frame h at

pub size_is : (frames : List Frame) (limit k : ℕ) (frame : Frame) → k < limit → slice_get frames k ≡ Some frame → frame_size frames limit k ≡ routine_size (frame_size frames k) frame
unfolding frame_size
size_is frames limit k frame h at = first_is 0 routine_size frames limit k frame h at

pub lines_is : (frames : List Frame) (limit k : ℕ) (frame : Frame) → k < limit → slice_get frames k ≡ Some frame → frame_lines frames limit k ≡ routine_lines (frame_lines frames k) frame
unfolding frame_lines
lines_is frames limit k frame h at = first_is 0 routine_lines frames limit k frame h at

module _ (globals : ℕ) (frames : List Frame) where
  same_at : (n : ℕ) (at : Option Frame) → ((k : ℕ) → (frame_part globals frames n k).lines ≡ frame_lines frames n k)
      → (of_frame none (routine_part globals (frame_part globals frames n)) at).lines ≡ of_frame 0 (routine_lines (frame_lines frames n)) at
  same_at n None h = refl
  same_at n (Some frame) h = ap (λ (f : ℕ → ℕ). routine_lines f frame) (λ i k. h k i)

  same_if : (b : Bool) (p q : Part) (m n : ℕ) → p.lines ≡ m → q.lines ≡ n → (if b then p else q).lines ≡ (if b then m else n)
  same_if true p q m n e f = e
  same_if false p q m n e f = f

  -- the lines that a frame tells are those of its size
  pub part_lines : (limit k : ℕ) → (frame_part globals frames limit k).lines ≡ frame_lines frames limit k
  unfolding frame_part frame_lines
  part_lines zero k = refl
  part_lines (suc n) k = same_if (nat_eq k n) _ _ _ _ (same_at n (slice_get frames n) (part_lines n)) (part_lines n k)
