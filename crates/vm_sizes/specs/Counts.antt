-- What a table of counts tells of each frame.
use Rattle.std.specs.Prelude.{◌≡◌, ◌<◌, ◌^◌, ℕ, min, List, length, slice_get}
use Rattle.std.specs.Option.{option_map_or}
use Rattle.plant_types.specs.Values.{Path}
use Rattle.logic_walk.specs.declared.frame.Frame.{Frame}
use Rattle.logic_walk.specs.Frames.{routine_paths, frame_paths}
use Rattle.vm_sizes.specs.declared.counts.Count.{Count}
use Rattle.vm_sizes.specs.declared.counts.FrameCounts.{FrameCounts}
use Rattle.vm_sizes.specs.Sizes.{routine_lines, routine_words, frame_lines, frame_words}

-- words of stack and paths are counted up to 2^64 - 1: a frame of which no code is made may have any number of them
abbrev pub capped : ℕ → ℕ
capped n = min n 18446744073709551615

-- the instructions of the frame of a number, by a table; 0 past its end
abbrev pub lines_at : List Count → ℕ → ℕ
lines_at table k = option_map_or (λ (c : Count). c.lines) (slice_get table k) 0

-- its words of stack, as far as they are counted
abbrev pub words_at : List Count → ℕ → ℕ
words_at table k = option_map_or (λ (c : Count). c.words) (slice_get table k) 0

-- its paths, as far as they are counted
abbrev pub paths_at : List Count → ℕ → ℕ
paths_at table k = option_map_or (λ (c : Count). c.paths) (slice_get table k) 0

-- a count is a frame's, by the counts of the frames before it
pub record IsCountOf (table : List Count) (frame : Frame) (count : Count) : Type 0 where
  pub lines : count.lines ≡ routine_lines (lines_at table) frame
  pub words : count.words ≡ capped (routine_words (words_at table) frame)
  pub paths : (paths : ℕ → List Path) → ((k : ℕ) → capped (length (paths k)) ≡ paths_at table k) → count.paths ≡ capped (length (routine_paths paths frame.seats.items))

-- a table has the counts of so many first frames, and of no other
pub record AreFirst (frames : List Frame) (n : ℕ) (table : List Count) : Type 0 where
  pub many : length table ≡ n
  pub lines : (k : ℕ) → frame_lines frames n k ≡ lines_at table k
  pub words : (k : ℕ) → capped (frame_words frames n k) ≡ words_at table k
  pub paths : (k : ℕ) → capped (length (frame_paths frames n k)) ≡ paths_at table k

-- each frame of a table has fewer than 2^32 instructions
abbrev pub HasFewLines : List Frame → Type 0
HasFewLines frames = (k : ℕ) → frame_lines frames (length frames) k < 2 ^ 32

-- counts are those of all frames
abbrev pub AreCounts : List Frame → FrameCounts → Type 0
AreCounts frames counts = AreFirst frames (length frames) counts.frames.items
