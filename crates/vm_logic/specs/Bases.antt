-- Where the values, the standard blocks and the paths of each program begin.
use Rattle.std.specs.Prelude.{◌≡◌, ◌<◌, ◌≤◌, ◌+◌, ℕ, zero, suc, min, if◌then◌else◌, List, [], ◌∷◌, length, get_or}
use Rattle.std.specs.List.{sum_by}
use Rattle.logic_source.specs.declared.logic.Instance.{Instance}
use Rattle.logic_source.specs.declared.logic.BlockRef.{BlockRef}
use Rattle.logic_source.specs.declared.logic.BlockRef.TheVariants.{Ton, Tof, RTrig, Declared}
use Rattle.logic_source.specs.Source.{PlainRoutine, Source, own_cells}
use Rattle.logic_source.specs.Layout.{cells_per_type}
use Rattle.logic_source.specs.Paths.{paths_rule, type_paths}
use Rattle.logic_source.specs.Seats.{program_values_base, program_clocks_base}
use Rattle.logic_walk.specs.declared.frame.SeatOf.{SeatOf}
use Rattle.logic_walk.specs.declared.frame.SeatOf.TheVariants as seat_of
use Rattle.logic_walk.specs.declared.frame.Seat.{Seat}
use Rattle.logic_walk.specs.declared.frame.Frame.{Frame}
use Rattle.logic_walk.specs.Frames.{frame_paths}

-- how many paths the first so many programs have together
abbrev pub program_paths_before : List PlainRoutine → List PlainRoutine → ℕ → ℕ
program_paths_before blocks [] k = 0
program_paths_before blocks (p ∷ ps) zero = 0
program_paths_before blocks (p ∷ ps) (suc k) = length (paths_rule (type_paths blocks) p) + program_paths_before blocks ps k

-- the number of the first path of a program
abbrev pub program_paths_base : Source → ℕ → ℕ
program_paths_base source k = program_paths_before source.blocks source.programs k

-- a value of a number is the program's own, or one of an instance below it: it lies from where the program's values begin to where those of the next one do
abbrev pub IsOwnValue : Source → (program : ℕ) → ℕ → Type 0
IsOwnValue source program s = (program_values_base source program ≤ s) × (s < program_values_base source (program + 1))

-- the same of a standard block's clock
abbrev pub IsOwnClock : Source → (program : ℕ) → ℕ → Type 0
IsOwnClock source program k = (program_clocks_base source program ≤ k) × (k < program_clocks_base source (program + 1))

-- a row has a base for each program, and behind them the number at which the last one ends
pub record AreBases (base : ℕ → ℕ) (programs : ℕ) (row : List ℕ) : Type 0 where
  pub long : length row ≡ programs + 1
  pub each : (k : ℕ) → k ≤ programs → get_or row k 0 ≡ base k

-- a count that stops one above the limit on slots
abbrev pub stopped : ℕ → ℕ
stopped n = min n 65537

-- how many values an instance has, by those of the declared block types
abbrev pub instance_count : (ℕ → ℕ) → BlockRef → ℕ
instance_count counts Ton = 2
instance_count counts Tof = 2
instance_count counts RTrig = 1
instance_count counts (Declared n) = counts n

-- how many values a routine has, by those of the declared block types: its own variables, and those of its instances
abbrev pub value_count : (ℕ → ℕ) → PlainRoutine → ℕ
value_count counts r = own_cells r + sum_by (λ (i : Instance). instance_count counts i.of) r.instances

-- the numbers of a row; 0 past its end
abbrev pub numbers_in : List ℕ → ℕ → ℕ
numbers_in row n = get_or row n 0

-- a row has the count of values of each block type, up to where counts stop
pub record AreCounted (blocks : List PlainRoutine) (row : List ℕ) : Type 0 where
  pub long : length row ≡ length blocks
  pub each : (n : ℕ) → numbers_in row n ≡ stopped (cells_per_type blocks n)

-- how many paths are below an instance, by those of the frames
abbrev pub paths_of_seat : (ℕ → ℕ) → SeatOf → ℕ
paths_of_seat counts (seat_of.Standard standard) = 0
paths_of_seat counts (seat_of.Frame k) = counts k

-- how many paths an instance adds: none if it isn't called
abbrev pub seat_count : (ℕ → ℕ) → Seat → ℕ
seat_count counts seat = if seat.is_called then paths_of_seat counts seat.of else 0

-- a count of paths that stops at 2^32 - 1
abbrev pub stopped_paths : ℕ → ℕ
stopped_paths n = min n 4294967295

-- a row has the count of paths of each of the first so many frames, up to where counts stop
pub record ArePathsCounted (frames : List Frame) (limit : ℕ) (row : List ℕ) : Type 0 where
  pub long : length row ≡ limit
  pub each : (k : ℕ) → numbers_in row k ≡ stopped_paths (length (frame_paths frames limit k))
