-- The codes of the programs of a table of frames.
use Rattle.std.specs.Prelude.{◌≡◌, ◌<◌, ◌≤◌, ◌+◌, ◌*◌, ◌^◌, ℕ, List, [], ◌∷◌, ◌++◌, length, take, get_or, Some, slice_get}
use Rattle.logic_walk.specs.declared.frame.SeatOf.{SeatOf}
use Rattle.logic_walk.specs.declared.frame.SeatOf.TheVariants as seat_of
use Rattle.logic_walk.specs.declared.frame.Seat.{Seat}
use Rattle.logic_walk.specs.declared.frame.Base.{Base}
use Rattle.logic_walk.specs.declared.frame.Frame.{Frame}
use Rattle.logic_walk.specs.Frames.{frame_paths}
use Rattle.codegen.specs.Sizes.{frame_cost, frame_size}
use Rattle.acc_vm.specs.Codes.{PlainCode}
use Rattle.codegen.specs.Codes.{code_of, RunsFrame}
use Rattle.codegen.specs.Within.{NamesFit, NamesAsFrame}
use Rattle.vm_programs.specs.Folded.{AreFolded}

-- code is that of the frame of a number as a program, at a base: it runs as the frame does, has the frame's paths, names only what is there wherever what the frame names is there, and tells a cost
pub record IsCodeOf (frames : List Frame) (globals first : ℕ) (base : Base) (cost : ℕ) (code : PlainCode) : Type 0 where
  pub runs : RunsFrame frames globals first base code
  pub paths : code.paths ≡ length (frame_paths frames (length frames) first)
  pub within : NamesAsFrame frames globals first base code
  pub tells : code.cost ≡ cost

-- an instance is of a standard block, or of one of so many first frames
abbrev pub IsOfFirst : (first : ℕ) → SeatOf → Type 0
IsOfFirst first (seat_of.Standard standard) = Unit {0}
IsOfFirst first (seat_of.Frame k) = k < first

-- so are all instances of a list
abbrev pub AreOfFirst : (first : ℕ) → List Seat → Type 0
AreOfFirst first [] = Unit {0}
AreOfFirst first (seat ∷ seats) = IsOfFirst first seat.of × AreOfFirst first seats

-- programs are the frames from one on, and have instances of the frames before it alone
abbrev pub ProgramsUseFirst : (frames : List Frame) → (first : ℕ) → Type 0
ProgramsUseFirst frames first = (n : ℕ) (program : Frame) → slice_get frames (first + n) ≡ Some program → AreOfFirst first program.seats.items

-- the table of one program: so many first frames, and its own behind them
abbrev pub program_table : (frames : List Frame) → (first : ℕ) → Frame → List Frame
program_table frames first program = take first frames ++ program ∷ []

-- where a program begins, by the rows of where the values and the clocks of each begin
abbrev pub base_in : (values clocks : List ℕ) → (n : ℕ) → Base
base_in values clocks n = record { values = get_or values n 0; clocks = get_or clocks n 0 }

-- no program costs more than is told: the programs are the frames from one on
abbrev pub CostNoMore : (frames : List Frame) → (first : ℕ) → (costs : List ℕ) → Type 0
CostNoMore frames first costs = (n : ℕ) → n < length costs → frame_cost frames (length frames) (first + n) ≤ get_or costs n 0

-- each slot and each clock that a program names is a number of 32 bits: the programs are the frames from one on, and the rows tell where each begins
abbrev pub AllNamesFit : (frames : List Frame) → (globals first : ℕ) → (values clocks costs : List ℕ) → Type 0
AllNamesFit frames globals first values clocks costs = (n : ℕ) → n < length costs → NamesFit globals frames (first + n) (base_in values clocks n)

-- each frame of a table is so small that its lines, at most three for each unit of its size, are fewer than 2^32
abbrev pub AreSmall : List Frame → Type 0
AreSmall frames = (k : ℕ) → 3 * frame_size frames (length frames) k < 2 ^ 32

-- each of the codes is that of its program, and tells its cost
abbrev pub EachIsCode : (frames : List Frame) → (globals first : ℕ) → (values clocks costs : List ℕ) → List PlainCode → Type 0
EachIsCode frames globals first values clocks costs codes =
    (n : ℕ) (code : PlainCode) → slice_get codes n ≡ Some code → IsCodeOf frames globals (first + n) (base_in values clocks n) (get_or costs n 0) code

-- code is what is made of the program of a number, counted behind so many first frames, at a base, by its table with the constants folded, and with the cost that it tells
pub record IsMade (frames : List Frame) (globals first n : ℕ) (base : Base) (cost : ℕ) (code : PlainCode) : Type 0 where
  pub program : Frame
  pub there : slice_get frames (first + n) ≡ Some program
  pub folded : List Frame
  pub are_folded : AreFolded (program_table frames first program) folded
  pub is : code ≡ code_of globals folded first base cost

-- each of the codes is what is made of its program
abbrev pub EachIsMade : (frames : List Frame) → (globals first : ℕ) → (values clocks costs : List ℕ) → List PlainCode → Type 0
EachIsMade frames globals first values clocks costs codes =
    (n : ℕ) (code : PlainCode) → slice_get codes n ≡ Some code → IsMade frames globals first n (base_in values clocks n) (get_or costs n 0) code

-- codes are those of the programs, of which the rows tell where each begins, and behind them where the last one ends, and what each costs
pub record AreCodes (frames : List Frame) (globals first : ℕ) (values clocks costs : List ℕ) (codes : List PlainCode) : Type 0 where
  pub long : length codes + 1 ≡ length values
  pub each : EachIsCode frames globals first values clocks costs codes
  pub made : EachIsMade frames globals first values clocks costs codes
