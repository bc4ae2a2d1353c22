-- A source made ready to run.
use Rattle.std.specs.Prelude.{◌≡◌, ◌<◌, ◌^◌, ℕ, List, [], ◌∷◌, map, length}
use Rattle.logic_source.specs.declared.logic.Variable.{Variable}
use Rattle.logic_source.specs.Source.{Source, global_cells}
use Rattle.logic_source.specs.Blocks.{AreBelow}
use Rattle.logic_source.specs.Layout.{ClockAt, all_clocks}
use Rattle.logic_source.specs.Seats.{program_values_base, program_clocks_base}
use Rattle.logic_limits.specs.Counts.{program_costs}
use Rattle.logic_cells.specs.declared.clock.Standard.{Standard}
use Rattle.logic_walk.specs.declared.frame.Frame.{Frame}
use Rattle.logic_frames.specs.Frames.{IsFrames, IsStart}
use Rattle.logic_frames.specs.Stands.{standard_of}
use Rattle.acc_vm.specs.Codes.{PlainCode}
use Rattle.vm_programs.specs.Codes.{AreCodes}
use Rattle.vm_logic.specs.Sound.{IsSound}
use Rattle.vm_logic.specs.Bases.{program_paths_base, AreBases}

-- the names of globals as declared, in order
abbrev pub global_names : List Variable → List (List ℕ)
global_names globals = map (λ (global : Variable). global.name) globals

-- the standard blocks of all programs, in order
abbrev pub all_standards : Source → List Standard
all_standards source = map (λ (c : ClockAt). standard_of c.of) (all_clocks source)

-- a table has the frame of the globals' initial values alone
pub record HasStart (source : Source) (table : List Frame) : Type 0 where
  pub start : Frame
  pub table_is : table ≡ start ∷ []
  pub is_start : IsStart source start

-- a sound source has its frames, the names of its globals, and where the values, the standard blocks and the paths of each program begin; each path number is one of 32 bits
pub record IsLaid (source : Source) (order : List ℕ) (frames : List Frame) (names : List (List ℕ)) (values clocks paths : List ℕ) : Type 0 where
  pub sound : IsSound source
  pub below : AreBelow source.blocks order
  pub are_frames : IsFrames source order frames
  pub names_are : names ≡ global_names source.globals
  pub values_begin : AreBases (program_values_base source) (length source.programs) values
  pub clocks_begin : AreBases (program_clocks_base source) (length source.programs) clocks
  pub paths_begin : AreBases (program_paths_base source) (length source.programs) paths
  pub paths_fit : program_paths_base source (length source.programs) < 2 ^ 32

-- and it has the code of each program, which tells what the program costs
pub record IsFramed (source : Source) (order : List ℕ) (frames : List Frame) (names : List (List ℕ)) (values clocks paths : List ℕ) (codes : List PlainCode) : Type 0 where
  pub laid : IsLaid source order frames names values clocks paths
  pub codes_are : AreCodes frames (global_cells source) (length order) values clocks (program_costs source) codes
