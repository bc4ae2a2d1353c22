-- A source whose programs can be walked.
use Rattle.std.specs.Prelude.{◌<◌, ◌^◌, ℕ, List, length}
use Rattle.logic_source.specs.Source.{Source}
use Rattle.logic_source.specs.Blocks.{AreBelow}
use Rattle.logic_source.specs.Seats.{program_values_base, program_clocks_base}
use Rattle.logic_walk.specs.declared.frame.Frame.{Frame}
use Rattle.logic_frames.specs.Frames.{IsFrames}
use Rattle.vm_logic.specs.Sound.{IsSound}
use Rattle.vm_logic.specs.Bases.{program_paths_base, AreBases}

-- a sound source has its frames, and where the values, the standard blocks and the paths of each program begin; each path number is one of 32 bits
pub record IsWalker (source : Source) (order : List ℕ) (frames : List Frame) (values clocks paths : List ℕ) : Type 0 where
  pub sound : IsSound source
  pub below : AreBelow source.blocks order
  pub are_frames : IsFrames source order frames
  pub values_begin : AreBases (program_values_base source) (length source.programs) values
  pub clocks_begin : AreBases (program_clocks_base source) (length source.programs) clocks
  pub paths_begin : AreBases (program_paths_base source) (length source.programs) paths
  pub paths_fit : program_paths_base source (length source.programs) < 2 ^ 32
