-- What is kept of a source that is made ready to run.
use Rattle.std.specs.Prelude.{◌≡◌, ℕ, List, map, length}
use Rattle.logic_source.specs.declared.logic.Variable.{Variable}
use Rattle.logic_source.specs.Source.{Source, global_cells}
use Rattle.logic_source.specs.Worlds.{opening}
use Rattle.logic_cells.specs.Cells.{PlainCells}
use Rattle.logic_frames.specs.Stands.{StandFor}
use Rattle.vm_logic.specs.declared.headings.Heading.{Heading}
use Rattle.vm_logic.specs.Headings.{heading_of, view_heading}

-- the frames of programs come behind those of the block types in order; globals and programs are those of the source; cells stand for the world before the first scan; and the values of programs begin behind those of the globals
pub record IsKept (source : Source) (order : List ℕ) (first : ℕ) (globals : List Variable) (programs : List Heading) (cells : PlainCells) (begin : ℕ) : Type 0 where
  pub first_is : first ≡ length order
  pub globals_are : globals ≡ source.globals
  pub programs_are : map view_heading programs ≡ map heading_of source.programs
  pub opens : StandFor source cells (opening source)
  pub begins : begin ≡ global_cells source
