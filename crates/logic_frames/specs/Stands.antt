-- Cells that stand for a world.
use Rattle.std.specs.Prelude.{◌≡◌, map}
use Rattle.logic_source.specs.declared.logic.BlockRef.{BlockRef}
use Rattle.logic_source.specs.declared.logic.BlockRef.TheVariants.{Ton, Tof, RTrig, Declared}
use Rattle.logic_source.specs.Source.{Source}
use Rattle.logic_source.specs.Worlds.{World}
use Rattle.logic_source.specs.Layout.{ClockAt, cell_paths, all_clocks}
use Rattle.logic_cells.specs.declared.clock.Standard.{Standard}
use Rattle.logic_cells.specs.declared.clock.Standard.TheVariants as standard
use Rattle.logic_cells.specs.declared.clock.Clock.{Clock}
use Rattle.logic_cells.specs.Clocks.{clock_of}
use Rattle.logic_cells.specs.Cells.{PlainCells}

-- the standard block that an instance is of; a declared block type is none, and no list of standard blocks has it
abbrev pub standard_of : BlockRef → Standard
standard_of Ton = standard.Ton
standard_of Tof = standard.Tof
standard_of RTrig = standard.RTrig
standard_of (Declared n) = standard.Ton

-- the clock of the standard block at a path in a world: the one that its calls leave
abbrev pub clock_in : World → ClockAt → Clock
clock_in w c = clock_of (standard_of c.of) (w.calls c.path)

-- cells stand for a world of a source: they have the value of each path, and the clock of each standard block, in order
pub record StandFor (source : Source) (cells : PlainCells) (w : World) : Type 0 where
  pub values_are : cells.values ≡ map w.values (cell_paths source)
  pub clocks_are : cells.clocks ≡ map (clock_in w) (all_clocks source)
