-- Cells that stay as many.
use Rattle.std.proofs.Common.{◌≡◌, ◌∙◌, length}
use Rattle.logic_source.specs.Source.{Source}
use Rattle.logic_cells.specs.Cells.{PlainCells}
use Rattle.vm_logic.specs.Runs.{HasCells}

-- a source has its cells still
pub has_still : (source : Source) (old new : PlainCells) → length new.values ≡ length old.values → length new.clocks ≡ length old.clocks → HasCells source old → HasCells source new
has_still source old new values clocks has = record { values = values ∙ has.values; clocks = clocks ∙ has.clocks }
