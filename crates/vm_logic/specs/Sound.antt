-- What holds of each source that runs.
use Rattle.std.specs.Prelude.{◌≡◌, ℕ, List}
use Rattle.logic_source.specs.StParserUnits.{PlainUnit}
use Rattle.logic_source.specs.Faults.{AreTyped}
use Rattle.logic_source.specs.Source.{Source}
use Rattle.logic_source.specs.Units.{source_in}
use Rattle.logic_source.specs.Blocks.{AreBelow}
use Rattle.logic_limits.specs.Limits.{KeepsLimits}

-- a source is that of well-formed units, its block types have an order, and it keeps the limits
pub record IsSound (source : Source) : Type 0 where
  pub units : List PlainUnit
  pub typed : AreTyped units
  pub are_theirs : source ≡ source_in units
  pub order : List ℕ
  pub below : AreBelow source.blocks order
  pub limits : KeepsLimits source
