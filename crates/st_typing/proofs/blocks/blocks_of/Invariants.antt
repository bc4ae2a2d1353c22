use Rattle.std.proofs.Common.{◌≡◌, ◌++◌, drop, map}
use Rattle.st_names.specs.Units.{view_unit}
use Rattle.st_typing.specs.Blocks.{blocks_of, block_places}
use Rattle.st_typing.proofs.blocks.blocks_of.Given as goal

abbrev pub invariant-loop-source : goal.invariant-loop-source
invariant-loop-source l =
    (l.list.blocks.items ++ blocks_of (map view_unit (drop l.source l.units)) ≡ blocks_of (map view_unit l.units))
    × (l.list.places.items ++ block_places l.source (map view_unit (drop l.source l.units)) ≡ block_places 0 (map view_unit l.units))
