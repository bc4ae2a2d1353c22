use Rattle.std.proofs.Common.{◌≡◌, ◌++◌, drop, map}
use Rattle.st_names.specs.Units.{view_pou}
use Rattle.st_typing.specs.Blocks.{blocks_among, places_among}
use Rattle.st_typing.proofs.blocks.push_blocks.Given as goal

abbrev pub invariant-loop-number : goal.invariant-loop-number
invariant-loop-number l =
    (l.list.blocks.items ++ blocks_among (map view_pou (drop l.number l.pous)) ≡ l.fn.list.blocks.items ++ blocks_among (map view_pou l.pous))
    × (l.list.places.items ++ places_among l.source l.number (map view_pou (drop l.number l.pous)) ≡ l.fn.list.places.items ++ places_among l.source 0 (map view_pou l.pous))
