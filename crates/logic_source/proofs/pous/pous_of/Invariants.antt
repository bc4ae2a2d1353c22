use Rattle.std.proofs.Common.{◌≡◌, map}
use Rattle.st_typing.specs.Units.{view_pou, view_unit}
use Rattle.logic_source.specs.Pous.{pous_of, block_pous, program_pous}
use Rattle.logic_source.proofs.pous.pous_of.Given as goal

-- the blocks so far are those of the units so far; so are the programs
abbrev pub invariant-loop-unit : goal.invariant-loop-unit
invariant-loop-unit l =
    (map view_pou l.list.blocks.items ≡ block_pous (pous_of (map view_unit l.yielded)))
    × (map view_pou l.list.programs.items ≡ program_pous (pous_of (map view_unit l.yielded)))
