use Rattle.std.proofs.Common.{◌≡◌, ◌++◌, map}
use Rattle.st_typing.specs.Units.{view_pou}
use Rattle.logic_source.specs.Pous.{block_pous, program_pous}
use Rattle.logic_source.proofs.pous.push_pous.Given as goal

-- the blocks so far are those of before, and those so far; so are the programs
abbrev pub invariant-loop-pou : goal.invariant-loop-pou
invariant-loop-pou l =
    (map view_pou l.list.blocks.items ≡ map view_pou l.initial.list.blocks.items ++ block_pous (map view_pou l.yielded))
    × (map view_pou l.list.programs.items ≡ map view_pou l.initial.list.programs.items ++ program_pous (map view_pou l.yielded))
