use Rattle.std.proofs.Common.{◌≡◌, ◌++◌, drop, map}
use Rattle.std.specs.Prelude.{flat_map}
use Rattle.st_names.specs.Units.{view_section}
use Rattle.st_typing.specs.Blocks.{section_types}
use Rattle.st_typing.proofs.blocks.block_of.Given as goal

abbrev pub invariant-loop-section : goal.invariant-loop-section
invariant-loop-section l =
    map (λ word. word.now) l.words.items ++ flat_map section_types (map view_section (drop l.section-index l.pou.sections.items)) ≡ flat_map section_types (map view_section l.pou.sections.items)
