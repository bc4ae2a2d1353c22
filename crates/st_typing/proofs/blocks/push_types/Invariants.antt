use Rattle.std.proofs.Common.{◌≡◌, ◌++◌, drop, map}
use Rattle.std.specs.Prelude.{flat_map}
use Rattle.st_names.specs.Units.{view_declaration}
use Rattle.st_typing.specs.Blocks.{declaration_types}
use Rattle.st_typing.proofs.blocks.push_types.Given as goal

abbrev pub invariant-loop-declaration : goal.invariant-loop-declaration
invariant-loop-declaration l =
    map (λ word. word.now) l.words.items ++ flat_map declaration_types (map view_declaration (drop l.declaration-index l.section.declarations.items)) ≡ map (λ word. word.now) l.fn.words.items ++ flat_map declaration_types (map view_declaration l.section.declarations.items)
