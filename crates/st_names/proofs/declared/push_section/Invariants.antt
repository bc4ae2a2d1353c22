use Rattle.std.proofs.Common.{◌≡◌, ◌++◌, drop, map}
use Rattle.std.specs.Prelude.{flat_map}
use Rattle.st_parser.specs.Units.{view_declaration}
use Rattle.st_names.specs.DeclaredNames.{declared_together}
use Rattle.st_names.proofs.declared.push_section.Given as goal

abbrev pub invariant-loop-declaration : goal.invariant-loop-declaration
invariant-loop-declaration l =
    l.list.items ++ flat_map (declared_together l.section.kind) (map view_declaration (drop l.declaration-index l.section.declarations.items))
    ≡ l.initial.list.items ++ flat_map (declared_together l.section.kind) (map view_declaration l.section.declarations.items)
