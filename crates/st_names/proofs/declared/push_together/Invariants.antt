use Rattle.std.proofs.Common.{◌≡◌, ◌++◌, drop}
use Rattle.std.specs.Prelude.{option_map}
use Rattle.st_tree.specs.View.{view_expr}
use Rattle.st_names.specs.DeclaredNames.{declared_together}
use Rattle.st_names.proofs.declared.push_together.Given as goal

abbrev pub invariant-loop-name : goal.invariant-loop-name
invariant-loop-name l =
    l.list.items ++ declared_together l.section (record { names = drop l.name-index l.declaration.names.items; region = l.declaration.region; sort = l.declaration.sort; initial = option_map view_expr l.declaration.initial })
    ≡ l.initial.list.items ++ declared_together l.section (record { names = l.declaration.names.items; region = l.declaration.region; sort = l.declaration.sort; initial = option_map view_expr l.declaration.initial })
