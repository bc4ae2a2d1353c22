use Rattle.std.proofs.Common.{◌≡◌, ◌++◌, map, drop}
use Rattle.std.specs.Prelude.{slice_get}
use Rattle.st_tree.specs.View.{view_argument}
use Rattle.codegen.specs.Emission.{inputs_code}
use Rattle.codegen.proofs.arguments.emit_inputs.Given as goal

-- what is emitted, and what is left to emit, is all
abbrev pub invariant-loop-argument : goal.invariant-loop-argument
invariant-loop-argument l =
    l.out.items ++ inputs_code l.scope l.place (slice_get l.scope.seats.now l.instance) (map view_argument (drop l.argument-index l.arguments))
    ≡ l.initial.out.items ++ inputs_code l.scope l.place (slice_get l.scope.seats.now l.instance) (map view_argument l.arguments)
