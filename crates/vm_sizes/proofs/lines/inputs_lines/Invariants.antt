use Rattle.std.proofs.Common.{◌≡◌, ◌+◌, map, drop}
use Rattle.std.specs.Prelude.{slice_get}
use Rattle.st_tree.specs.View.{view_argument}
use Rattle.vm_sizes.specs.Sizes as sizes
use Rattle.vm_sizes.proofs.lines.inputs_lines.Given as goal

-- what is counted, and what is left to count, is all
abbrev pub invariant-loop-argument : goal.invariant-loop-argument
invariant-loop-argument l =
    (l.total + sizes.inputs_lines (slice_get l.seats l.instance) (map view_argument (drop l.argument-index l.arguments)) ≡ sizes.inputs_lines (slice_get l.seats l.instance) (map view_argument l.arguments))
    × (l.put ≡ sizes.put_lines (slice_get l.seats l.instance))
