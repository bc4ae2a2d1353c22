use Rattle.std.proofs.Common.{◌≡◌, ◌≤◌, max, map, drop}
use Rattle.st_tree.specs.View.{view_argument}
use Rattle.vm_sizes.specs.Sizes as sizes
use Rattle.vm_sizes.specs.Counts.{capped}
use Rattle.vm_sizes.proofs.words.inputs_words.Given as goal

-- what is counted, and what is left to count, is all, as far as words are counted
abbrev pub invariant-loop-argument : goal.invariant-loop-argument
invariant-loop-argument l =
    (capped (max l.total (sizes.inputs_words (map view_argument (drop l.argument-index l.arguments)))) ≡ capped (sizes.inputs_words (map view_argument l.arguments))) × (l.total ≤ 18446744073709551615)
