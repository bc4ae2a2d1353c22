use Rattle.std.proofs.Common.{◌≡◌, drop}
use Rattle.st_tree.specs.Meaning.{labels_fit}
use Rattle.st_tree.proofs.labels.labels_fit.Given as goal

abbrev pub invariant-loop-label : goal.invariant-loop-label
invariant-loop-label l = labels_fit l.n (drop l.label-index l.labels) ≡ labels_fit l.n l.labels
