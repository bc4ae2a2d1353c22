use Rattle.std.proofs.Common.{◌≡◌, ◌++◌, drop}
use Rattle.codegen.specs.Codes.{labels_code}
use Rattle.codegen.proofs.lines.emit_labels.Given as goal

-- what is emitted, and what is left to emit, is all
abbrev pub invariant-loop-label : goal.invariant-loop-label
invariant-loop-label l = l.out.items ++ labels_code l.place (drop l.label-index l.labels) l.to ≡ l.initial.out.items ++ labels_code l.place l.labels l.to
