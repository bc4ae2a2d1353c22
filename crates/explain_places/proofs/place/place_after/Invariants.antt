use Rattle.std.proofs.Common.{◌≡◌, ◌≤◌, ◌+◌, ◌==◌, not, take, count_by}
use Rattle.std.specs.List.{suffix_len}
use Rattle.explain_places.proofs.place.place_after.Given as goal

abbrev pub invariant-loop-byte : goal.invariant-loop-byte
invariant-loop-byte l = record {
  lines : l.line ≡ count_by (λ b. b == 10) (take l.byte-index l.before) + 1;
  columns : l.column ≡ suffix_len (λ b. not (b == 10)) (take l.byte-index l.before) + 1;
  few_lines : l.line ≤ l.byte-index + 1;
  few_columns : l.column ≤ l.byte-index + 1;
}
