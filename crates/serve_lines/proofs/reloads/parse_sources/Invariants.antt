use Rattle.std.proofs.Common.{◌≡◌, ◌++◌, ◌≤◌, length}
use Rattle.std.specs.Option.{option_map}
use Rattle.serve_lines.specs.Words.{words_of}
use Rattle.serve_lines.specs.Reloads.{sizes_in}
use Rattle.serve_lines.proofs.reloads.parse_sources.Given as goal

-- the sizes so far, and then those of the words that are left
abbrev pub invariant-loop-word : goal.invariant-loop-word
invariant-loop-word l = record {
  same : sizes_in (words_of l.words) ≡ option_map (λ ns. l.sizes ++ ns) (sizes_in (words_of l.rest));
  few : length l.sizes ≤ 64;
}

abbrev pub decreases-loop-word : goal.decreases-loop-word
decreases-loop-word l = length l.rest
