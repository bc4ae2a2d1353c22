use Rattle.std.proofs.Common.{◌≡◌, ◌++◌, ◌<◌, false, length}
use Rattle.std.specs.Option.{option_map}
use Rattle.serve_lines.specs.Words.{at_gap, words_of}
use Rattle.serve_lines.specs.Given.{pairs_of}
use Rattle.serve_lines.proofs.given.list_pairs.Given as goal

abbrev pub invariant-loop-rest : goal.invariant-loop-rest
invariant-loop-rest l = record {
  same : pairs_of (words_of l.words) ≡ option_map (λ ps. l.pool ++ ps) (pairs_of (words_of l.rest));
  at_word : 0 < length l.rest → at_gap l.rest ≡ false;
}

abbrev pub decreases-loop-rest : goal.decreases-loop-rest
decreases-loop-rest l = length l.rest
