use Rattle.std.proofs.Common.{◌≡◌, ◌≤◌, length}
use Rattle.serve_lines.specs.Words.{words_of}
use Rattle.serve_lines.proofs.words.trim_start.Given as goal

abbrev pub invariant-loop-first : goal.invariant-loop-first
invariant-loop-first l = record { same : words_of l.rest ≡ words_of l.line; shorter : length l.rest ≤ length l.line }

abbrev pub decreases-loop-first : goal.decreases-loop-first
decreases-loop-first l = length l.rest
