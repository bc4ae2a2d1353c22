use Rattle.std.proofs.Common.{take}
use Rattle.serve_lines.proofs.WordLaws.{Solid}
use Rattle.serve_lines.proofs.words.split_word.Given as goal

abbrev pub invariant-loop-i : goal.invariant-loop-i
invariant-loop-i l = Solid (take l.i l.line)
