use Rattle.std.proofs.Common.{take}
use Rattle.serve_lines.proofs.CutLaws.{Names}
use Rattle.serve_lines.proofs.given.name_len.Given as goal

abbrev pub invariant-loop-i : goal.invariant-loop-i
invariant-loop-i l = Names (take l.i l.line)
