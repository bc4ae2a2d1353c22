use Rattle.std.proofs.Common.{sym, ◌∙◌}
use Rattle.serve_lines.proofs.CutLaws.{names-more}
use Rattle.serve_lines.proofs.given.name_len.Goals as goal

pub loop-i-preserved : goal.loop-i-preserved
loop-i-preserved c = names-more _ _ c.loop-i-test.true c.loop-i.invariant (sym c.is_name_byte.ensures ∙ c.if-not-is_name_byte.false)
