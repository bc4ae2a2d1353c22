use Rattle.std.proofs.Common.{sym, ◌∙◌}
use Rattle.serve_lines.proofs.WordLaws.{solid-more, split-gap, split-end}
use Rattle.serve_lines.proofs.words.split_word.Goals as goal

pub returns-then-is_gap-clause-split : goal.returns-then-is_gap-clause-split
returns-then-is_gap-clause-split c =
    rw (c.split_at.ensures.front, c.split_at.ensures.back)
    (split-gap _ _ c.loop-i-test.true c.loop-i.invariant (sym c.is_gap.ensures ∙ c.if-is_gap.true))

pub loop-i-preserved : goal.loop-i-preserved
loop-i-preserved c = solid-more _ _ c.loop-i-test.true c.loop-i.invariant (sym c.is_gap.ensures ∙ c.if-is_gap.false)

pub returns-clause-split : goal.returns-clause-split
returns-clause-split c =
    rw (c.split_at-2.ensures.front, c.split_at-2.ensures.back)
    (split-end _ _ c.loop-i.auto.i-end c.loop-i-test.false c.loop-i.invariant)
