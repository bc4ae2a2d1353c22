use Rattle.std.proofs.Common.{sym, ap, ◌∙◌, length, arith}
use Rattle.std.proofs.lemmas.Grind.{common_steps}
use Rattle.serve_lines.proofs.CutLaws.{cut-found, cut-missed, cut-ended}
use Rattle.serve_lines.proofs.given.cut_name.Goals as goal

pub returns-in_err-byte-clause-cut : goal.returns-in_err-byte-clause-cut
returns-in_err-byte-clause-cut c =
    rw c.from_residual.ensures
    (cut-ended c.args.line.now c.name_len.result (ap length (sym c.split_at.ensures.back) ∙ c.in_err-byte.ensures.cases) c.name_len.ensures.names)

pub returns-then-byte-eq61-clause-cut : goal.returns-then-byte-eq61-clause-cut
returns-then-byte-eq61-clause-cut c =
    rw c.split_at.ensures.front
    (cut-found c.args.line.now c.name_len.result c.in_ok-byte.byte.now c.in_ok-byte.after.now c.name_len.ensures.names
    (sym c.split_at.ensures.back ∙ c.in_ok-byte.ensures.cases.0) c.if-byte-eq61.true)

pub returns-else-byte-eq61-clause-cut : goal.returns-else-byte-eq61-clause-cut
returns-else-byte-eq61-clause-cut c =
    cut-missed c.args.line.now c.name_len.result c.in_ok-byte.byte.now c.in_ok-byte.after.now c.name_len.ensures.names
    (sym c.split_at.ensures.back ∙ c.in_ok-byte.ensures.cases.0) c.if-byte-eq61.false c.name_len.ensures.stops

pub returns-then-byte-eq61-clause-shorter : goal.returns-then-byte-eq61-clause-shorter
returns-then-byte-eq61-clause-shorter c = grind (arith, common_steps)
