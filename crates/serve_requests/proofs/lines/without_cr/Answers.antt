use Rattle.std.proofs.Common.{arith, ◌∙◌}
use Rattle.serve_requests.proofs.RequestLaws.{without_cr-cr, without_cr-other}
use Rattle.serve_requests.proofs.lines.without_cr.Goals as goal
use Rattle.serve_requests.proofs.lines.without_cr.Goals.{else-n-gt0-via-then-n-gt0+else-line-n-eq13, else-n-gt0-via-else-n-gt0}

pub returns-then-line-n-eq13 : goal.returns-then-line-n-eq13
returns-then-line-n-eq13 c = c.split_at.ensures.front ∙ without_cr-cr c.args.line.now c.if-n-gt0.true c.if-line-n-eq13.true

pub returns-else-n-gt0 : goal.returns-else-n-gt0
returns-else-n-gt0 c =
    elim c.else-n-gt0.branch [
      | else-n-gt0-via-then-n-gt0+else-line-n-eq13 w ↦ without_cr-other c.args.line.now (λ there e. w.if-line-n-eq13.false e)
      | else-n-gt0-via-else-n-gt0 w ↦ without_cr-other c.args.line.now (λ there e. omega arith)
    ]
