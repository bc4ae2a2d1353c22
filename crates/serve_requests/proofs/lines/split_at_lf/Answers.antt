use Rattle.std.proofs.Common.{arith, drop}
use Rattle.std.proofs.lemmas.List.{length-drop}
use Rattle.serve_requests.proofs.LfLaws.{nowhere_lf, before_lf, cut_lf}
use Rattle.serve_requests.proofs.lines.split_at_lf.Goals as goal

pub returns-in_default : goal.returns-in_default
returns-in_default c = nowhere_lf c.args.bytes.now c.in_default.ensures

pub returns : goal.returns
returns c =
    let at = c.in-Some.ensures in
    rw (c.split_at.ensures.front, c.split_at-2.ensures.back, c.split_at.ensures.back) (
      cut_lf _ _ at.0.high at.1,
      before_lf _ _ (omega (arith, at.0.high)) at.0.before,
      omega (arith, at.0.high, length-drop 1 (drop c.in-Some.n c.args.bytes.now), length-drop c.in-Some.n c.args.bytes.now),
    )
