use Rattle.std.proofs.Common.{◌≡◌, true, fold, arith, ap, sym, ◌∙◌}
use Rattle.std.proofs.lemmas.Grind.{common_steps}
use Rattle.std.proofs.lemmas.List.{drop_all}
use Rattle.alarm_delays.specs.Delays.{have_none, put_since}
use Rattle.alarm_delays.proofs.DelayLaws.{moved_taken}
use Rattle.alarm_delays.proofs.delays.Delays.apply.Goals as goal

pub loop-number-preserved : goal.loop-number-preserved
loop-number-preserved c = grind (arith, common_steps)

pub returns-then-is_plain : goal.returns-then-is_plain
returns-then-is_plain c =
    let d = c.loop-number.self in
    let old = c.args.self.now in
    let none : have_none old.delays ≡ true = ap have_none (sym c.loop-number.invariant.delays) ∙ sym c.is_plain.ensures ∙ c.if-is_plain.true in
    let end = drop_all c.loop-number.number-index c.args.met.now (omega arith) in
    let all : d.since ≡ fold (put_since c.args.moment) old.since c.args.met.now = ap (fold (put_since c.args.moment) d.since) (sym end) ∙ c.loop-number.invariant.put in
    c.take_moved.ensures ∙ moved_taken d old c.args.met.now c.args.moment c.args.moved.now none c.loop-number.invariant.delays all c.loop-number.invariant.last
