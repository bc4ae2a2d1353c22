use Rattle.std.proofs.Common.{◌≡◌, ◌<◌, ◌∙◌, ap, arith, length, length-set, slice_index_or}
use Rattle.std.proofs.lemmas.Grind.{common_steps}
use Rattle.alarm_machine.specs.Alarms.{PlainAlarm, end_of}
use Rattle.alarm_bank.specs.Banks.{end_or_never}
use Rattle.alarm_bank.proofs.BankLaws.{ends_more, time_more, settled_more}
use Rattle.alarm_bank.proofs.bank.shelf_of.Goals as goal

pub loop-at-preserved : goal.loop-at-preserved
loop-at-preserved c =
    let within : c.loop-at.at < length c.args.alarms.now = omega arith in
    let end : c.end_or_never-end.result ≡ end_or_never (end_of (slice_index_or c.args.alarms.now c.loop-at.at c.index-alarms-at.result).state) =
    c.end_or_never-end.ensures.end ∙ ap (λ (a : PlainAlarm). end_or_never (end_of a.state)) c.index-alarms-at.is in
    record {
      ends = rw c.put.ensures (ends_more c.args.alarms.now c.loop-at.shelf c.loop-at.at c.end_or_never-end.result c.index-alarms-at.result within c.loop-at.invariant.count end c.loop-at.invariant.ends);
      count = rw c.put.ensures (length-set c.loop-at.shelf c.loop-at.at c.end_or_never-end.result ∙ c.loop-at.invariant.count);
      in_time = time_more c.args.alarms.now c.loop-at.at c.index-alarms-at.result within c.index-alarms-at.is c.end_or_never-end.ensures.in_range c.loop-at.invariant.in_time;
      settled = settled_more c.args.alarms.now c.loop-at.at c.index-alarms-at.result within c.index-alarms-at.is c.end_or_never-end.ensures.settled c.loop-at.invariant.settled;
    }

pub loop-at-init : goal.loop-at-init
loop-at-init c = grind (arith, common_steps)

pub returns-clause-ends : goal.returns-clause-ends
returns-clause-ends c = grind (arith, common_steps)
