use Rattle.std.proofs.Common.{◌∙◌, true, false, arith, length-set}
use Rattle.std.proofs.lemmas.Option.{slice_get_within}
use Rattle.alarm_bank.proofs.MarkLaws.{unmarked_set}
use Rattle.alarm_watch.proofs.watches.mark_all_unless.Goals as goal

pub loop-at-preserved : goal.loop-at-preserved
loop-at-preserved c = record {
  size = rw c.set.ensures (length-set c.loop-at.marks c.loop-at.at true ∙ c.loop-at.invariant.size);
  marked = λ n less unmarked.
      let other = unmarked_set c.loop-at.marks c.loop-at.at n (rw c.set.ensures at unmarked) in
      c.loop-at.invariant.marked n (let not_here = other.0 in omega (arith, less, not_here)) other.1;
}

pub returns-clause-kept : goal.returns-clause-kept
returns-clause-kept c n unmarked =
    let within = slice_get_within c.loop-at.marks n false unmarked in
    absurd (c.loop-at.invariant.marked n (let end = c.loop-at-test.false in let size = c.loop-at.invariant.size in omega (arith, within, end, size, c.len-at-end.ensures)) unmarked)

pub returns-clause-all : goal.returns-clause-all
returns-clause-all c is n unmarked =
    let within = slice_get_within c.loop-at.marks n false unmarked in
    c.loop-at.invariant.marked n (let end = c.loop-at-test.false in let size = c.loop-at.invariant.size in omega (arith, within, end, size, c.len-at-end.ensures)) unmarked
