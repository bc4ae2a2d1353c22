use Rattle.std.proofs.Common.{List, [], ◌+◌, map, arith, sym, subst}
use Rattle.logic_source.specs.Layout.{elements_from}
use Rattle.logic_source.specs.Ranges.{element_at}
use Rattle.logic_carry.specs.declared.lists.ValueAt.{ValueAt}
use Rattle.logic_carry.specs.Lists.{Lists, numbers_in}
use Rattle.logic_carry.proofs.Stepping.{element_step}
use Rattle.logic_carry.proofs.lists.list_row.Goals as goal

pub loop-step-preserved : goal.loop-step-preserved
loop-step-preserved c =
    let row = c.args.row in
    let n = c.loop-step.step in
    let before = c.args.listed.now in
    let old = c.loop-step.listed in
    let new = numbers_in (record { numbers = c.path_number.new.numbers; values = c.push.new.self; standards = old.standards }) in
    record {
      numbered = c.in_ok-below.ensures.numbered;
      lists = λ words q measured at_q.
          subst (λ (vs : List ValueAt). Lists words (numbers_in before) new before.values.items vs before.standards.items old.standards.items (map (element_at row.kind row.bounds) (elements_from row.bounds.low (n + 1) q)) []) (sym c.in_ok-push.ensures.items)
          (element_step words (numbers_in before) (numbers_in old) new before.values.items old.values.items before.standards.items old.standards.items c.args.path c.in_ok-below.below q n row.kind row.bounds row.first (9223372036854775808 + row.first + n) measured.first_is (omega arith) (omega arith) at_q
          (c.loop-step.invariant.lists words q measured at_q) c.in_ok-below.ensures.grows c.in_ok-below.ensures.number);
    }
