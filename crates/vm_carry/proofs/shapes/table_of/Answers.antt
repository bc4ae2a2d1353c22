use Rattle.std.proofs.Common.{◌≡◌, subst, List}
use Rattle.base_words.specs.Names.{find_name}
use Rattle.logic_carry.specs.declared.words.Shape.{Shape}
use Rattle.logic_carry.specs.Marks.{AreMarked}
use Rattle.logic_carry.specs.Shapes.{timer_inputs, trigger_inputs}
use Rattle.logic_carry.proofs.Tables.{grows_on}
use Rattle.logic_carry.proofs.Naming.{own_later}
use Rattle.vm_carry.proofs.shapes.table_of.Goals as goal

pub returns-clause-table : goal.returns-clause-table
returns-clause-table c = λ rs same.
    let a = find_name c.timer_of.new.names in
    let b = find_name c.trigger_of.new.names in
    let d = find_name c.shapes_of.new.names in
    record {
      blocks_are = c.in_ok-blocks.ensures.shapes rs same;
      marked = subst (λ (ss : List Shape). AreMarked c.in_ok-marks.marks.items ss) c.deref.ensures.value c.in_ok-marks.ensures;
      timer_is = own_later a d (grows_on a b d c.in_ok-trigger.ensures.grows c.in_ok-blocks.ensures.grows) c.in_ok-timer.timer.items timer_inputs c.in_ok-timer.ensures.timer;
      trigger_is = own_later b d c.in_ok-blocks.ensures.grows c.in_ok-trigger.trigger.items trigger_inputs c.in_ok-trigger.ensures.trigger;
    }

pub returns-clause-grows : goal.returns-clause-grows
returns-clause-grows c =
    let a = find_name c.timer_of.new.names in
    let b = find_name c.trigger_of.new.names in
    let d = find_name c.shapes_of.new.names in
    grows_on (find_name c.args.names.now) a d c.in_ok-timer.ensures.grows (grows_on a b d c.in_ok-trigger.ensures.grows c.in_ok-blocks.ensures.grows)
