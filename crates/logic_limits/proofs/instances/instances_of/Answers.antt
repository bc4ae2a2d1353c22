use Rattle.logic_source.specs.Source.{view_routine}
use Rattle.logic_limits.specs.Measures.{block_of}
use Rattle.logic_limits.proofs.Naming.{named_on, named_all}
use Rattle.logic_limits.proofs.instances.instances_of.Goals as goal

pub loop-instance-preserved : goal.loop-instance-preserved
loop-instance-preserved c =
    let before = c.loop-instance.instances in
    let after = c.push_instance.new.instances in
    record {
      long = c.in_ok-push_instance.ensures.long;
      found = named_on c.args.routine.now.instances.items c.deref-instance-items.result.now c.loop-instance.instance-index c.instance-item.result (block_of before.names before.blocks.items) (block_of after.names after.blocks.items) c.deref-instance-items.ensures.value
          c.loop-instance-test.true c.instance-item.is c.loop-instance.invariant.found c.in_ok-push_instance.ensures.found;
    }

pub returns : goal.returns
returns c =
    let instances = c.loop-instance.instances in
    record {
      long = c.loop-instance.invariant.long;
      found = named_all (view_routine c.args.routine.now) c.deref-instance-items.result.now c.loop-instance.instance-index (block_of instances.names instances.blocks.items) c.deref-instance-items.ensures.value c.loop-instance-test.false c.loop-instance.invariant.found;
    }
