use Rattle.std.specs.Prelude.{◌||◌, not}
use Rattle.base_words.specs.Names.{is_among}
use Rattle.logic_frames.proofs.Flags.{instance_flagged, instances_done}
use Rattle.logic_frames.proofs.reached.flag_instances.Goals as goal

pub loop-instance-preserved : goal.loop-instance-preserved
loop-instance-preserved c =
    let l = c.loop-instance in
    instance_flagged (λ name. not c.args.calls || is_among c.args.called.now name) c.args.list.now l.instance-index c.instance-item.result l.flags.items c.flag_instance.new.flags.items _ c.loop-instance-test.true c.instance-item.is l.invariant c.flag_instance.ensures

pub returns : goal.returns
returns c =
    let l = c.loop-instance in
    instances_done (λ name. not c.args.calls || is_among c.args.called.now name) c.args.list.now l.instance-index l.flags.items _ c.loop-instance-test.false l.invariant
