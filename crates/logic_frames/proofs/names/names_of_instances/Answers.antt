use Rattle.std.proofs.Common.{◌∙◌, ap, map}
use Rattle.std.proofs.lemmas.List.{take_all}
use Rattle.logic_source.specs.declared.logic.Instance.{Instance}
use Rattle.logic_source.proofs.Growing.{names_more}
use Rattle.logic_frames.proofs.names.names_of_instances.Goals as goal

pub loop-instance-preserved : goal.loop-instance-preserved
loop-instance-preserved c =
    names_more (λ (x : Instance). x.name) c.args.list.now c.loop-instance.instance-index c.instance-item.result c.loop-instance-test.true c.instance-item.is c.loop-instance.names c.add.new.self c.in_ok-_is_new._is_new c.requires c.loop-instance.invariant (rw c.as_str.ensures at c.in_ok-_is_new.ensures.added) (rw c.as_str.ensures at c.in_ok-_is_new.ensures.names)

pub returns : goal.returns
returns c = c.loop-instance.invariant ∙ ap (map (λ (x : Instance). x.name)) (take_all c.loop-instance.instance-index c.args.list.now c.loop-instance-test.false)
