use Rattle.std.proofs.Common.{◌∙◌, ap}
use Rattle.std.proofs.lemmas.List.{take_all}
use Rattle.logic_source.specs.declared.logic.Variable.{Variable}
use Rattle.logic_source.proofs.Growing.{names_more}
use Rattle.vm_logic.specs.Framed.{global_names}
use Rattle.vm_logic.proofs.names.global_names.Goals as goal

pub loop-global-preserved : goal.loop-global-preserved
loop-global-preserved c =
    names_more (λ (x : Variable). x.name) c.args.globals.now c.loop-global.global-index c.global-item.result c.loop-global-test.true c.global-item.is c.loop-global.names c.add.new.self c.in_ok-_is_new._is_new c.requires c.loop-global.invariant (rw c.as_str.ensures at c.in_ok-_is_new.ensures.added) (rw c.as_str.ensures at c.in_ok-_is_new.ensures.names)

pub returns : goal.returns
returns c = c.loop-global.invariant ∙ ap global_names (take_all c.loop-global.global-index c.args.globals.now c.loop-global-test.false)
