use Rattle.std.proofs.Common.{◌∙◌, ap, map}
use Rattle.std.proofs.lemmas.List.{take_all}
use Rattle.logic_source.specs.declared.logic.Variable.{Variable}
use Rattle.logic_source.proofs.Growing.{names_more}
use Rattle.logic_frames.proofs.names.names_of_globals.Goals as goal

pub loop-global-preserved : goal.loop-global-preserved
loop-global-preserved c =
    names_more (λ (x : Variable). x.name) c.args.globals.now c.loop-global.global-index c.global-item.result c.loop-global-test.true c.global-item.is c.loop-global.names c.add.new.self c.in_ok-_is_new._is_new c.requires c.loop-global.invariant (rw c.as_str.ensures at c.in_ok-_is_new.ensures.added) (rw c.as_str.ensures at c.in_ok-_is_new.ensures.names)

pub returns : goal.returns
returns c = c.loop-global.invariant ∙ ap (map (λ (x : Variable). x.name)) (take_all c.loop-global.global-index c.args.globals.now c.loop-global-test.false)
