use Rattle.std.proofs.Common.{◌∙◌, ap, map}
use Rattle.std.proofs.lemmas.List.{take_all}
use Rattle.logic_source.specs.declared.logic.Local.{Local}
use Rattle.logic_source.proofs.Growing.{names_more}
use Rattle.logic_frames.proofs.names.names_of_locals.Goals as goal

pub loop-local-preserved : goal.loop-local-preserved
loop-local-preserved c =
    names_more (λ (x : Local). x.name) c.args.locals.now c.loop-local.local-index c.local-item.result c.loop-local-test.true c.local-item.is c.loop-local.names c.add.new.self c.in_ok-_is_new._is_new c.requires c.loop-local.invariant (rw c.as_str.ensures at c.in_ok-_is_new.ensures.added) (rw c.as_str.ensures at c.in_ok-_is_new.ensures.names)

pub returns : goal.returns
returns c = c.loop-local.invariant ∙ ap (map (λ (x : Local). x.name)) (take_all c.loop-local.local-index c.args.locals.now c.loop-local-test.false)
