use Rattle.std.proofs.Common.{◌∙◌, ap, map}
use Rattle.std.proofs.lemmas.List.{take_all}
use Rattle.logic_source.specs.declared.logic.Row.{Row}
use Rattle.logic_source.proofs.Growing.{names_more}
use Rattle.logic_frames.proofs.names.names_of_rows.Goals as goal

pub loop-row-preserved : goal.loop-row-preserved
loop-row-preserved c =
    names_more (λ (x : Row). x.name) c.args.rows.now c.loop-row.row-index c.row-item.result c.loop-row-test.true c.row-item.is c.loop-row.names c.add.new.self c.in_ok-_is_new._is_new c.requires c.loop-row.invariant (rw c.as_str.ensures at c.in_ok-_is_new.ensures.added) (rw c.as_str.ensures at c.in_ok-_is_new.ensures.names)

pub returns : goal.returns
returns c = c.loop-row.invariant ∙ ap (map (λ (x : Row). x.name)) (take_all c.loop-row.row-index c.args.rows.now c.loop-row-test.false)
