use Rattle.std.proofs.Common.{◌≡◌, ◌∙◌, arith}
use Rattle.std.proofs.lemmas.List.{get_or_default}
use Rattle.logic_source.specs.Source.{source_of, global_cells}
use Rattle.vm_logic.proofs.Bases.{values_begin}
use Rattle.vm_logic.proofs.framed.global_cells.Goals as goal

pub returns : goal.returns
returns c =
    let long = c.requires.long in
    c.index.ensures ∙ get_or_default c.args.values.now.items 0 c.index.result.now 0 (omega (arith, long)) ∙ c.requires.each 0 (omega arith) ∙ values_begin (source_of c.args.logic.now)
