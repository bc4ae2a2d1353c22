use Rattle.std.proofs.Common.{◌∙◌, ap, Some, None, if◌then◌else◌}
use Rattle.indexmap.specs.IndexMap.{get}
use Rattle.plant_types.specs.Words.{same_word}
use Rattle.st_blocks.specs.Names.{found_or}
use Rattle.st_blocks.proofs.Numbered.{names_more}
use Rattle.st_blocks.proofs.names.names_of.Goals as goal

pub loop-i-preserved : goal.loop-i-preserved
loop-i-preserved c =
    names_more c.args.blocks.now c.loop-i.i c.index-blocks-i.result (get same_word c.loop-i.names) (get same_word c.add_name.new.names) c.loop-i-test.true c.index-blocks-i.is c.loop-i.invariant
    (λ word. c.in_ok-add_name.ensures word ∙ ap (λ name. found_or (get same_word c.loop-i.names word) (if same_word word name then Some c.loop-i.i else None)) c.name.ensures)
