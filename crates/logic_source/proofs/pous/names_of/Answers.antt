use Rattle.std.proofs.Common.{◌≡◌, ◌∙◌, ap, map, false}
use Rattle.std.proofs.lemmas.List.{take_all}
use Rattle.st_typing.specs.Taken.{repeats}
use Rattle.st_typing.specs.Units.{PlainPou, view_pou}
use Rattle.logic_source.specs.Pous.{pou_word}
use Rattle.logic_source.proofs.Growing.{names_more, fused}
use Rattle.logic_source.proofs.pous.names_of.Goals as goal

pub loop-block-preserved : goal.loop-block-preserved
loop-block-preserved c =
    let apart : repeats (map (λ p. pou_word (view_pou p)) c.args.blocks.now) ≡ false = ap repeats (fused pou_word view_pou c.args.blocks.now) ∙ c.requires in
    names_more (λ p. p.name) c.args.blocks.now c.loop-block.block-index c.block-item.result c.loop-block-test.true c.block-item.is c.loop-block.names c.add.new.self c.in_ok-_is_new._is_new apart c.loop-block.invariant (rw c.as_str.ensures at c.in_ok-_is_new.ensures.added) (rw c.as_str.ensures at c.in_ok-_is_new.ensures.names)

pub returns : goal.returns
returns c =
    c.loop-block.invariant ∙ ap (λ ps. map (λ p. p.name) ps) (take_all c.loop-block.block-index c.args.blocks.now c.loop-block-test.false)
    ∙ fused (λ (p : PlainPou). p.name) view_pou c.args.blocks.now
