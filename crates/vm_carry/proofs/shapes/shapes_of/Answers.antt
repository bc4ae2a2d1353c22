use Rattle.std.proofs.Common.{◌≡◌, ◌∙◌, ◌+◌, ap, sym, subst, refl, arith, ℕ, List, [], Some, take, slice_get}
use Rattle.std.proofs.lemmas.List.{take_all}
use Rattle.std.proofs.lemmas.Option.{slice_get-get_or}
use Rattle.base_words.specs.Names.{find_name}
use Rattle.logic_source.specs.Source.{PlainRoutine}
use Rattle.logic_carry.specs.declared.words.Shape.{Shape}
use Rattle.logic_carry.specs.Shapes.{AreShapes}
use Rattle.logic_carry.proofs.Tables.{grows_on, grows_none}
use Rattle.logic_carry.proofs.Shaping.{shapes_next}
use Rattle.vm_carry.proofs.Headed.{headed_at, headed_count}
use Rattle.vm_carry.proofs.shapes.shapes_of.Goals as goal

pub loop-block-init : goal.loop-block-init
loop-block-init c =
    let words = find_name c.args.names.now in
    record {
      are = λ rs same. subst (λ (xs : List Shape). AreShapes words xs []) (sym c.in_ok-shapes.ensures.items) tt;
      grows = grows_none words;
    }

pub loop-block-preserved : goal.loop-block-preserved
loop-block-preserved c =
    let all = c.args.blocks.now in
    let n = c.loop-block.block-index in
    let item = c.block-item.result in
    let at : slice_get all n ≡ Some item = slice_get-get_or all n item (omega (arith, c.loop-block-test.true)) ∙ ap Some (sym c.block-item.is) in
    let inv = c.loop-block.invariant in
    let old = find_name c.loop-block.names in
    let new = find_name c.shape_of.new.names in
    record {
      are = λ rs same.
          let r = headed_at all rs n item same at in
          subst (λ (xs : List Shape). AreShapes new xs (take (n + 1) rs)) (sym c.in_ok-push.ensures.items)
          (shapes_next old new c.in_ok-shape.ensures.grows c.loop-block.shapes.items rs n c.in_ok-shape.shape r.0 (inv.are rs same) r.1 (c.in_ok-shape.ensures.shape r.0 r.2));
      grows = grows_on (find_name c.args.names.now) old new inv.grows c.in_ok-shape.ensures.grows;
    }

pub returns-clause-shapes : goal.returns-clause-shapes
returns-clause-shapes c = λ rs same.
    let n = c.loop-block.block-index in
    let many = headed_count c.args.blocks.now rs same in
    let whole : take n rs ≡ rs = take_all n rs (let test = c.loop-block-test.false in omega (arith, many, test)) in
    subst (λ (xs : List PlainRoutine). AreShapes (find_name c.loop-block.names) c.loop-block.shapes.items xs) whole (c.loop-block.invariant.are rs same)
