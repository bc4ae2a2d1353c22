use Rattle.std.proofs.Common.{◌∙◌, ◌++◌, ap, map}
use Rattle.std.proofs.lemmas.List.{take_all}
use Rattle.logic_source.specs.Taken.{repeats}
use Rattle.logic_source.specs.declared.logic.Routine.{Routine}
use Rattle.logic_source.specs.Source.{PlainRoutine, view_routine}
use Rattle.logic_source.specs.Names.{own_words, row_words, instance_words}
use Rattle.logic_source.specs.Layout.{AreNamedApart}
use Rattle.logic_source.proofs.Layouts.{all_at}
use Rattle.logic_frames.specs.declared.names.Variables.{Variables}
use Rattle.logic_frames.specs.Scoped.{local_names, local_kinds}
use Rattle.logic_frames.proofs.Joined.{fused}
use Rattle.logic_frames.proofs.Built.{earlier_apart, routine_at, mapped_on}
use Rattle.logic_frames.proofs.frames.members_of.Goals as goal

pub member_variables-requires : goal.member_variables-requires
member_variables-requires c =
    let blocks = c.args.blocks.now in
    let block = c.block-item.result in
    let k = c.loop-block.block-index in
    ap (λ l. repeats (own_words l)) c.deref.ensures.value ∙ earlier_apart (own_words block.locals.items) (row_words block.rows.items ++ instance_words block.instances.items) (all_at AreNamedApart (map view_routine blocks) k (view_routine block) c.requires (routine_at blocks k block c.loop-block-test.true c.block-item.is))

pub loop-block-preserved : goal.loop-block-preserved
loop-block-preserved c =
    let blocks = c.args.blocks.now in
    let v = c.in_ok-member_variables.field-0 in
    let are = c.in_ok-member_variables.ensures in
    let l = c.loop-block in (
      mapped_on (λ (x : Variables). x.names) (λ (r : Routine). local_names r.locals.items) blocks l.block-index c.block-item.result l.members.items c.push.new.self.items v c.loop-block-test.true c.block-item.is l.invariant.0 (are.names_are ∙ ap local_names c.deref.ensures.value) c.in_ok-push.ensures.items,
      mapped_on (λ (x : Variables). x.kinds.items) (λ (r : Routine). local_kinds r.locals.items) blocks l.block-index c.block-item.result l.members.items c.push.new.self.items v c.loop-block-test.true c.block-item.is l.invariant.1 (are.kinds_are ∙ ap local_kinds c.deref.ensures.value) c.in_ok-push.ensures.items,
    )

pub returns : goal.returns
returns c =
    let blocks = c.args.blocks.now in
    let l = c.loop-block in
    let all = take_all l.block-index blocks c.loop-block-test.false in
    record {
      names_are = l.invariant.0 ∙ ap (map (λ (r : Routine). local_names r.locals.items)) all ∙ fused (λ (b : PlainRoutine). local_names b.locals) view_routine blocks;
      kinds_are = l.invariant.1 ∙ ap (map (λ (r : Routine). local_kinds r.locals.items)) all ∙ fused (λ (b : PlainRoutine). local_kinds b.locals) view_routine blocks;
    }
