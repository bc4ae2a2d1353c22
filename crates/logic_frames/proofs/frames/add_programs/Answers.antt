use Rattle.std.proofs.Common.{◌≡◌, ◌∙◌, ap, subst, map, length, arith}
use Rattle.std.specs.Prelude.{slice_get}
use Rattle.logic_source.specs.Source.{view_routine}
use Rattle.logic_source.specs.Blocks.{DeclaresThere}
use Rattle.logic_source.specs.Layout.{AreNamedApart}
use Rattle.logic_source.proofs.Layouts.{all_at}
use Rattle.logic_frames.specs.Built.{IsFitting, AreBegun}
use Rattle.logic_frames.proofs.Built.{routine_at}
use Rattle.logic_frames.proofs.Programs.{begun_more}
use Rattle.logic_frames.proofs.frames.add_programs.Goals as goal

pub frame_of-requires-clause-apart : goal.frame_of-requires-clause-apart
frame_of-requires-clause-apart c =
    let programs = c.args.programs.now in
    let program = c.program-item.result in
    let k = c.loop-program.program-index in
    all_at AreNamedApart (map view_routine programs) k (view_routine program) c.requires.apart (routine_at programs k program c.loop-program-test.true c.program-item.is)

pub frame_of-requires-clause-fitting : goal.frame_of-requires-clause-fitting
frame_of-requires-clause-fitting c =
    let programs = c.args.programs.now in
    let program = c.program-item.result in
    let k = c.loop-program.program-index in
    all_at (IsFitting c.args.table.now) (map view_routine programs) k (view_routine program) c.requires.fitting (routine_at programs k program c.loop-program-test.true c.program-item.is)

pub loop-program-preserved : goal.loop-program-preserved
loop-program-preserved c = λ source order used run same of types are_used none.
    let programs = c.args.programs.now in
    let program = c.program-item.result in
    let p = view_routine program in
    let k = c.loop-program.program-index in
    let at = ap (λ ps. slice_get ps k) same ∙ routine_at programs k program c.loop-program-test.true c.program-item.is in
    begun_more source order used run are_used k p c.loop-program.frames.items c.push.new.self.items c.args.table.now c.in_ok-frame.frame c.in_ok-frame.field-0-1 (c.loop-program.invariant source order used run same of types are_used none) at
    (all_at (DeclaresThere source.blocks) source.programs k p types.in_programs at) (c.in_ok-frame.ensures.made source of c.in_ok-frame.ensures.few) c.in_ok-push.ensures.items

pub returns : goal.returns
returns c = λ source order used run same of types are_used none.
    let past = c.loop-program-test.false in
    let most = c.loop-program.auto.program-index-end in
    let whole : c.loop-program.program-index ≡ length c.args.programs.now = omega (arith, past, most) in
    subst (λ n. AreBegun source order used run n c.loop-program.frames.items c.args.table.now) whole (c.loop-program.invariant source order used run same of types are_used none)
