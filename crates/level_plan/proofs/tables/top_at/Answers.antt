use Rattle.std.proofs.Common.{[], ◌∷◌, ◌++◌, get_or, take}
use Rattle.std.proofs.lemmas.List.{take_more}
use Rattle.level_plan.specs.declared.access.Extent.{Extent}
use Rattle.level_plan.specs.Accesses.{Covers, HaveGlobal}
use Rattle.level_plan.proofs.Extents.{have_left, have_last, have_cases}
use Rattle.level_plan.proofs.Tops.{top_both}
use Rattle.level_plan.proofs.tables.top_at.Goals as goal

pub loop-extent-preserved : goal.loop-extent-preserved
loop-extent-preserved c =
    let extents = c.args.extents.now in
    let index = c.loop-extent.extent-index in
    let before = take index extents in
    let none : Extent = record { first = 0; count = 0 } in
    let extent = get_or extents index none in
    rw (take_more extents index none c.loop-extent-test.true, c.max-top.ensures)
    (top_both (HaveGlobal before) (Covers extent) (HaveGlobal (before ++ extent ∷ [])) c.args.levels.now c.loop-extent.top c.top_of.result
    (record { one = have_left before (extent ∷ []); other = have_last before extent; cases = have_cases before extent }) c.loop-extent.invariant c.top_of.ensures)
