use Rattle.std.proofs.Common.{◌≤◌, ◌∙◌, ap, sym, subst, map, length, arith}
use Rattle.std.proofs.lemmas.List.{take_all}
use Rattle.logic_source.specs.declared.logic.Routine.{Routine}
use Rattle.logic_source.specs.Source.{view_routine}
use Rattle.logic_limits.specs.Measures.{counts_by, routine_counts, AreCounted}
use Rattle.logic_limits.proofs.Tables.{mapped_more, map_both, counted_all}
use Rattle.logic_limits.proofs.counting.count_programs.Goals as goal

pub loop-program-preserved : goal.loop-program-preserved
loop-program-preserved c =
    let table = c.in_ok-table.table.items in
    let program = c.program-item.result in
    mapped_more (λ (r : Routine). counts_by table (view_routine r)) c.args.logic.now.programs.items c.deref-program-items.result.now c.loop-program.program-index program c.loop-program.list.items c.push.new.self.items c.in_ok-counts.counts
    c.deref-program-items.ensures.value c.loop-program-test.true c.program-item.is c.loop-program.invariant (c.in_ok-counts.ensures ∙ ap (λ t. counts_by t (view_routine program)) c.deref-in-loop-program.ensures.value) c.in_ok-push.ensures.items

pub returns : goal.returns
returns c =
    let logic = c.args.logic.now in
    let blocks = map view_routine logic.blocks.items in
    let programs = logic.programs.items in
    let table = c.in_ok-table.table.items in
    let counted = subst (λ bs. AreCounted (map view_routine bs) table) c.deref.ensures.value c.in_ok-table.ensures in
    let past : length programs ≤ c.loop-program.program-index = let e = ap length c.deref-program-items.ensures.value in let p = c.loop-program-test.false in omega arith in
    c.loop-program.invariant ∙ ap (map (λ (r : Routine). counts_by table (view_routine r))) (take_all c.loop-program.program-index programs past)
    ∙ ap (λ f. map (λ (r : Routine). f (view_routine r)) programs) (counted_all blocks c.args.order.now c.requires table counted) ∙ sym (map_both (routine_counts blocks) view_routine programs)
