use Rattle.std.proofs.Common.{◌≡◌, ◌∙◌, ◌<◌, ◌+◌, ◌++◌, ◌∷◌, [], ap, subst, length, map, get_or, arith}
use Rattle.std.proofs.lemmas.List.{length-map}
use Rattle.logic_source.specs.Source.{row_cells, view_routine, source_of}
use Rattle.logic_source.specs.Seats.{program_values_base}
use Rattle.vm_logic.specs.Bases.{stopped, value_count, numbers_in, AreBases, AreCounted}
use Rattle.vm_logic.proofs.Bases.{bases_none, bases_more, values_begin, values_next}
use Rattle.vm_logic.proofs.Counted.{routine_at, program_counted}
use Rattle.vm_logic.proofs.Few.{bases_few}
use Rattle.vm_logic.proofs.values.value_bases.Goals as goal

pub row_cells-requires : goal.row_cells-requires
row_cells-requires c = let few = c.requires.slots in let same = ap row_cells c.deref-2.ensures.value in omega (arith, few, same)

pub loop-program-init : goal.loop-program-init
loop-program-init c =
    let source = source_of c.args.logic.now in
    let is = c.len.ensures in
    let ok = c.args.logic.now.globals.ok in
    let rows = c.row_cells.ensures ∙ ap row_cells c.deref-2.ensures.value in
    let first = values_begin source in
    let begins : c.len.result + c.row_cells.result ≡ program_values_base source 0 = omega (arith, is, ok.0, rows, first) in
    record {
      at_is = begins;
      so_far = bases_none (program_values_base source) c.push.new.self.items (c.len.result + c.row_cells.result) (c.in_ok-push.ensures.items ∙ ap (λ l. l ++ (c.len.result + c.row_cells.result) ∷ []) c.new-row.ensures.items) begins;
    }

pub loop-program-preserved : goal.loop-program-preserved
loop-program-preserved c =
    let logic = c.args.logic.now in
    let source = source_of logic in
    let k = c.loop-program.program-index in
    let routine = c.program-item.result in
    let p = view_routine routine in
    let row = c.in_ok-counts.counts.items in
    let items = c.deref-program-items.ensures.value in
    let within : k < length logic.programs.items = let e = ap length items in let less = c.loop-program-test.true in omega (arith, e, less) in
    let at = routine_at logic.programs.items k routine within (c.program-item.is ∙ ap (λ l. get_or l k routine) items) in
    let counted = subst (λ bs. AreCounted (map view_routine bs) row) c.deref.ensures.value c.in_ok-counts.ensures in
    let count_is = c.value_count.ensures ∙ ap (λ l. stopped (value_count (numbers_in l) p)) c.deref-in-loop-program.ensures.value in
    let count = program_counted source.blocks row p c.value_count.result counted count_is in
    let before = c.loop-program.invariant.at_is in
    let next = values_next source k p at in
    let few = bases_few source c.requires.slots (k + 1) in
    let here = c.add-at.ensures in
    let now : c.add-at.result ≡ program_values_base source (k + 1) = omega (arith, here, count, before, next, few) in
    record {
      at_is = now;
      so_far = bases_more (program_values_base source) k c.loop-program.row.items c.push-in-loop-program.new.self.items c.add-at.result c.loop-program.invariant.so_far now c.in_ok-push-2.ensures.items;
    }

pub returns : goal.returns
returns c =
    let logic = c.args.logic.now in
    let source = source_of logic in
    let items = ap length c.deref-program-items.ensures.value in
    let past = c.loop-program-test.false in
    let end = c.loop-program.auto.program-index-end in
    let long = length-map logic.programs.items view_routine in
    let whole : c.loop-program.program-index ≡ length source.programs = omega (arith, items, past, end, long) in
    subst (λ n. AreBases (program_values_base source) n c.loop-program.row.items) whole c.loop-program.invariant.so_far
