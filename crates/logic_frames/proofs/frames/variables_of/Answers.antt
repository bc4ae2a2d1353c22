use Rattle.std.proofs.Common.{◌∙◌, ap, subst, map, length, arith}
use Rattle.plant_types.specs.Words.{folded}
use Rattle.logic_source.specs.Taken.{repeats}
use Rattle.logic_source.specs.Source.{PlainRoutine, row_cells, view_routine, source_of}
use Rattle.logic_source.specs.Names.{row_words}
use Rattle.logic_frames.specs.Scoped.{AreVariables, AreArrays, AreMembers, global_variables}
use Rattle.logic_frames.proofs.Built.{earlier_apart}
use Rattle.logic_frames.proofs.frames.variables_of.Goals as goal

pub global_variables-requires-clause-rows : goal.global_variables-requires-clause-rows
global_variables-requires-clause-rows c =
    let source = source_of c.args.logic.now in
    ap (λ l. repeats (row_words l)) c.deref-2.ensures.value ∙ earlier_apart (row_words source.rows) (map (λ (p : PlainRoutine). folded p.name) source.programs) c.requires.named.rows_apart

pub global_variables-requires-clause-few : goal.global_variables-requires-clause-few
global_variables-requires-clause-few c =
    let few = c.requires.few in
    let globals = ap length c.deref.ensures.value in
    let rows = ap row_cells c.deref-2.ensures.value in
    omega (arith, few, globals, rows)

pub returns : goal.returns
returns c = record {
  globals_are = subst (λ gs. AreVariables (global_variables gs) c.in_ok-globals.globals) c.deref.ensures.value c.in_ok-globals.ensures.variables;
  arrays_are = subst (λ rows. AreArrays (length c.args.logic.now.globals.items) rows c.in_ok-globals.globals.arrays) c.deref-2.ensures.value
      (subst (λ gs. AreArrays (length gs) c.deref-2.result.now c.in_ok-globals.globals.arrays) c.deref.ensures.value c.in_ok-globals.ensures.arrays);
  members_are = subst (λ bs. AreMembers (map view_routine bs) c.in_ok-members_of.field-0.items) c.as_slice.ensures.value c.in_ok-members_of.ensures;
}
