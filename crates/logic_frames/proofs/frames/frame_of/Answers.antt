use Rattle.std.proofs.Common.{◌∙◌, ◌++◌, ap, length, arith}
use Rattle.logic_source.specs.Taken.{repeats}
use Rattle.logic_source.specs.Source.{row_cells, view_routine}
use Rattle.logic_source.specs.Names.{own_words, row_words, instance_words}
use Rattle.logic_source.proofs.Layouts.{later_apart}
use Rattle.logic_frames.proofs.Built.{earlier_apart}
use Rattle.logic_frames.proofs.Sizes.{own_fit}
use Rattle.logic_frames.proofs.frames.frame_of.Goals as goal

pub own_variables-requires-clause-locals : goal.own_variables-requires-clause-locals
own_variables-requires-clause-locals c =
    let r = c.args.routine.now in
    ap (λ l. repeats (own_words l)) c.deref.ensures.value ∙ earlier_apart (own_words r.locals.items) (row_words r.rows.items ++ instance_words r.instances.items) c.requires.apart

pub own_variables-requires-clause-rows : goal.own_variables-requires-clause-rows
own_variables-requires-clause-rows c =
    let r = c.args.routine.now in
    ap (λ l. repeats (row_words l)) c.deref-2.ensures.value
    ∙ earlier_apart (row_words r.rows.items) (instance_words r.instances.items) (later_apart (own_words r.locals.items) (row_words r.rows.items ++ instance_words r.instances.items) c.requires.apart)

pub own_variables-requires-clause-few : goal.own_variables-requires-clause-few
own_variables-requires-clause-few c =
    let few = own_fit c.args.table.now c.args.is_run (view_routine c.args.routine.now) c.requires.fitting in
    let locals = ap length c.deref.ensures.value in
    let rows = ap row_cells c.deref-2.ensures.value in
    omega (arith, few, locals, rows)

pub instances_of-requires : goal.instances_of-requires
instances_of-requires c =
    let r = c.args.routine.now in
    ap (λ l. repeats (instance_words l)) c.deref-3.ensures.value
    ∙ later_apart (row_words r.rows.items) (instance_words r.instances.items) (later_apart (own_words r.locals.items) (row_words r.rows.items ++ instance_words r.instances.items) c.requires.apart)
