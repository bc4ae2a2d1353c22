use Rattle.std.proofs.Common.{◌∙◌, ◌<◌, ◌+◌, ◌^◌, ap, sym, subst, refl, length}
use Rattle.std.specs.Prelude.{◌==◌, ◌||◌, not}
use Rattle.st_tree.specs.Mapping.{mapped_body}
use Rattle.st_tree.specs.Numbers.{count_body}
use Rattle.st_tree.specs.View.{view_body}
use Rattle.logic_source.specs.Source.{view_routine}
use Rattle.logic_source.specs.Names.{meant_in}
use Rattle.logic_walk.specs.declared.frame.Frame.{Frame}
use Rattle.logic_frames.specs.Numbers.{numbers}
use Rattle.logic_seats.specs.Seats.{any_starts}
use Rattle.logic_frames.proofs.Sizes.{seats_fit, starts_fit, own_fit}
use Rattle.logic_frames.proofs.Tables.{made_framed}
use Rattle.logic_frames.proofs.frames.frame_in.Goals as goal

pub seats_of-requires-clause-own : goal.seats_of-requires-clause-own
seats_of-requires-clause-own c = own_fit c.args.table.now c.args.is_run (view_routine c.args.routine.now) c.requires.fitting

pub seats_of-requires-clause-seats : goal.seats_of-requires-clause-seats
seats_of-requires-clause-seats c = seats_fit c.args.table.now c.args.is_run (view_routine c.args.routine.now) c.requires.fitting.seats

pub number_body-requires : goal.number_body-requires
number_body-requires c = subst (λ l. 1 + count_body (view_body l) < 2 ^ 32) (sym c.deref.ensures.value) (starts_fit c.args.table.now c.args.is_run (view_routine c.args.routine.now) c.requires.fitting)

pub number_body-requires-2 : goal.number_body-requires-2
number_body-requires-2 c = subst (λ b. 1 + count_body b < 2 ^ 32) (sym c.statements_of-statements.ensures) c.requires.fitting.statements

pub returns-clause-made : goal.returns-clause-made
returns-clause-made c = λ source of few.
    let r = view_routine c.args.routine.now in
    let run = c.args.is_run in
    let table = c.args.table.now in
    let body = c.statements_of-statements.ensures in
    let frame : Frame = record { seats = c.in_ok-seats.seats; starts = c.in_ok-starts.starts; body = c.in_ok-body.body; has_starts = c.has_starts-has_starts.result; clocks = c.in_ok-seats.end.clocks } in
    made_framed source table run r frame c.in_ok-seats.end c.in_ok-seats.ensures.seats c.in_ok-seats.ensures.end few
    (c.in_ok-starts.ensures source r (record { globals_are = of.globals_are; global_arrays_are = of.arrays_are; own_are = c.requires.own; own_arrays_are = c.requires.arrays; instances_are = c.requires.instances; members_are = of.members_are }) ∙ ap (λ b. mapped_body (numbers source r) (meant_in source r (view_body b))) c.deref.ensures.value)
    (c.in_ok-body.ensures source r (record { globals_are = of.globals_are; global_arrays_are = of.arrays_are; own_are = c.requires.own; own_arrays_are = c.requires.arrays; instances_are = c.requires.instances; members_are = of.members_are }) ∙ ap (λ b. mapped_body (numbers source r) (meant_in source r b)) body)
    (c.has_starts-has_starts.ensures ∙ (λ i. not (length (c.deref-2.ensures.value i) == 0) || any_starts table (c.deref-3.ensures.value i)))
    refl
