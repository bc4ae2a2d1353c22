use Rattle.std.proofs.Common.{List, length, subst, arith}
use Rattle.acc_vm.specs.declared.instr.Row.{Row}
use Rattle.acc_vm.specs.Operands.{operands}
use Rattle.vm_slices.specs.Slots.{SomeHas}
use Rattle.vm_slices.specs.Noting.{Notes, IsInRows}
use Rattle.std.specs.Prelude.{Contains}
use Rattle.vm_slices.proofs.Places.{with_rows, rows_within}
use Rattle.vm_slices.proofs.noting.note_written.Goals as goal

pub note_rows-requires-clause-there : goal.note_rows-requires-clause-there
note_rows-requires-clause-there c = λ r has.
    let alone : Notes (SomeHas (λ i. (operands i).writes) c.args.instrs.now) c.args.places.now c.args.numbers.now.items c.note_written_alone.new.places c.note_written_alone.new.numbers.items = c.in_ok-note_written_alone.ensures in
    let size = alone.size in
    let ends = rows_within (λ i. (operands i).writes) (λ i. (operands i).rows_written) c.args.instrs.now c.in_ok-rows.rows.items c.in_ok-rows.ensures (length c.args.places.now)
    (λ pc i at. let few = c.requires.there pc i at in omega (arith, few)) r (subst (λ (l : List Row). Contains l r) c.as_slice.ensures.value has) in
    omega (arith, size, ends)

pub note_rows-requires-clause-once : goal.note_rows-requires-clause-once
note_rows-requires-clause-once c =
    let alone : Notes (SomeHas (λ i. (operands i).writes) c.args.instrs.now) c.args.places.now c.args.numbers.now.items c.note_written_alone.new.places c.note_written_alone.new.numbers.items = c.in_ok-note_written_alone.ensures in
    alone.once c.requires.once

pub returns : goal.returns
returns c =
    let alone = c.note_written_alone.new in
    let rows = c.note_rows.new in
    let there : Notes (IsInRows c.in_ok-rows.rows.items) alone.places alone.numbers.items rows.places rows.numbers.items
    = subst (λ (l : List Row). Notes (IsInRows l) alone.places alone.numbers.items rows.places rows.numbers.items) c.as_slice.ensures.value c.in_ok-note_rows.ensures in
    with_rows (λ i. (operands i).writes) (λ i. (operands i).rows_written) c.args.instrs.now c.in_ok-rows.rows.items c.in_ok-rows.ensures
    c.args.places.now c.args.numbers.now.items alone.places alone.numbers.items rows.places rows.numbers.items c.in_ok-note_written_alone.ensures there
