use Rattle.std.proofs.Common.{arith}
use Rattle.std.specs.Prelude.{slice_index_or}
use Rattle.std.proofs.lemmas.Option.{slice_get-get_or}
use Rattle.vm_slices.specs.Noting.{Notes, IsInRow}
use Rattle.vm_slices.proofs.Rising.{has_at}
use Rattle.vm_slices.proofs.Places.{rows_start, rows_next, rows_done}
use Rattle.vm_slices.proofs.noting.note_rows.Goals as goal

pub loop-row-init : goal.loop-row-init
loop-row-init c = record { noted = rows_start c.args.rows.now c.args.places.now c.args.numbers.now.items; last = λ s h. let less = h.1 in absurd (omega arith) }

pub note_unless_same-requires-clause-there : goal.note_unless_same-requires-clause-there
note_unless_same-requires-clause-there c =
    let l = c.loop-row in
    let row = slice_index_or c.args.rows.now l.row-index (record { first = 0; past = 0 }) in
    let at = slice_get-get_or c.args.rows.now l.row-index (record { first = 0; past = 0 }) c.loop-row-test.true in
    let there = c.requires.there row (has_at c.args.rows.now l.row-index row at) in
    let size = l.invariant.noted.size in
    omega (arith, there, size)

pub note_unless_same-requires-clause-once : goal.note_unless_same-requires-clause-once
note_unless_same-requires-clause-once c = c.loop-row.invariant.noted.once c.requires.once

pub loop-row-preserved : goal.loop-row-preserved
loop-row-preserved c =
    let l = c.loop-row in
    let row = slice_index_or c.args.rows.now l.row-index (record { first = 0; past = 0 }) in
    let at = slice_get-get_or c.args.rows.now l.row-index (record { first = 0; past = 0 }) c.loop-row-test.true in
    let next : Notes (IsInRow row) l.places l.numbers.items c.note_unless_same.new.places c.note_unless_same.new.numbers.items = c.in_ok-note_unless_same.ensures in
    record {
      noted = rows_next c.args.rows.now l.row-index row c.args.places.now c.args.numbers.now.items l.places l.numbers.items c.note_unless_same.new.places c.note_unless_same.new.numbers.items at l.invariant.noted next;
      last = next.all;
    }

pub returns : goal.returns
returns c =
    let l = c.loop-row in
    rows_done c.args.rows.now l.row-index c.args.places.now c.args.numbers.now.items l.places l.numbers.items c.loop-row-test.false l.invariant.noted
