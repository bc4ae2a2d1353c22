use Rattle.std.proofs.Common.{arith}
use Rattle.vm_slices.proofs.Places.{row_start, row_next, row_done}
use Rattle.vm_slices.proofs.noting.note_row.Goals as goal

pub loop-slot-init : goal.loop-slot-init
loop-slot-init c = record { low = omega arith; noted = row_start c.args.row c.args.places.now c.args.numbers.now.items }

pub note-requires-clause-once : goal.note-requires-clause-once
note-requires-clause-once c = c.loop-slot.invariant.noted.once c.requires.once

pub loop-slot-preserved : goal.loop-slot-preserved
loop-slot-preserved c =
    let l = c.loop-slot in
    let low = l.invariant.low in
    record {
      low = omega arith;
      noted = row_next c.args.row l.slot c.args.places.now c.args.numbers.now.items l.places l.numbers.items c.note.new.places c.note.new.numbers.items low c.loop-slot-test.true l.invariant.noted c.in_ok-note.ensures;
    }

pub returns : goal.returns
returns c =
    let l = c.loop-slot in
    row_done c.args.row l.slot c.args.places.now c.args.numbers.now.items l.places l.numbers.items c.loop-slot-test.false l.invariant.noted
