use Rattle.std.proofs.Common.{◌<◌, ◌++◌, length, sym, subst, arith, ap, ◌∙◌}
use Rattle.std.specs.List.{AllByRecursion}
use Rattle.std.specs.Prelude.{Some, Contains}
use Rattle.std.proofs.lemmas.Option.{slice_get-get_or}
use Rattle.acc_vm.specs.Operands.{operands, listed}
use Rattle.vm_slices.specs.Noting.{Notes}
use Rattle.vm_slices.proofs.Sound.{read_alone_past}
use Rattle.vm_slices.proofs.Places.{notes_start, notes_next, notes_done, notes_both, both_listed}
use Rattle.vm_slices.proofs.noting.note_read_alone.Goals as goal

pub loop-i-init : goal.loop-i-init
loop-i-init c = notes_start (λ i. (operands i).reads) c.args.instrs.now c.args.places.now c.args.numbers.now.items

pub note_some-requires-clause-there : goal.note_some-requires-clause-there
note_some-requires-clause-there c =
    let i = c.i-item.result in
    let size = c.loop-i.auto.places in
    let past = c.requires.there c.loop-i.i-index i (slice_get-get_or c.args.instrs.now c.loop-i.i-index i c.loop-i-test.true ∙ ap (λ x. Some x) (sym c.i-item.is)) in
    let all : AllByRecursion (λ s. s < length c.loop-i.places) (listed c.read_by-one.result.0 ++ listed c.read_by-one.result.1)
    = subst (AllByRecursion (λ s. s < length c.loop-i.places)) (sym c.read_by-one.ensures) (read_alone_past i (length c.loop-i.places) (omega arith)) in
    (both_listed (λ s. s < length c.loop-i.places) c.read_by-one.result.0 c.read_by-one.result.1 all).0

pub note_some-requires-clause-once : goal.note_some-requires-clause-once
note_some-requires-clause-once c = c.loop-i.invariant.once c.requires.once

pub note_some-requires-in-loop-i-clause-there : goal.note_some-requires-in-loop-i-clause-there
note_some-requires-in-loop-i-clause-there c =
    let i = c.i-item.result in
    let size = c.loop-i.auto.places in
    let noted : Notes (Contains (listed c.read_by-one.result.0)) c.loop-i.places c.loop-i.numbers.items c.note_some.new.places c.note_some.new.numbers.items = c.in_ok-note_some.ensures in
    let again = noted.size in
    let past = c.requires.there c.loop-i.i-index i (slice_get-get_or c.args.instrs.now c.loop-i.i-index i c.loop-i-test.true ∙ ap (λ x. Some x) (sym c.i-item.is)) in
    let all : AllByRecursion (λ s. s < length c.note_some.new.places) (listed c.read_by-one.result.0 ++ listed c.read_by-one.result.1)
    = subst (AllByRecursion (λ s. s < length c.note_some.new.places)) (sym c.read_by-one.ensures) (read_alone_past i (length c.note_some.new.places) (omega arith)) in
    (both_listed (λ s. s < length c.note_some.new.places) c.read_by-one.result.0 c.read_by-one.result.1 all).1

pub note_some-requires-in-loop-i-clause-once : goal.note_some-requires-in-loop-i-clause-once
note_some-requires-in-loop-i-clause-once c =
    let noted : Notes (Contains (listed c.read_by-one.result.0)) c.loop-i.places c.loop-i.numbers.items c.note_some.new.places c.note_some.new.numbers.items = c.in_ok-note_some.ensures in
    noted.once (c.loop-i.invariant.once c.requires.once)

pub loop-i-preserved : goal.loop-i-preserved
loop-i-preserved c =
    let i = c.i-item.result in
    let one : Notes (Contains (listed c.read_by-one.result.0)) c.loop-i.places c.loop-i.numbers.items c.note_some.new.places c.note_some.new.numbers.items = c.in_ok-note_some.ensures in
    let other : Notes (Contains (listed c.read_by-one.result.1)) c.note_some.new.places c.note_some.new.numbers.items c.note_some-in-loop-i.new.places c.note_some-in-loop-i.new.numbers.items = c.in_ok-note_some-2.ensures in
    let next : Notes (Contains (operands i).reads) c.loop-i.places c.loop-i.numbers.items c.note_some-in-loop-i.new.places c.note_some-in-loop-i.new.numbers.items
    = notes_both (listed c.read_by-one.result.0) (listed c.read_by-one.result.1) (operands i).reads c.loop-i.places c.loop-i.numbers.items c.note_some.new.places c.note_some.new.numbers.items c.note_some-in-loop-i.new.places
    c.note_some-in-loop-i.new.numbers.items c.read_by-one.ensures one other in
    notes_next (λ i. (operands i).reads) c.args.instrs.now c.loop-i.i-index i c.args.places.now c.args.numbers.now.items c.loop-i.places c.loop-i.numbers.items c.note_some-in-loop-i.new.places c.note_some-in-loop-i.new.numbers.items
    (slice_get-get_or c.args.instrs.now c.loop-i.i-index i c.loop-i-test.true ∙ ap (λ x. Some x) (sym c.i-item.is)) c.loop-i.invariant next

pub returns : goal.returns
returns c = notes_done (λ i. (operands i).reads) c.args.instrs.now c.loop-i.i-index c.args.places.now c.args.numbers.now.items c.loop-i.places c.loop-i.numbers.items c.loop-i.auto.i-index-end c.loop-i-test.false c.loop-i.invariant
