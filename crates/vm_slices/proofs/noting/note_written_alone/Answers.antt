use Rattle.std.proofs.Common.{◌<◌, List, ℕ, length, sym, subst, arith, ap, ◌∙◌}
use Rattle.std.specs.List.{AllByRecursion}
use Rattle.std.specs.Prelude.{Some, Contains}
use Rattle.std.proofs.lemmas.Option.{slice_get-get_or}
use Rattle.acc_vm.specs.Operands.{operands}
use Rattle.vm_slices.specs.Noting.{Notes}
use Rattle.vm_slices.proofs.Sound.{written_alone_past}
use Rattle.vm_slices.proofs.Places.{notes_start, notes_next, notes_done}
use Rattle.vm_slices.proofs.noting.note_written_alone.Goals as goal

pub loop-i-init : goal.loop-i-init
loop-i-init c = notes_start (λ i. (operands i).writes) c.args.instrs.now c.args.places.now c.args.numbers.now.items

pub note_some-requires : goal.note_some-requires
note_some-requires c =
    let i = c.i-item.result in
    let size = c.loop-i.auto.places in
    let few = c.requires.few in
    let past = c.requires.there c.loop-i.i-index i (slice_get-get_or c.args.instrs.now c.loop-i.i-index i c.loop-i-test.true ∙ ap (λ x. Some x) (sym c.i-item.is)) in
    record {
      there = subst (AllByRecursion (λ s. s < length c.loop-i.places)) (sym c.written_by.ensures) (written_alone_past i (length c.loop-i.places) (omega arith));
      few = omega arith;
      once = c.loop-i.invariant.once c.requires.once;
    }

pub loop-i-preserved : goal.loop-i-preserved
loop-i-preserved c =
    let i = c.i-item.result in
    let next : Notes (Contains (operands i).writes) c.loop-i.places c.loop-i.numbers.items c.note_some.new.places c.note_some.new.numbers.items
    = subst (λ (xs : List ℕ). Notes (Contains xs) c.loop-i.places c.loop-i.numbers.items c.note_some.new.places c.note_some.new.numbers.items) c.written_by.ensures c.in_ok-note_some.ensures in
    notes_next (λ i. (operands i).writes) c.args.instrs.now c.loop-i.i-index i c.args.places.now c.args.numbers.now.items c.loop-i.places c.loop-i.numbers.items c.note_some.new.places c.note_some.new.numbers.items
    (slice_get-get_or c.args.instrs.now c.loop-i.i-index i c.loop-i-test.true ∙ ap (λ x. Some x) (sym c.i-item.is)) c.loop-i.invariant next

pub returns : goal.returns
returns c = notes_done (λ i. (operands i).writes) c.args.instrs.now c.loop-i.i-index c.args.places.now c.args.numbers.now.items c.loop-i.places c.loop-i.numbers.items c.loop-i.auto.i-index-end c.loop-i-test.false c.loop-i.invariant
