use Rattle.std.proofs.Common.{◌+◌, ℤ, List, length, ap, sym, ◌∙◌, subst, arith}
use Rattle.std.specs.Prelude.{slice_get}
use Rattle.std.proofs.lemmas.Option.{slice_get_within}
use Rattle.vm_slices.specs.declared.pieces.Piece.{Piece}
use Rattle.vm_slices.specs.Parts.{PlainPart}
use Rattle.vm_slices.specs.Puts.{PutsAt}
use Rattle.vm_slices.specs.Pieces.{HaveOnePlace, PutsPieces}
use Rattle.vm_slices.proofs.Spelled.{at_place}
use Rattle.vm_slices.proofs.Putting.{puts_at, one_place}
use Rattle.vm_slices.proofs.part.Part.put_written.Goals as goal

pub put_pieces-requires-clause-there : goal.put_pieces-requires-clause-there
put_pieces-requires-clause-there c = λ i q at.
    let inside = c.self.inside in let is = c.self.invariant.0 in
    let here = ap (λ (xs : List Piece). slice_get xs i) (sym c.deref.ensures.value) ∙ at in
    let stands = at_place inside.written.items inside.slots.items inside.written_pieces.items c.self.invariant.1.put_are is.inside i q.more q here (omega arith) in
    let within = slice_get_within inside.slots.items (q.place + q.more) (q.first + q.more) stands in
    let many = c.requires.many in
    omega (arith, within, ap (λ (p : PlainPart). length p.slots) c.self.view_is, ap length c.as_slice.ensures, many)

pub put_pieces-requires-clause-room : goal.put_pieces-requires-clause-room
put_pieces-requires-clause-room c = λ i q at.
    let inside = c.self.inside in let is = c.self.invariant.0 in
    let here = ap (λ (xs : List Piece). slice_get xs i) (sym c.deref.ensures.value) ∙ at in
    let stands = at_place inside.written.items inside.slots.items inside.written_pieces.items c.self.invariant.1.put_are is.inside i q.more q here (omega arith) in
    c.requires.slots (q.place + q.more) (q.first + q.more) (ap (λ (p : PlainPart). slice_get p.slots (q.place + q.more)) (sym c.self.view_is) ∙ stands)

pub put_pieces-requires-clause-apart : goal.put_pieces-requires-clause-apart
put_pieces-requires-clause-apart c =
    let inside = c.self.inside in let is = c.self.invariant.0 in
    subst HaveOnePlace (sym c.deref.ensures.value) (one_place inside.slots.items inside.written.items inside.written_pieces.items c.self.invariant.1.put_are is.inside is.apart)

pub returns : goal.returns
returns c =
    let inside = c.self.inside in let is = c.self.invariant.0 in
    let old = c.args.values.now in let new = c.put_pieces.new.row in
    let left = c.args.left.now.values in
    let by : PutsPieces inside.written_pieces.items c.as_slice.result.now old new = subst (λ (ps : List Piece). PutsPieces ps c.as_slice.result.now old new) c.deref.ensures.value c.put_pieces.ensures in
    let puts : PutsPieces inside.written_pieces.items left old new = subst (λ (xs : List ℤ). PutsPieces inside.written_pieces.items xs old new) c.as_slice.ensures by in
    subst (λ (p : PlainPart). PutsAt p.written p.slots left old new) c.self.view_is (puts_at inside.written_pieces.items left old inside.slots.items inside.written.items new c.self.invariant.1.put_are is.inside puts)
