use Rattle.std.proofs.Common.{◌+◌, ℤ, List, length, ap, sym, ◌∙◌, arith}
use Rattle.std.specs.Prelude.{slice_get}
use Rattle.std.proofs.lemmas.Option.{slice_get_within}
use Rattle.vm_slices.specs.declared.pieces.Piece.{Piece}
use Rattle.vm_slices.specs.Parts.{PlainPart}
use Rattle.vm_slices.proofs.Spelled.{at_place}
use Rattle.vm_slices.proofs.part.Part.read_written.Goals as goal

pub read_pieces-requires : goal.read_pieces-requires
read_pieces-requires c = λ i q at.
    let inside = c.self.inside in let is = c.self.invariant.0 in
    let here = ap (λ (xs : List Piece). slice_get xs i) (sym c.deref.ensures.value) ∙ at in
    let stands = at_place inside.written.items inside.slots.items inside.written_pieces.items c.self.invariant.1.put_are is.inside i q.more q here (omega arith) in
    let within = slice_get_within inside.slots.items (q.place + q.more) (q.first + q.more) stands in
    let many = c.requires in
    omega (arith, within, ap (λ (p : PlainPart). length p.slots) c.self.view_is, ap length c.as_slice.ensures, many)
