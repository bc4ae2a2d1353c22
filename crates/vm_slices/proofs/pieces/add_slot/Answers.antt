use Rattle.std.proofs.Common.{◌≡◌, ◌+◌, ◌-◌, Some, length, refl, arith}
use Rattle.std.specs.Prelude.{slice_get}
use Rattle.std.proofs.lemmas.Option.{slice_get_read}
use Rattle.vm_slices.proofs.Spelled.{longer}
use Rattle.vm_slices.proofs.pieces.add_slot.Goals as goal

pub returns-then-continues : goal.returns-then-continues
returns-then-continues c =
    let items = c.args.pieces.now.items in
    let last = c.index-last.result.now in
    let many = c.len-many.ensures in let some = c.if-many-gt0.true in let ok = c.args.pieces.now.ok.0 in
    let long : c.len-many.result - 1 + 1 ≡ length items = omega (arith, many, some, ok) in
    let at : slice_get items (c.len-many.result - 1) ≡ Some last = slice_get_read items (length items) (c.len-many.result - 1) last refl (omega (arith, long)) c.index-last.ensures in
    let next = c.continues.ensures c.if-continues.true in
    longer items (c.len-many.result - 1) last c.args.place c.args.slot long at next.0 next.1
