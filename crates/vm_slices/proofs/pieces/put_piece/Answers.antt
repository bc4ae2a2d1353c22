use Rattle.std.proofs.Common.{◌+◌, ◌-◌, ℤ, List, pos, sym, subst, arith}
use borrow.Rule.Slice.PartMut.{put_mid}
use Rattle.vm_slices.specs.Pieces.{PutsPiece}
use Rattle.vm_slices.proofs.Stretches.{stretch_put}
use Rattle.vm_slices.proofs.pieces.put_piece.Goals as goal

pub returns : goal.returns
returns c =
    let q = c.args.piece in
    let there = c.requires.there in let room = c.requires.room in
    subst (λ (ys : List ℤ). PutsPiece q c.args.items.now c.args.row.now (put_mid q.first (q.first + (q.more + 1) - q.first) c.args.row.now ys)) (sym c.copy_from_slice.ensures.after)
    (stretch_put (pos 0) q c.args.items.now c.args.row.now (q.first + (q.more + 1) - q.first) (q.place + (q.more + 1) - q.place) (omega arith) (omega arith) (omega (arith, there)) (omega (arith, room)))
