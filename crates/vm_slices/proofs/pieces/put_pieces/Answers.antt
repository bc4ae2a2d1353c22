use Rattle.std.proofs.Common.{◌≡◌, length, subst, arith}
use Rattle.std.proofs.lemmas.Option.{slice_get-get_or}
use Rattle.vm_slices.proofs.Putting.{PutPieces, more_pieces_put, all_pieces_put}
use Rattle.vm_slices.proofs.pieces.put_pieces.Goals as goal

pub loop-piece-preserved : goal.loop-piece-preserved
loop-piece-preserved c =
    more_pieces_put c.args.pieces.now c.args.items.now c.args.row.now c.loop-piece.piece-index _ c.loop-piece.row c.put_piece.new.row c.requires.apart c.loop-piece.invariant
    (slice_get-get_or c.args.pieces.now c.loop-piece.piece-index _ c.loop-piece-test.true) c.put_piece.ensures

pub returns : goal.returns
returns c =
    let low = c.loop-piece.auto.piece-index-end in let high = c.loop-piece-test.false in
    let end : c.loop-piece.piece-index ≡ length c.args.pieces.now = omega arith in
    all_pieces_put c.args.pieces.now c.args.items.now c.args.row.now c.loop-piece.row (subst (λ n. PutPieces c.args.pieces.now c.args.items.now c.args.row.now n c.loop-piece.row) end c.loop-piece.invariant)
