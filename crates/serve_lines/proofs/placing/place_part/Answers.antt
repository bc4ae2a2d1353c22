use Rattle.std.proofs.Common.{arith, length-take-le, take-take}
use Rattle.serve_lines.proofs.PlacingLaws.{IsPlaced-less}
use Rattle.serve_lines.proofs.placing.place_part.Goals as goal

pub returns-clause-placed : goal.returns-clause-placed
returns-clause-placed g c =
    let bytes = c.args.bytes.now in
    let long = length-take-le g.row.N bytes c.requires.bytes in
    rw (take-take c.args.size g.row.N bytes c.requires.size) at (IsPlaced-less c.args.size (omega (arith, c.requires.room)) (omega (arith, long, c.requires.size)) c.place_front.ensures)
