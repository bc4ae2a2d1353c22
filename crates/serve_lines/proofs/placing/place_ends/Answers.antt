use Rattle.std.proofs.Common.{◌-◌, rules, length}
use Rattle.std.proofs.lemmas.List.{take_rest}
use Rattle.serve_lines.proofs.PlacingLaws.{IsPlaced-ends}
use Rattle.serve_lines.proofs.placing.place_ends.Goals as goal

pub returns : goal.returns
returns g c =
    let text = c.args.bytes.now in
    IsPlaced-ends text g.row.N (search rules) c.requires.covered.0 c.requires.covered.1 c.place_front.ensures
    (rw (take_rest text (length text - g.row.N)) at c.place_front-2.ensures)
