use Rattle.serve_lines.proofs.PlacingLaws.{IsPlaced-then}
use Rattle.serve_lines.proofs.placing.place_digits.Goals as goal

pub returns : goal.returns
returns c = IsPlaced-then c.place_slice-named.ensures (IsPlaced-then c.place_text-timed.ensures c.place_slice.ensures)
