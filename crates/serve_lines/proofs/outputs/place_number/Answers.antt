use Rattle.serve_lines.proofs.PlacingLaws.{IsPlaced-then}
use Rattle.serve_lines.proofs.outputs.place_number.Goals as goal

pub returns-clause-placed : goal.returns-clause-placed
returns-clause-placed c = IsPlaced-then c.place_slice-apart.ensures (IsPlaced-then c.place_text-last.ensures c.place_slice.ensures)
