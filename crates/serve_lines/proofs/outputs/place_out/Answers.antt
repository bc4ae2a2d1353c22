use Rattle.serve_lines.proofs.PlacingLaws.{IsPlaced-then}
use Rattle.serve_lines.proofs.outputs.place_out.Goals as goal

pub returns : goal.returns
returns c = IsPlaced-then c.place_slice-kind.ensures (IsPlaced-then c.place_text-timed.ensures (IsPlaced-then c.place_slice-apart.ensures
    (IsPlaced-then c.place_text-named.ensures c.place_value.ensures.placed)))
