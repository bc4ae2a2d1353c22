use Rattle.serve_lines.proofs.PlacingLaws.{IsPlaced-then}
use Rattle.serve_lines.proofs.placing.place_change.Goals as goal

pub returns : goal.returns
returns c = IsPlaced-then c.place_slice-named.ensures (IsPlaced-then c.place_text-timed.ensures (IsPlaced-then c.place_slice-apart.ensures
    (IsPlaced-then c.place_text-tagged.ensures (IsPlaced-then c.place_from-left.ensures.placed c.place_to.ensures.placed))))
