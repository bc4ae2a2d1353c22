use Rattle.serve_lines.proofs.PlacingLaws.{output_placed}
use Rattle.serve_lines.proofs.outputs.place_line.Goals as goal

pub returns-clause-placed : goal.returns-clause-placed
returns-clause-placed c = output_placed _ _ _ c.place-timed.ensures.placed c.place_text-named.ensures c.place_value.ensures.placed
