use Rattle.serve_lines.proofs.PlacingLaws.{line_placed}
use Rattle.serve_lines.proofs.placing.place_alarm.Goals as goal

pub returns-clause-placed : goal.returns-clause-placed
returns-clause-placed c =
    line_placed _ _ c.from.ensures.code c.to.ensures.code c.place-named.ensures.placed c.place_text-tagged.ensures c.place_from-left.ensures.placed c.place_to.ensures.placed
