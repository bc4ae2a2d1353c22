use Rattle.serve_lines.proofs.placing.place_from.Goals as goal

pub returns-clause-placed : goal.returns-clause-placed
returns-clause-placed c = rw c.from_text-size.ensures.text at c.place_part.ensures.placed
