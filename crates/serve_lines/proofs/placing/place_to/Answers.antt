use Rattle.serve_lines.proofs.placing.place_to.Goals as goal

pub returns-clause-placed : goal.returns-clause-placed
returns-clause-placed c = rw c.to_text-size.ensures.text at c.place_part.ensures.placed
