use Rattle.serve_lines.proofs.outputs.place_truth.Goals as goal

pub returns-clause-placed : goal.returns-clause-placed
returns-clause-placed c = rw c.truth_text-size.ensures.text at c.place_part.ensures.placed
