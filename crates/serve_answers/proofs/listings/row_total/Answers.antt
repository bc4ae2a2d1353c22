use Rattle.std.proofs.Common.{◌∙◌}
use Rattle.serve_answers.proofs.listings.row_total.Goals as goal

pub returns : goal.returns
returns c = c.len.ensures.count ∙ c.journal.ensures.rows
