-- Statements of the greatest depth.
use Rattle.st_parser.specs.ReadingStatements.{body_at}
use Rattle.st_parser.proofs.stmt.statements.Goals as goal

pub returns : goal.returns
unfolding body_at
returns c = c.body.ensures
