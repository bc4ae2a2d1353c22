use Rattle.alarm_db.proofs.Taken.{TagsTaken}
use Rattle.alarm_db.proofs.database.tags_of.Given as goal

abbrev pub invariant-loop-row : goal.invariant-loop-row
invariant-loop-row l = TagsTaken l.rows l.row-index l.tags
