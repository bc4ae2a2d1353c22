use Rattle.alarm_db.specs.Databases.{records_of}
use Rattle.alarm_db.proofs.Gathered.{ended, told}
use Rattle.alarm_db.proofs.gathering.rows_in.Goals as goal

pub returns-in-Ok : goal.returns-in-Ok
returns-in-Ok c =
    let all = c.in-Ok.ensures in
    told _ c.finished.result all.version (records_of c.args.text.now) all.rows (ended all.version c.args.text.now all.header all.rows all.all all.names all.even) (c.finished.ensures all.version all.rows all.told)
