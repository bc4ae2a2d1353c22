use Rattle.csv.specs.Records.{fields_of}
use Rattle.alarm_db.proofs.Gathered.{one_read}
use Rattle.alarm_db.proofs.records.next_record.Goals as goal

pub returns-clause-read : goal.returns-clause-read
returns-clause-read c =
    λ text records has.
    one_read text records (fields_of c.read_byte_record.new.row) c.args.reader.now c.read_byte_record.new.self c.in-Ok.found has
    ((rw c.in-Ok.is at c.read_byte_record.ensures.reads) has.untrimmed has.ready) ((rw c.in-Ok.is at c.read_byte_record.ensures.ready) has.untrimmed)
