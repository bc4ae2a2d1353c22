use Rattle.std.proofs.Common.{◌∙◌, ap}
use Rattle.alarm_db.specs.Databases.{records_of, tags_of}
use Rattle.alarm_db.proofs.Whole.{are_database, early_carried, few_rows, no_fault, twice_carried}
use Rattle.alarm_db.proofs.database.read.Goals as goal

pub tags_of-requires : goal.tags_of-requires
tags_of-requires c = rw (c.as_slice.ensures.value, c.in-Ok.ensures.1) (few_rows (records_of c.args.text.now) c.in-Ok.ensures.0)

pub returns-in-Err-clause-refused : goal.returns-in-Err-clause-refused
returns-in-Err-clause-refused c = early_carried (records_of c.args.text.now) c.in-Err.fault c.in-Err.ensures

pub returns-in-Err-tags_of-clause-refused : goal.returns-in-Err-tags_of-clause-refused
returns-in-Err-tags_of-clause-refused c =
    twice_carried (records_of c.args.text.now) c.in-Err-tags_of.fault c.in-Ok.ensures.0 (rw (c.as_slice.ensures.value, c.in-Ok.ensures.1) at c.in-Err-tags_of.ensures)

pub returns-in-Ok-tags_of-clause-rows : goal.returns-in-Ok-tags_of-clause-rows
returns-in-Ok-tags_of-clause-rows c =
    let once = rw (c.as_slice.ensures.value, c.in-Ok.ensures.1) at c.in-Ok-tags_of.ensures.0 in
    (no_fault (records_of c.args.text.now) c.in-Ok.ensures.0 once, c.in-Ok.ensures.1)

pub invariant_of-result : goal.invariant_of-result
invariant_of-result c =
    let once = rw (c.as_slice.ensures.value, c.in-Ok.ensures.1) at c.in-Ok-tags_of.ensures.0 in
    (rw c.in-Ok.ensures.1 (are_database (records_of c.args.text.now) c.in-Ok.ensures.0 once), c.in-Ok-tags_of.ensures.1 ∙ ap tags_of c.as_slice.ensures.value)
