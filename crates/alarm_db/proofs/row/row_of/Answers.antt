use Rattle.std.proofs.Common.{◌≡◌, ◌≤◌, ◌∙◌, ap, arith}
use Rattle.std.specs.Str.Parse.{digits_value}
use Rattle.csv.specs.Records.{fields_of}
use Rattle.alarm_db.specs.declared.column.Column.TheVariants as column
use Rattle.alarm_db.specs.Columns.{field_of}
use Rattle.alarm_db.proofs.RowLaws.{formed, priority_digits, priority_most, shelve_digits}
use Rattle.alarm_db.proofs.TextLaws.{name_utf8, tag_utf8, text_utf8, word_utf8}
use Rattle.alarm_db.proofs.row.row_of.Goals as goal

pub text-requires : goal.text-requires
text-requires c = rw c.field.ensures (tag_utf8 (field_of c.args.version (fields_of c.args.row.now) column.Tag) (formed _ _ c.requires).tag)

pub text-requires-2 : goal.text-requires-2
text-requires-2 c = rw c.field-2.ensures (tag_utf8 (field_of c.args.version (fields_of c.args.row.now) column.Area) (formed _ _ c.requires).area)

pub text-requires-3 : goal.text-requires-3
text-requires-3 c = rw c.field-4.ensures (name_utf8 (field_of c.args.version (fields_of c.args.row.now) column.Condition) (formed _ _ c.requires).condition)

pub word-requires : goal.word-requires
word-requires c = rw c.field-5.ensures (word_utf8 (field_of c.args.version (fields_of c.args.row.now) column.Suppress) (formed _ _ c.requires).suppress)

pub digits-requires : goal.digits-requires
digits-requires c = rw c.field-3.ensures (priority_digits (field_of c.args.version (fields_of c.args.row.now) column.Priority) (formed _ _ c.requires).priority)

pub digits-requires-2 : goal.digits-requires-2
digits-requires-2 c = rw c.field-7.ensures (shelve_digits (field_of c.args.version (fields_of c.args.row.now) column.MaxShelveMs) (formed _ _ c.requires).shelve)

pub delay-requires : goal.delay-requires
delay-requires c = rw c.field-8.ensures (formed _ _ c.requires).delay

pub text-requires-4 : goal.text-requires-4
text-requires-4 c = rw c.field-9.ensures (text_utf8 (field_of c.args.version (fields_of c.args.row.now) column.Text) (formed _ _ c.requires).text)

pub overflow_cast-result : goal.overflow_cast-result
overflow_cast-result c =
    let number : c.digits.result ≡ digits_value 10 (field_of c.args.version (fields_of c.args.row.now) column.Priority) = c.digits.ensures ∙ ap (digits_value 10) c.field-3.ensures in
    let most : digits_value 10 (field_of c.args.version (fields_of c.args.row.now) column.Priority) ≤ 4 = priority_most (field_of c.args.version (fields_of c.args.row.now) column.Priority) (formed _ _ c.requires).priority in
    omega arith
