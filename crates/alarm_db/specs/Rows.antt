-- A row of an alarm database.
use Rattle.std.specs.Prelude.{◌≡◌, ◌≤◌, ℕ, true, not, if◌then◌else◌, List, Option, Some, None, IfSome}
use Rattle.std.specs.List.{find}
use Rattle.std.specs.Str.Parse.{digits_value}
use Rattle.plant_types.specs.Words.{is_name, is_tag}
use Rattle.alarm_db.specs.declared.column.Column.{Column}
use Rattle.alarm_db.specs.declared.column.Column.TheVariants as column
use Rattle.alarm_db.specs.declared.row.DatabaseRow.{DatabaseRow}
use Rattle.alarm_db.specs.declared.column.Version.{Version}
use Rattle.alarm_db.specs.Columns.{columns, field_of}
use Rattle.alarm_db.specs.Forms.{has_form, is_text, is_empty, latches}

-- the first column of a version whose field in a record doesn't have its form
unfoldable pub wrong_column : Version → List (List ℕ) → Option Column
wrong_column v fields = find (λ c. not (has_form c (field_of v fields c))) (columns v)

-- the word in a field; none in an empty one
abbrev pub word_of : List ℕ → Option (List ℕ)
word_of field = if is_empty field then None else Some field

-- the row of a record whose fields have their forms; a delay of no digits, where the version has none, is 0
abbrev pub row_of : Version → List (List ℕ) → DatabaseRow
row_of v fields = record {
  tag = field_of v fields column.Tag;
  area = field_of v fields column.Area;
  priority = digits_value 10 (field_of v fields column.Priority);
  condition = field_of v fields column.Condition;
  suppress = word_of (field_of v fields column.Suppress);
  latching = latches (field_of v fields column.Latch);
  max_shelve_ms = digits_value 10 (field_of v fields column.MaxShelveMs);
  on_delay_ms = digits_value 10 (field_of v fields column.OnDelayMs);
  text = field_of v fields column.Text;
}

-- what holds of each row
pub record IsDatabaseRow (row : DatabaseRow) : Type 0 where
  pub tag : is_tag row.tag ≡ true
  pub area : is_tag row.area ≡ true
  pub highest : 1 ≤ row.priority
  pub lowest : row.priority ≤ 4
  pub condition : is_name row.condition ≡ true
  pub suppress : IfSome row.suppress (λ word. is_name word ≡ true)
  pub shelve : row.max_shelve_ms ≤ 2592000000
  pub delay : row.on_delay_ms ≤ 86400000
  pub text : is_text row.text ≡ true
