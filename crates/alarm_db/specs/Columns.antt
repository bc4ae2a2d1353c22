-- The columns of an alarm database, by the versions of its table, and the fields of a record by their columns.
use Rattle.std.specs.Prelude.{ℕ, List, [], ◌∷◌, codes, unwrap_or, Option, None, Some, position}
use Rattle.std.specs.Str.{bytes_eq}
use Rattle.csv.specs.Records.{field_at}
use Rattle.alarm_db.specs.declared.column.Column.{Column}
use Rattle.alarm_db.specs.declared.column.Column.TheVariants as column
use Rattle.alarm_db.specs.declared.column.Version.{Version}
use Rattle.alarm_db.specs.declared.column.Version.TheVariants as version

-- the columns of each version of the table, in order
abbrev pub columns : Version → List Column
columns version.First = column.Tag ∷ column.Area ∷ column.Priority ∷ column.Condition ∷ column.Suppress ∷ column.Latch ∷ column.MaxShelveMs ∷ column.Text ∷ []
columns version.Second =
    column.Tag ∷ column.Area ∷ column.Priority ∷ column.Condition ∷ column.Suppress ∷ column.Latch ∷ column.MaxShelveMs ∷ column.OnDelayMs ∷ column.Text ∷ []

-- the versions, in order
abbrev pub versions : List Version
versions = version.First ∷ version.Second ∷ []

-- a column's name, as the header has it
abbrev pub column_name : Column → List ℕ
column_name column.Tag = codes "tag"
column_name column.Area = codes "area"
column_name column.Priority = codes "priority"
column_name column.Condition = codes "condition"
column_name column.Suppress = codes "suppress"
column_name column.Latch = codes "latch"
column_name column.MaxShelveMs = codes "max_shelve_ms"
column_name column.OnDelayMs = codes "on_delay_ms"
column_name column.Text = codes "text"

-- the place of a column's field in a record, from 0; none where the version doesn't have the column
abbrev pub column_place : Version → Column → Option ℕ
column_place v c = position (λ d. bytes_eq (column_name c) (column_name d)) (columns v)

-- the field at a place; empty at none, and where a record is too short for it
abbrev pub field_in : List (List ℕ) → Option ℕ → List ℕ
field_in fields None = []
field_in fields (Some n) = unwrap_or (field_at fields n) []

-- the field of a column; empty where the version doesn't have the column
abbrev pub field_of : Version → List (List ℕ) → Column → List ℕ
field_of v fields c = field_in fields (column_place v c)
