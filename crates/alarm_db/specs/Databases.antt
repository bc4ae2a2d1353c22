-- The rows of an alarm database, and why it is refused.
use Rattle.std.specs.Prelude.{◌≡◌, ◌≢◌, ◌≤◌, ◌+◌, ◌==◌, ◌&&◌, ◌++◌, ⊤, ℕ, Bool, not, if◌then◌else◌, List, [], ◌∷◌, length, map, nat_lt, Option, Some, None, All, AllPairs}
use Rattle.std.specs.List.{find, list_all, list_any}
use Rattle.std.specs.Option.{option_map, option_or}
use Rattle.std.specs.Str.{bytes_eq}
use Rattle.csv.specs.Reading.{default_config, records, strip_bom}
use Rattle.alarm_db.specs.declared.fault.DbFault.{DbFault}
use Rattle.alarm_db.specs.declared.fault.DbFault.TheVariants as fault
use Rattle.alarm_db.specs.declared.row.DatabaseRow.{DatabaseRow}
use Rattle.alarm_db.specs.declared.column.Version.{Version}
use Rattle.alarm_db.specs.Columns.{columns, column_name, field_of, versions}
use Rattle.alarm_db.specs.Rows.{wrong_column, row_of, IsDatabaseRow}

-- whether a record has a field for each column of a version, and no other
abbrev pub is_even : Version → List (List ℕ) → Bool
is_even v fields = length fields == length (columns v)

-- whether a record has the names of the columns of a version, and no other field
abbrev pub is_header : List (List ℕ) → Version → Bool
is_header fields v = is_even v fields && list_all (λ c. bytes_eq (field_of v fields c) (column_name c)) (columns v)

-- the version that a header tells; none, if it has not the columns of any
abbrev pub version_of : List (List ℕ) → Option Version
version_of header = find (is_header header) versions

-- the first record that has a field of a wrong form, of records numbered from n
abbrev pub first_wrong : Version → ℕ → List (List (List ℕ)) → Option DbFault
first_wrong v n [] = None
first_wrong v n (fields ∷ rest) = option_or (option_map (λ c. fault.Field n c) (wrong_column v fields)) (first_wrong v (n + 1) rest)

-- whether a tag is one of these
abbrev pub is_among : List (List ℕ) → List ℕ → Bool
is_among tags tag = list_any (bytes_eq tag) tags

-- the first row whose tag an earlier row has, by the tags of the rows before and the tags of the rows from there on; rows are numbered from 1
abbrev pub first_twice : List (List ℕ) → List (List ℕ) → Option DbFault
first_twice earlier [] = None
first_twice earlier (tag ∷ tags) = if is_among earlier tag then Some (fault.Twice (length earlier + 1)) else first_twice (earlier ++ tag ∷ []) tags

-- the tags of rows
abbrev pub tags_of : List DatabaseRow → List (List ℕ)
tags_of rows = map (λ (row : DatabaseRow). row.tag) rows

-- the first fault of the records after the header: one has another number of fields, or there are too many, or a field has a wrong form, or a tag stands twice
abbrev pub rows_fault : List (List (List ℕ)) → Version → Option DbFault
rows_fault rows v = if not (list_all (is_even v) rows) then Some fault.Header
    else if nat_lt 20000 (length rows) then Some fault.TooMany
    else option_or (first_wrong v 1 rows) (first_twice [] (tags_of (map (row_of v) rows)))

-- the first fault of records, the first of which is the header
abbrev pub records_fault : List (List (List ℕ)) → Option DbFault
records_fault [] = Some fault.Header
records_fault (header ∷ rows) = elim (version_of header) [ None ↦ Some fault.Header | Some v ↦ rows_fault rows v ]

-- the rows of records without a fault: a row for each but the header
abbrev pub rows_in : List (List (List ℕ)) → List DatabaseRow
rows_in [] = []
rows_in (header ∷ rows) = elim (version_of header) [ None ↦ [] | Some v ↦ map (row_of v) rows ]

-- the records of an alarm database's text
abbrev pub records_of : List ℕ → List (List (List ℕ))
records_of text = records default_config (strip_bom text)

-- the first fault of an alarm database's text
abbrev pub first_fault : List ℕ → Option DbFault
first_fault text = records_fault (records_of text)

-- the rows of an alarm database's text without a fault
abbrev pub rows_of : List ℕ → List DatabaseRow
rows_of text = rows_in (records_of text)

-- a refusal is the first fault; memory may be refused at any time
abbrev pub Refuses : Option DbFault → DbFault → Type 0
Refuses first fault.Memory = ⊤
Refuses first f = first ≡ Some f

-- what holds of each database: it has at most 20,000 rows, each as its columns ask, and no tag stands twice
pub record IsDatabase (rows : List DatabaseRow) : Type 0 where
  pub few : length rows ≤ 20000
  pub each : All IsDatabaseRow rows
  pub distinct : AllPairs (λ (a : DatabaseRow) (b : DatabaseRow). a.tag ≢ b.tag) rows
