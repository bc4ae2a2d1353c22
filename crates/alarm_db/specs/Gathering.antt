-- The rows of an alarm database, gathered record by record.
use Rattle.std.specs.Prelude.{◌≡◌, ◌<◌, ◌≤◌, ℕ, true, not, if◌then◌else◌, List, [], ◌∷◌, length, map, nat_lt, Option, Some, None}
use Rattle.std.specs.Borrow.{Bor}
use Rattle.std.specs.List.{list_all}
use Rattle.csv.specs.Reading.{Reached, Ready, default_config, reader_config, reader_state, reader_trim, source_of, strip_bom}
use Rattle.csv.specs.declared.parser.State.TheVariants as st
use Rattle.csv.specs.declared.reader.Reader.{Reader}
use Rattle.csv.specs.declared.reader.Trim.TheVariants as trim
use Rattle.alarm_db.specs.declared.fault.DbFault.{DbFault}
use Rattle.alarm_db.specs.declared.fault.DbFault.TheVariants as fault
use Rattle.alarm_db.specs.declared.column.Version.{Version}
use Rattle.alarm_db.specs.declared.gathering.Gathered.{Gathered}
use Rattle.alarm_db.specs.Rows.{row_of}
use Rattle.alarm_db.specs.Databases.{first_wrong, is_even, records_of, version_of}

-- a reader has read these records of a text, and goes on behind them
pub record HasRead (text : List ℕ) (records : List (List (List ℕ))) (reader : Reader (Bor (List ℕ))) : Type 0 where
  pub untrimmed : reader_trim reader ≡ trim.None
  pub ready : Ready reader
  pub configured : reader_config reader ≡ default_config
  pub left : List ℕ
  pub source : source_of (λ (s : Bor (List ℕ)). Some s.now) reader ≡ Some left
  pub reached : Reached default_config st.StartRecord (strip_bom text) records (reader_state reader) left

-- the first fault of even records after the header, but for their tags: there are too many, or a field has a wrong form
abbrev pub forms_fault : Version → List (List (List ℕ)) → Option DbFault
forms_fault v rows = if nat_lt 20000 (length rows) then Some fault.TooMany else first_wrong v 1 rows

-- the first fault of records, but for their tags
abbrev pub early_fault : List (List (List ℕ)) → Option DbFault
early_fault [] = Some fault.Header
early_fault (header ∷ rows) = elim (version_of header) [
  | None ↦ Some fault.Header
  | Some v ↦ if not (list_all (is_even v) rows) then Some fault.Header else forms_fault v rows
]

-- what was gathered of the records after the header: how many they are, up to 20,000, their first fault, and their rows where they have none
pub record HasGathered (v : Version) (rows : List (List (List ℕ))) (gathered : Gathered) : Type 0 where
  pub few : gathered.count ≤ 20000
  pub count : gathered.count < 20000 → gathered.count ≡ length rows
  pub many : 20000 ≤ gathered.count → 20000 ≤ length rows
  pub fault_is : gathered.fault ≡ forms_fault v rows
  pub rows_are : gathered.fault ≡ None → gathered.rows.items ≡ map (row_of v) rows

-- what was gathered of all records of a text: the first is the header of a version, and each other has a field for each of its columns
pub record HasGatheredAll (text : List ℕ) (gathered : Gathered) : Type 0 where
  pub header : List (List ℕ)
  pub rows : List (List (List ℕ))
  pub version : Version
  pub all : (header ∷ rows) ≡ records_of text
  pub names : version_of header ≡ Some version
  pub even : list_all (is_even version) rows ≡ true
  pub told : HasGathered version rows gathered
