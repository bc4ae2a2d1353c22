-- The alarms of a database in a plant: the numbers of their areas and variables, or the first name that isn't there.
use Rattle.std.specs.Prelude.{◌≡◌, ⊤, ℕ, ◌+◌, Bool, true, false, if◌then◌else◌, List, [], ◌∷◌, map, Option, Some, None, is_none, unwrap_or, slice_get, position, option_map, option_and_then}
use Rattle.std.specs.Option.{option_or}
use Rattle.std.specs.Str.{bytes_eq}
use Rattle.plant_types.specs.declared.values.Kind.{Kind}
use Rattle.plant_types.specs.declared.values.Kind.TheVariants as kind
use Rattle.alarm_db.specs.declared.column.Column.{Column}
use Rattle.alarm_db.specs.declared.column.Column.TheVariants as column
use Rattle.alarm_db.specs.declared.row.DatabaseRow.{DatabaseRow}
use Rattle.vm_logic.specs.Variable.{Variable}
use Rattle.vm_logic.specs.Names.{find_global}
use Rattle.plant_config.specs.declared.alarms.AlarmFault.{AlarmFault}
use Rattle.plant_config.specs.declared.alarms.AlarmFault.TheVariants as fault
use Rattle.plant_config.specs.declared.rows.AlarmRow.{AlarmRow}

-- the number of an area
abbrev pub area_number : List (List ℕ) → List ℕ → Option ℕ
area_number areas name = position (bytes_eq name) areas

-- a variable's kind is BOOL
abbrev pub is_bool : Kind → Bool
is_bool kind.Bool = true
is_bool _ = false

-- the global of a number is BOOL
abbrev pub is_bool_at : List Variable → ℕ → Bool
is_bool_at globals number = unwrap_or (option_map (λ (global : Variable). is_bool global.kind) (slice_get globals number)) false

-- a number, where it is that of a BOOL global
abbrev pub if_bool : List Variable → ℕ → Option ℕ
if_bool globals number = if is_bool_at globals number then Some number else None

-- the number of the BOOL global of a name, letter case ignored
abbrev pub bool_number : List Variable → List ℕ → Option ℕ
bool_number globals name = option_and_then (if_bool globals) (find_global globals name)

-- a name, where there is one, is that of no BOOL global
abbrev pub is_unknown : List Variable → Option (List ℕ) → Bool
is_unknown globals None = false
is_unknown globals (Some name) = is_none (bool_number globals name)

-- the first column of a row in which a name stands for nothing: the plant has no such area, or the name is that of no BOOL global
abbrev pub unknown_column : List (List ℕ) → List Variable → DatabaseRow → Option Column
unknown_column areas globals row =
    if is_none (area_number areas row.area) then Some column.Area
    else if is_unknown globals (Some row.condition) then Some column.Condition
    else if is_unknown globals row.suppress then Some column.Suppress
    else None

-- the first row with such a column, of rows numbered from n, and the column
abbrev pub first_unknown : List (List ℕ) → List Variable → ℕ → List DatabaseRow → Option (ℕ × Column)
first_unknown areas globals n [] = None
first_unknown areas globals n (row ∷ rows) = option_or (option_map (λ c. (n, c)) (unknown_column areas globals row)) (first_unknown areas globals (n + 1) rows)

-- the alarm of a row, all of whose names are known
abbrev pub alarm_of : List (List ℕ) → List Variable → DatabaseRow → AlarmRow
alarm_of areas globals row = record {
  tag = row.tag;
  area = unwrap_or (area_number areas row.area) 0;
  priority = row.priority;
  condition = unwrap_or (bool_number globals row.condition) 0;
  suppress = option_and_then (bool_number globals) row.suppress;
  latching = row.latching;
  max_shelve_ms = row.max_shelve_ms;
  on_delay_ms = row.on_delay_ms;
  text = row.text;
}

-- the alarms of rows
abbrev pub alarms_of : List (List ℕ) → List Variable → List DatabaseRow → List AlarmRow
alarms_of areas globals rows = map (alarm_of areas globals) rows

-- why there are no alarms of rows: the first of them that names what isn't there, and in it the first column; memory may be refused at any time
abbrev pub IsAlarmFault : List (List ℕ) → List Variable → List DatabaseRow → AlarmFault → Type 0
IsAlarmFault areas globals rows fault.Memory = ⊤
IsAlarmFault areas globals rows (fault.Unknown row column) = first_unknown areas globals 1 rows ≡ Some (row, column)
