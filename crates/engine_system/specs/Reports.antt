-- A report as contracts see it.
use Rattle.std.specs.Prelude.{ℕ, List}
use Rattle.plant_types.specs.declared.values.Value.{Value}
use Rattle.plant_types.specs.declared.values.Trap.{Trap}
use Rattle.plant_types.specs.declared.values.Place.{Place}
use Rattle.alarm_machine.specs.Codes.{PlainChange}

-- the moment of a scan, its faults, the changes of alarms and the values of outputs, alarms and globals by number
pub record PlainReport : Type 0 where
  pub moment : ℕ
  pub faults : List (Place × Trap)
  pub changes : List (ℕ × PlainChange)
  pub outs : List (ℕ × Value)
