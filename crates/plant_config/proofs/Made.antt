-- A plant that was made is one.
use Rattle.std.proofs.Common.{◌≡◌, refl, ℕ, ◌≤◌, Bool, true, false, List, length, Some, None, arith}
use Rattle.std.specs.Prelude.{if◌then◌else◌, nat_lt}
use Rattle.std.proofs.lemmas.Bool.Decides.{nat_tests}
use Rattle.st_parser.specs.Units.{PlainUnit}
use Rattle.vm_logic.specs.Source.{Source}
use Rattle.vm_logic.specs.Units.{source_in}
use Rattle.vm_logic.specs.Sound.{IsSound}
use Rattle.vm_logic.proofs.Small.{few_globals, few_programs}
use Rattle.alarm_db.specs.Databases.{IsDatabase, rows_of}
use Rattle.plant_file.specs.PlantFiles.{PlainPlantFile, IsPlantFile}
use Rattle.plant_config.specs.declared.fault.Limit.TheVariants as limit
use Rattle.plant_config.specs.Files.{Texts}
use Rattle.plant_config.specs.Limits.{first_limit, is_too_long}
use Rattle.plant_config.specs.Stages.{HasAlarms, plant_of}
use Rattle.plant_config.specs.declared.rows.AlarmRow.{AlarmRow}
use Rattle.plant_config.specs.Alarms.{alarms_of}
use Rattle.plant_config.specs.Plants.{IsPlant, plant_with}
use Rattle.plant_config.proofs.AlarmRows.{rows_are, same_length, different_tags}

-- where no limit is passed, the last two are kept
kept : (a b c d : Bool) → (if a then Some limit.Sources else if b then Some limit.Text else if c then Some limit.Areas else if d then Some limit.Consoles else None) ≡ None → (c ≡ false) × (d ≡ false)
kept true b c d e = absurd (cc e)
kept false true c d e = absurd (cc e)
kept false false true d e = absurd (cc e)
kept false false false true e = absurd (cc e)
kept false false false false e = (refl, refl)

at_most : (n bound : ℕ) → nat_lt bound n ≡ false → n ≤ bound
at_most n bound e = grind (arith, nat_tests, e)

pub areas_kept : (t : Texts) (file : PlainPlantFile) → first_limit t file ≡ None → length file.areas ≤ 64
areas_kept t file e = at_most (length file.areas) 64 (kept (nat_lt 64 (length t.sources)) (is_too_long t) (nat_lt 64 (length file.areas)) (nat_lt 32 (length file.consoles)) e).0

pub consoles_kept : (t : Texts) (file : PlainPlantFile) → first_limit t file ≡ None → length file.consoles ≤ 32
consoles_kept t file e = at_most (length file.consoles) 32 (kept (nat_lt 64 (length t.sources)) (is_too_long t) (nat_lt 64 (length file.areas)) (nat_lt 32 (length file.consoles)) e).1

pub made : (t : Texts) (file : PlainPlantFile) (epoch : ℕ) (units : List PlainUnit) → HasAlarms t file epoch units → IsSound (source_in units) → IsDatabase (rows_of t.alarms) → IsPlantFile file → IsPlant (plant_of t file epoch units)
made t file epoch units has sound database is =
    let limits = has.has_database.sized.well_formed.has_units.limited in
    let count = same_length file.areas (source_in units).globals (rows_of t.alarms) in
    let few = database.few in
    let globals = few_globals (source_in units) sound in
    let programs = few_programs (source_in units) sound in
    record {
      sound = sound;
      globals = omega (arith, globals);
      programs = omega (arith, programs);
      few = omega (arith, count, few);
      areas = areas_kept t file limits.limits;
      areas_once = is.areas_once;
      few_consoles = consoles_kept t file limits.limits;
      consoles = is.consoles;
      consoles_once = is.consoles_once;
      alarms = rows_are (plant_of t file epoch units) 1 (rows_of t.alarms) database.each has.known;
      tags = different_tags file.areas (source_in units).globals (rows_of t.alarms) database.distinct;
      epoch = limits.has_epoch.early;
    }

pub same_plant : (t : Texts) (file : PlainPlantFile) (epoch : ℕ) (units : List PlainUnit) (source : Source) (alarms : List AlarmRow) → source ≡ source_in units → alarms ≡ alarms_of file.areas (source_in units).globals (rows_of t.alarms) → plant_with source file alarms epoch ≡ plant_of t file epoch units
same_plant t file epoch units source alarms e f = rw (e, f) refl
