-- A code of plants, by which they may stand in the values of types with a model.
use Rattle.std.specs.Prelude.{ℕ, List, refl}
use Rattle.std.specs.Coded.{Coded, code_by, coded×, coded_list, coded_ℕ}
use Rattle.plant_file.specs.contracts.console.ListedConsole as console
use Rattle.plant_file.specs.declared.console.ListedConsole.{ListedConsole}
use Rattle.vm_logic.specs.Source.{Source}
use Rattle.vm_logic.specs.Code.{source_code}
use Rattle.plant_config.specs.contracts.rows.AlarmRow as row
use Rattle.plant_config.specs.declared.rows.AlarmRow.{AlarmRow}
use Rattle.plant_config.specs.Plants.{PlainPlant}

-- a plant is kept as its five parts
abbrev pub plant_code : Coded PlainPlant
plant_code =
    code_by (Source × (List (List ℕ) × (List ListedConsole × (List AlarmRow × ℕ))))
    (coded× source_code (coded× (coded_list (coded_list coded_ℕ)) (coded× (coded_list console.the_row.coded) (coded× (coded_list row.the_row.coded) coded_ℕ))))
    (λ plant. (plant.source, (plant.areas, (plant.consoles, (plant.alarms, plant.epoch)))))
    (λ parts. record { source = parts.0; areas = parts.1.0; consoles = parts.1.1.0; alarms = parts.1.1.1.0; epoch = parts.1.1.1.1 })
    (λ _. refl)
