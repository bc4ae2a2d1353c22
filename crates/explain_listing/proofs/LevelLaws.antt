-- Each program has a level.
use Rattle.std.proofs.Common.{◌≡◌, ◌<◌, ℕ, List, length, ap, arith}
use Rattle.std.proofs.lemmas.List.{length-map}
use Rattle.logic_source.specs.Source.{PlainRoutine}
use Rattle.plant_config.specs.Names.{programs_of}
use Rattle.plant_config.specs.Plants.{PlainPlant}
use Rattle.level_scans.specs.Levels.{PlainLevelled, AreLevelsOf}

-- each program has a level
pub level_is_there : (plant : PlainPlant) (l : PlainLevelled) → AreLevelsOf plant.source l → (levels : List ℕ) → levels ≡ l.levels → (p : ℕ) → p < length (programs_of plant) → p < length levels
level_is_there plant l is levels same p there =
    let planned = is.plan.plan.one_each in
    let told = is.plan.are.one_each in
    let coded = is.are.one_each in
    let many = ap length same in
    let named = length-map plant.source.programs (λ (program : PlainRoutine). program.name) in
    omega (arith, planned, told, coded, many, named, there)
