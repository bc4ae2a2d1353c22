-- Texts are accepted as one plant, and then refused for nothing.
use Rattle.std.proofs.Common.{◌≡◌, ◌∙◌, sym, refl, ℕ, List, inl, inr, Result, Ok, Err}
use Rattle.std.specs.Prelude.{MatchResult}
use Rattle.st_parser.specs.Units.{PlainUnit}
use Rattle.plant_file.specs.PlantFiles.{PlainPlantFile}
use Rattle.plant_config.specs.declared.fault.ConfigFault.{ConfigFault}
use Rattle.plant_config.specs.declared.fault.ConfigFault.TheVariants as fault
use Rattle.plant_config.specs.Files.{Texts}
use Rattle.plant_config.specs.Plants.{PlainPlant}
use Rattle.plant_config.specs.Stages.{HasUnits, HasAlarms, Accepted}
use Rattle.plant_config.specs.Refusals.{IsRefused}
use Rattle.plant_config.proofs.Stops.{FromFile, staged, one_file, same_epoch, one_list, no_at_file, no_at_epoch, no_at_limits, no_at_sources, no_at_types, no_at_size, no_at_database, no_at_alarms}

module _ (t : Texts) where
  units_in : (file : PlainPlantFile) (epoch : ℕ) (units : List PlainUnit) → HasAlarms t file epoch units → HasUnits t file epoch units
  units_in file epoch units has = has.has_database.sized.well_formed.has_units

  pub one_plant : (a b : PlainPlant) → Accepted t a → Accepted t b → a ≡ b
  one_plant a b x y =
      let x_units = units_in x.file x.epoch x.units x.has_alarms in
      let y_units = units_in y.file y.epoch y.units y.has_alarms in
      let file = one_file t x.file y.file x_units.limited.has_epoch.has_file y_units.limited.has_epoch.has_file in
      let epoch = same_epoch t x.file y.file x.epoch y.epoch x_units.limited.has_epoch y_units.limited.has_epoch in
      let units = one_list t x.file y.file x.epoch y.epoch x.units y.units x_units y_units in
      x.plant_is ∙ (rw (file, epoch, units) refl ∙ sym y.plant_is)

  module _ (plant : PlainPlant) (a : Accepted t plant) where
    own_units : HasUnits t a.file a.epoch a.units
    own_units = units_in a.file a.epoch a.units a.has_alarms

    no_stop : (f : ConfigFault) → FromFile t f → ⊥
    no_stop f (inl is) = no_at_file t a.file own_units.limited.has_epoch.has_file f is
    no_stop f (inr (inl is)) = no_at_epoch t a.file a.epoch own_units.limited.has_epoch f is
    no_stop f (inr (inr (inl is))) = no_at_limits t a.file a.epoch own_units.limited f is
    no_stop f (inr (inr (inr (inl is)))) = no_at_sources t a.file a.epoch a.units own_units f is
    no_stop f (inr (inr (inr (inr (inl is))))) = no_at_types t a.file a.epoch a.units a.has_alarms.has_database.sized.well_formed f is
    no_stop f (inr (inr (inr (inr (inr (inl is)))))) = no_at_size t a.file a.epoch a.units a.has_alarms.has_database.sized f is
    no_stop f (inr (inr (inr (inr (inr (inr (inl is))))))) = no_at_database t a.file a.epoch a.units a.has_alarms.has_database f is
    no_stop f (inr (inr (inr (inr (inr (inr (inr is))))))) = no_at_alarms t a.file a.epoch a.units a.has_alarms f is

    pub apart : (f : ConfigFault) → IsRefused t f → f ≡ fault.Memory
    apart f is =
        elim (staged t f is) [
          | inl memory ↦ memory
          | inr stopped ↦ absurd (no_stop f stopped)
        ]

  -- where texts are accepted, an answer is their plant, or memory was refused
  pub only_plant : (r : Result PlainPlant ConfigFault) → MatchResult r (Accepted t) (IsRefused t) → (expected : PlainPlant) → Accepted t expected → MatchResult r (λ plant. plant ≡ expected) (λ refused. refused ≡ fault.Memory)
  only_plant (Ok plant) answer expected is = one_plant plant expected answer is
  only_plant (Err f) answer expected is = apart expected is f answer
