-- Texts are refused for one fault.
use Rattle.std.proofs.Common.{◌≡◌, ◌≢◌, ◌∙◌, ap, sym, subst, refl, ◌⊎◌, ℕ, Some, None, inl, inr}
use Rattle.std.proofs.lemmas.Option.{same_Some}
use Rattle.vm_logic.specs.Faults.{IsTypeFault}
use Rattle.vm_logic.proofs.OneFault as typing
use Rattle.vm_logic.proofs.Settled.{settled}
use Rattle.plant_file.specs.Read.{document_in, plant_file_in}
use Rattle.st_sources.specs.Sources.{SameFault}
use Rattle.st_sources.specs.declared.fault.SourceFault.{SourceFault}
use Rattle.st_sources.specs.declared.fault.SourceFault.TheVariants as source_fault
use Rattle.st_sources.proofs.Answers.{same_fault}
use Rattle.vm_logic.specs.Units.{source_in}
use Rattle.vm_logic.specs.Limits.{IsLimitFault}
use Rattle.alarm_db.specs.Databases.{rows_of}
use Rattle.alarm_db.specs.declared.column.Column.{Column}
use Rattle.plant_config.specs.declared.fault.ConfigFault.{ConfigFault}
use Rattle.plant_config.specs.declared.fault.ConfigFault.TheVariants as fault
use Rattle.plant_config.specs.declared.fault.Limit.{Limit}
use Rattle.plant_config.specs.Alarms.{first_unknown}
use Rattle.plant_config.specs.Files.{Texts}
use Rattle.plant_config.specs.Limits.{first_limit}
use Rattle.plant_config.specs.Refusals.{IsWrongFile, HasOtherSources, IsRefused, unplaced}
use Rattle.plant_config.proofs.Stops.{not_both, database_refusal, size_refusal, source_refusal, type_refusal, AtFile, AtEpoch, AtLimits, AtSources, AtTypes, AtSize, AtDatabase, AtAlarms, FromDatabase, FromSize, FromTypes, FromSources, FromLimits, FromEpoch, FromFile, staged, one_file, one_list, database_right, size_right, types_right, units_right, limits_right, epoch_right, file_right, no_at_file, no_at_epoch, no_at_limits, no_at_sources, no_at_types, no_at_size, no_at_database}
use Rattle.plant_config.proofs.Sizes.{one_limit}

-- two refusals are one, apart from the place of a C5
abbrev Same : ConfigFault → ConfigFault → Type 0
Same f g = unplaced f ≡ unplaced g

equal : (f g h : ConfigFault) → f ≡ h → g ≡ h → Same f g
equal f g h a b = ap unplaced (a ∙ sym b)

module _ (t : Texts) where
  same_source : (a b : SourceFault) → a ≢ source_fault.Memory → b ≢ source_fault.Memory → SameFault a b → Same (source_refusal t a) (source_refusal t b)
  same_source source_fault.Memory b some other same = absurd (some refl)
  same_source (source_fault.Spelling m l c) source_fault.Memory some other same = absurd (other refl)
  same_source (source_fault.Spelling m l c) (source_fault.Spelling n k d) some other same = rw (same.0, same.1, same.2) refl
  same_source (source_fault.Spelling m l c) (source_fault.Grammar n k d) some other same = absurd same
  same_source (source_fault.Grammar m l c) source_fault.Memory some other same = absurd (other refl)
  same_source (source_fault.Grammar m l c) (source_fault.Spelling n k d) some other same = absurd same
  same_source (source_fault.Grammar m l c) (source_fault.Grammar n k d) some other same = rw same refl

  no_document : document_in t.plant ≡ None → IsWrongFile t.plant ⊎ HasOtherSources t → ⊥
  no_document none (inl wrong) = not_both (document_in t.plant) wrong.0 wrong.1 none
  no_document none (inr other) = let e : plant_file_in t.plant ≡ None = rw none refl in not_both (plant_file_in t.plant) other.0 other.1 e

  same_file : (f g : ConfigFault) → AtFile t f → AtFile t g → Same f g
  same_file f g (inl a) (inl b) = equal f g (fault.NotToml tt) a.0 b.0
  same_file f g (inl a) (inr b) = absurd (no_document a.1 b.1)
  same_file f g (inr a) (inl b) = absurd (no_document b.1 a.1)
  same_file f g (inr a) (inr b) = equal f g (fault.PlantFile tt) a.0 b.0

  same_limit : (f g : ConfigFault) → AtLimits t f → AtLimits t g → Same f g
  same_limit f g a b =
      let file = one_file t a.2.file b.2.file a.2.has_epoch.has_file b.2.has_epoch.has_file in
      let found = same_Some a.0 b.0 (sym a.2.first ∙ ap (first_limit t) file ∙ b.2.first) in
      equal f g (fault.Limit b.0) (a.1 ∙ ap (λ (l : Limit). fault.Limit l) found) b.1

  same_spelling : (f g : ConfigFault) → AtSources t f → AtSources t g → Same f g
  same_spelling f g a b = ap unplaced a.refusal ∙ same_source a.found b.found a.other b.other (same_fault t.sources a.found b.found a.is_fault b.is_fault) ∙ sym (ap unplaced b.refusal)

  same_type : (f g : ConfigFault) → AtTypes t f → AtTypes t g → Same f g
  same_type f g a b =
      let units = one_list t a.file b.file a.epoch b.epoch a.units b.units a.has_units b.has_units in
      let found = typing.one_fault b.units a.found b.found (subst (λ us. IsTypeFault us a.found) units a.is_fault) b.is_fault a.other b.other in
      equal f g (type_refusal t b.units b.found) (a.refusal ∙ rw (units, found) refl) b.refusal

  same_size : (f g : ConfigFault) → AtSize t f → AtSize t g → Same f g
  same_size f g a b =
      let units = one_list t a.3.file b.3.file a.3.epoch b.3.epoch a.3.units b.3.units a.3.well_formed.has_units b.3.well_formed.has_units in
      let found = one_limit (source_in b.3.units) a.0 b.0 a.1 b.1 (subst (λ us. IsLimitFault (source_in us) a.0) units a.3.past) b.3.past in
      equal f g (size_refusal b.0) (a.2 ∙ ap size_refusal found) b.2

  same_database : (f g : ConfigFault) → AtDatabase t f → AtDatabase t g → Same f g
  same_database f g a b = equal f g (database_refusal b.0) (a.1 ∙ ap database_refusal (same_Some a.0 b.0 (sym a.2.first ∙ b.2.first))) b.1

  same_unknown : (f g : ConfigFault) → AtAlarms t f → AtAlarms t g → Same f g
  same_unknown f g a b =
      let a_units = a.3.has_database.sized.well_formed.has_units in
      let b_units = b.3.has_database.sized.well_formed.has_units in
      let file = one_file t a.3.file b.3.file a_units.limited.has_epoch.has_file b_units.limited.has_epoch.has_file in
      let units = one_list t a.3.file b.3.file a.3.epoch b.3.epoch a.3.units b.3.units a_units b_units in
      let first : first_unknown b.3.file.areas (source_in b.3.units).globals 1 (rows_of t.alarms) ≡ Some (a.0, a.1) = rw (← file, ← units) a.3.first in
      let found = same_Some (a.0, a.1) (b.0, b.1) (sym first ∙ b.3.first) in
      equal f g (fault.Unknown b.0 b.1 tt) (a.2 ∙ ap (λ (p : ℕ × Column). fault.Unknown p.0 p.1 tt) found) b.2

  from_database : (f g : ConfigFault) → FromDatabase t f → FromDatabase t g → Same f g
  from_database = settled Same (AtDatabase t) (AtAlarms t) same_database (λ f g a b. let p = database_right t g b in no_at_database t p.0 p.1 p.2 p.3 f a) same_unknown

  from_size : (f g : ConfigFault) → FromSize t f → FromSize t g → Same f g
  from_size = settled Same (AtSize t) (FromDatabase t) same_size (λ f g a b. let p = size_right t g b in no_at_size t p.0 p.1 p.2 p.3 f a) from_database

  from_types : (f g : ConfigFault) → FromTypes t f → FromTypes t g → Same f g
  from_types = settled Same (AtTypes t) (FromSize t) same_type (λ f g a b. let p = types_right t g b in no_at_types t p.0 p.1 p.2 p.3 f a) from_size

  from_sources : (f g : ConfigFault) → FromSources t f → FromSources t g → Same f g
  from_sources = settled Same (AtSources t) (FromTypes t) same_spelling (λ f g a b. let p = units_right t g b in no_at_sources t p.0 p.1 p.2 p.3 f a) from_types

  from_limits : (f g : ConfigFault) → FromLimits t f → FromLimits t g → Same f g
  from_limits = settled Same (AtLimits t) (FromSources t) same_limit (λ f g a b. let p = limits_right t g b in no_at_limits t p.0 p.1 p.2 f a) from_sources

  from_epoch : (f g : ConfigFault) → FromEpoch t f → FromEpoch t g → Same f g
  from_epoch = settled Same (AtEpoch t) (FromLimits t) (λ f g a b. equal f g fault.Epoch a.0 b.0) (λ f g a b. let p = epoch_right t g b in no_at_epoch t p.0 p.1 p.2 f a) from_limits

  from_file : (f g : ConfigFault) → FromFile t f → FromFile t g → Same f g
  from_file = settled Same (AtFile t) (FromEpoch t) same_file (λ f g a b. let p = file_right t g b in no_at_file t p.0 p.1 f a) from_epoch

  stop : (f : ConfigFault) → IsRefused t f → f ≢ fault.Memory → FromFile t f
  stop f is other =
      elim (staged t f is) [
        | inl memory ↦ absurd (other memory)
        | inr stopped ↦ stopped
      ]

  pub one_refusal : (f g : ConfigFault) → IsRefused t f → IsRefused t g → f ≢ fault.Memory → g ≢ fault.Memory → unplaced f ≡ unplaced g
  one_refusal f g a b some other = from_file f g (stop f a some) (stop g b other)
