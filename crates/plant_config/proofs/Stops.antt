-- The stage at which texts are refused, and what is right up to there.
use Rattle.std.proofs.Common.{◌≡◌, ◌≢◌, ◌∙◌, ap, sym, subst, refl, ◌⊎◌, ℕ, ◌<◌, ◌*◌, pos, List, [], Option, Some, None, inl, inr, arith, slice_index_or}
use Rattle.std.proofs.lemmas.Bool.{both_ways}
use Rattle.std.proofs.lemmas.Option.{same_Some}
use Rattle.base_stamps.specs.Stamps.{epoch_bound, epoch_text}
use Rattle.base_stamps.proofs.Texts.{epoch_instant, same_instant}
use Rattle.st_parser.specs.Units.{PlainUnit}
use Rattle.vm_logic.specs.Faults.{IsTypeFault}
use Rattle.vm_logic.specs.TypeFault.{TypeFault}
use Rattle.vm_logic.specs.TypeFault.TheVariants as type_fault
use Rattle.vm_logic.proofs.OneFault as typing
use Rattle.plant_file.specs.PlantFiles.{PlainPlantFile}
use Rattle.plant_file.specs.Read.{document_in, plant_file_in}
use Rattle.st_sources.specs.Sources.{IsSourceFault}
use Rattle.st_sources.specs.UnitNames.{unit_name}
use Rattle.st_sources.specs.declared.fault.SourceFault.{SourceFault}
use Rattle.st_sources.specs.declared.fault.SourceFault.TheVariants as source_fault
use Rattle.st_sources.proofs.Answers.{one_list_of_units, apart as source_apart}
use Rattle.vm_logic.specs.Units.{source_in}
use Rattle.vm_logic.specs.Limits.{IsLimitFault}
use Rattle.vm_logic.specs.LimitFault.{LimitFault}
use Rattle.vm_logic.specs.LimitFault.TheVariants as limit_fault
use Rattle.alarm_db.specs.Databases.{first_fault, rows_of}
use Rattle.alarm_db.specs.declared.column.Column.{Column}
use Rattle.alarm_db.specs.declared.fault.DbFault.{DbFault}
use Rattle.alarm_db.specs.declared.fault.DbFault.TheVariants as db_fault
use Rattle.plant_config.specs.declared.fault.ConfigFault.{ConfigFault}
use Rattle.plant_config.specs.declared.fault.ConfigFault.TheVariants as fault
use Rattle.plant_config.specs.declared.fault.Limit.{Limit}
use Rattle.plant_config.specs.declared.fault.Limit.TheVariants as limit
use Rattle.plant_config.specs.Alarms.{first_unknown}
use Rattle.plant_config.specs.Files.{Texts, same_texts}
use Rattle.plant_config.specs.Limits.{first_limit}
use Rattle.plant_config.specs.Stages.{HasFile, HasEpoch, IsLimited, HasUnits, IsWellFormed, IsSized, HasDatabase, HasAlarms}
use Rattle.plant_config.specs.Refusals.{IsWrongFile, HasOtherSources, HasNoEpoch, IsOverLimit, IsTooLarge, HasDatabaseFault, NamesUnknown, IsRefused}
use Rattle.plant_config.proofs.Sizes.{not_past}

-- nothing is and isn't there
pub not_both : {A : Type 0} (o : Option A) (x : A) → o ≡ Some x → o ≡ None → ⊥
not_both o x e f = let g : Some x ≡ None = sym e ∙ f in absurd (cc g)

same_pos : (m n : ℕ) → pos m ≡ pos n → m ≡ n
same_pos m n e = cc e

-- an epoch is that of one second
one_epoch : (text : List ℕ) (a b : ℕ) → a < epoch_bound → b < epoch_bound → text ≡ epoch_text a → text ≡ epoch_text b → a ≡ b
one_epoch text a b low high e f =
    let first = epoch_instant text a low e in
    let second = epoch_instant text b high f in
    let same = sym first.1 ∙ (same_instant text first.0 second.0 first.2 second.2 ∙ second.1) in
    let counted = same_pos (a * 1000000000) (b * 1000000000) same in
    omega (arith, counted)

-- the refusal for a database's fault
abbrev pub database_refusal : DbFault → ConfigFault
database_refusal db_fault.Memory = fault.Memory
database_refusal db_fault.Header = fault.Header tt
database_refusal db_fault.TooMany = fault.Limit limit.Alarms
database_refusal (db_fault.Field row column) = fault.Field row column tt
database_refusal (db_fault.Twice row) = fault.Twice row tt

-- the refusal for a limit on slots, size or cost
abbrev pub size_refusal : LimitFault → ConfigFault
size_refusal limit_fault.Memory = fault.Memory
size_refusal limit_fault.Slots = fault.Limit limit.Slots
size_refusal limit_fault.Size = fault.Limit limit.Size
size_refusal limit_fault.Cost = fault.Limit limit.Cost

module _ (t : Texts) where
  -- the name of a source by its number
  abbrev pub source_name : ℕ → List ℕ
  source_name number = slice_index_or t.names number []

  -- the refusal for a source's fault
  abbrev pub source_refusal : SourceFault → ConfigFault
  source_refusal source_fault.Memory = fault.Memory
  source_refusal (source_fault.Spelling number line column) = fault.Spelling (source_name number) line column
  source_refusal (source_fault.Grammar number line column) = fault.Grammar (source_name number) line column

  -- the refusal for a fault of units
  abbrev pub type_refusal : List PlainUnit → TypeFault → ConfigFault
  type_refusal units type_fault.Memory = fault.Memory
  type_refusal units (type_fault.Name place) = fault.Name (source_name place.source) (unit_name units place)
  type_refusal units (type_fault.Kind place) = fault.Kind (source_name place.source) (unit_name units place)
  type_refusal units (type_fault.HoldsItself place) = fault.HoldsItself (source_name place.source) (unit_name units place)
  type_refusal units (type_fault.Constant place) = fault.Constant (source_name place.source) (unit_name units place)
  type_refusal units type_fault.Turns = fault.Limit limit.Turns
  type_refusal units type_fault.BlockDepth = fault.Limit limit.BlockDepth
  type_refusal units type_fault.Programs = fault.Limit limit.Programs
  type_refusal units type_fault.Elements = fault.Limit limit.Elements

  -- the refusals of each stage
  abbrev pub AtFile : ConfigFault → Type 0
  AtFile f = ((f ≡ fault.NotToml tt) × (document_in t.plant ≡ None)) ⊎ ((f ≡ fault.PlantFile tt) × (IsWrongFile t.plant ⊎ HasOtherSources t))

  abbrev pub AtEpoch : ConfigFault → Type 0
  AtEpoch f = (f ≡ fault.Epoch) × HasNoEpoch t

  abbrev pub AtLimits : ConfigFault → Type 0
  AtLimits f = (found : Limit) × (f ≡ fault.Limit found) × IsOverLimit t found

  pub record AtSources (f : ConfigFault) : Type 0 where
    pub file : PlainPlantFile
    pub epoch : ℕ
    pub limited : IsLimited t file epoch
    pub found : SourceFault
    pub is_fault : IsSourceFault t.sources found
    pub other : found ≢ source_fault.Memory
    pub refusal : f ≡ source_refusal found

  pub record AtTypes (f : ConfigFault) : Type 0 where
    pub file : PlainPlantFile
    pub epoch : ℕ
    pub units : List PlainUnit
    pub has_units : HasUnits t file epoch units
    pub found : TypeFault
    pub is_fault : IsTypeFault units found
    pub other : found ≢ type_fault.Memory
    pub refusal : f ≡ type_refusal units found

  abbrev pub AtSize : ConfigFault → Type 0
  AtSize f = (found : LimitFault) × (found ≢ limit_fault.Memory) × (f ≡ size_refusal found) × IsTooLarge t found

  abbrev pub AtDatabase : ConfigFault → Type 0
  AtDatabase f = (found : DbFault) × (f ≡ database_refusal found) × HasDatabaseFault t found

  abbrev pub AtAlarms : ConfigFault → Type 0
  AtAlarms f = (row : ℕ) × (column : Column) × (f ≡ fault.Unknown row column tt) × NamesUnknown t row column

  -- those of a stage or a later one
  abbrev pub FromDatabase : ConfigFault → Type 0
  FromDatabase f = AtDatabase f ⊎ AtAlarms f

  abbrev pub FromSize : ConfigFault → Type 0
  FromSize f = AtSize f ⊎ FromDatabase f

  abbrev pub FromTypes : ConfigFault → Type 0
  FromTypes f = AtTypes f ⊎ FromSize f

  abbrev pub FromSources : ConfigFault → Type 0
  FromSources f = AtSources f ⊎ FromTypes f

  abbrev pub FromLimits : ConfigFault → Type 0
  FromLimits f = AtLimits f ⊎ FromSources f

  abbrev pub FromEpoch : ConfigFault → Type 0
  FromEpoch f = AtEpoch f ⊎ FromLimits f

  abbrev pub FromFile : ConfigFault → Type 0
  FromFile f = AtFile f ⊎ FromEpoch f

  at_sources : (f : ConfigFault) (file : PlainPlantFile) (epoch : ℕ) → IsLimited t file epoch → (found : SourceFault) → IsSourceFault t.sources found → found ≢ source_fault.Memory → f ≡ source_refusal found → FromFile f
  at_sources f file epoch limited found is other refusal = inr (inr (inr (inl (record { file = file; epoch = epoch; limited = limited; found = found; is_fault = is; other = other; refusal = refusal }))))

  at_types : (f : ConfigFault) (file : PlainPlantFile) (epoch : ℕ) (units : List PlainUnit) → HasUnits t file epoch units → (found : TypeFault) → IsTypeFault units found → found ≢ type_fault.Memory → f ≡ type_refusal units found → FromFile f
  at_types f file epoch units has found is other refusal =
      inr (inr (inr (inr (inl (record { file = file; epoch = epoch; units = units; has_units = has; found = found; is_fault = is; other = other; refusal = refusal })))))

  at_limits : (found : Limit) → IsOverLimit t found → FromFile (fault.Limit found)
  at_limits found is = inr (inr (inl (found, refl, is)))

  at_size : (f : ConfigFault) (found : LimitFault) → found ≢ limit_fault.Memory → f ≡ size_refusal found → IsTooLarge t found → FromFile f
  at_size f found other refusal is = inr (inr (inr (inr (inr (inl (found, other, refusal, is))))))

  at_database : (f : ConfigFault) (found : DbFault) → f ≡ database_refusal found → HasDatabaseFault t found → FromFile f
  at_database f found refusal is = inr (inr (inr (inr (inr (inr (inl (found, refusal, is)))))))

  -- each refusal but Memory is one of a stage
  pub staged : (f : ConfigFault) → IsRefused t f → (f ≡ fault.Memory) ⊎ FromFile f
  unfolding IsRefused
  staged fault.Memory is = inl refl
  staged (fault.NotToml u) is = inr (inl (inl (refl, is)))
  staged (fault.PlantFile u) is = inr (inl (inr (refl, is)))
  staged fault.Epoch is = inr (inr (inl (refl, is)))
  staged (fault.Limit limit.Sources) is = inr (at_limits limit.Sources is)
  staged (fault.Limit limit.Text) is = inr (at_limits limit.Text is)
  staged (fault.Limit limit.Areas) is = inr (at_limits limit.Areas is)
  staged (fault.Limit limit.Consoles) is = inr (at_limits limit.Consoles is)
  staged (fault.Limit limit.Turns) is = inr (at_types _ is.file is.epoch is.units is.has_units type_fault.Turns is.is_fault (λ e. cc e) refl)
  staged (fault.Limit limit.BlockDepth) is = inr (at_types _ is.file is.epoch is.units is.has_units type_fault.BlockDepth is.is_fault (λ e. cc e) refl)
  staged (fault.Limit limit.Programs) is = inr (at_types _ is.file is.epoch is.units is.has_units type_fault.Programs is.is_fault (λ e. cc e) refl)
  staged (fault.Limit limit.Elements) is = inr (at_types _ is.file is.epoch is.units is.has_units type_fault.Elements is.is_fault (λ e. cc e) refl)
  staged (fault.Limit limit.Slots) is = inr (at_size _ limit_fault.Slots (λ e. cc e) refl is)
  staged (fault.Limit limit.Size) is = inr (at_size _ limit_fault.Size (λ e. cc e) refl is)
  staged (fault.Limit limit.Cost) is = inr (at_size _ limit_fault.Cost (λ e. cc e) refl is)
  staged (fault.Limit limit.Alarms) is = inr (at_database _ db_fault.TooMany refl is)
  staged (fault.Spelling name line column) is =
      inr (at_sources _ is.file is.epoch is.limited (source_fault.Spelling is.number line column) is.is_fault (λ e. cc e) (ap (λ name. fault.Spelling name line column) is.name_is))
  staged (fault.Grammar name line column) is =
      inr (at_sources _ is.file is.epoch is.limited (source_fault.Grammar is.number line column) is.is_fault (λ e. cc e) (ap (λ name. fault.Grammar name line column) is.name_is))
  staged (fault.Name name unit) is = inr (at_types _ is.file is.epoch is.units is.has_units (type_fault.Name is.place) is.is_fault (λ e. cc e) (rw (is.name_is, is.unit_is) refl))
  staged (fault.Kind name unit) is = inr (at_types _ is.file is.epoch is.units is.has_units (type_fault.Kind is.place) is.is_fault (λ e. cc e) (rw (is.name_is, is.unit_is) refl))
  staged (fault.HoldsItself name unit) is = inr (at_types _ is.file is.epoch is.units is.has_units (type_fault.HoldsItself is.place) is.is_fault (λ e. cc e) (rw (is.name_is, is.unit_is) refl))
  staged (fault.Constant name unit) is = inr (at_types _ is.file is.epoch is.units is.has_units (type_fault.Constant is.place) is.is_fault (λ e. cc e) (rw (is.name_is, is.unit_is) refl))
  staged (fault.Header u) is = inr (at_database _ db_fault.Header refl is)
  staged (fault.Field row column u) is = inr (at_database _ (db_fault.Field row column) refl is)
  staged (fault.Twice row u) is = inr (at_database _ (db_fault.Twice row) refl is)
  staged (fault.Unknown row column u) is = inr (inr (inr (inr (inr (inr (inr (inr (row, column, refl, is))))))))

  -- what is right is one
  pub one_file : (a b : PlainPlantFile) → HasFile t a → HasFile t b → a ≡ b
  one_file a b x y = same_Some a b (sym x.read ∙ y.read)

  pub same_epoch : (a b : PlainPlantFile) (m n : ℕ) → HasEpoch t a m → HasEpoch t b n → m ≡ n
  same_epoch a b m n x y = one_epoch a.epoch m n x.early y.early x.epoch_is (ap (λ (f : PlainPlantFile). f.epoch) (one_file a b x.has_file y.has_file) ∙ y.epoch_is)

  pub one_list : (a b : PlainPlantFile) (m n : ℕ) (us vs : List PlainUnit) → HasUnits t a m us → HasUnits t b n vs → us ≡ vs
  one_list a b m n us vs x y = one_list_of_units t.sources us vs x.units_are y.units_are

  -- what a later refusal says of the stages before it
  abbrev Passed : (PlainPlantFile → ℕ → List PlainUnit → Type 0) → Type 0
  Passed P = (file : PlainPlantFile) × (epoch : ℕ) × (units : List PlainUnit) × P file epoch units

  pub database_right : (f : ConfigFault) → AtAlarms f → Passed (HasDatabase t)
  database_right f is = (is.3.file, is.3.epoch, is.3.units, is.3.has_database)

  pub size_right : (f : ConfigFault) → FromDatabase f → Passed (IsSized t)
  size_right f (inl is) = (is.2.file, is.2.epoch, is.2.units, is.2.sized)
  size_right f (inr is) = let p = database_right f is in (p.0, p.1, p.2, p.3.sized)

  pub types_right : (f : ConfigFault) → FromSize f → Passed (IsWellFormed t)
  types_right f (inl is) = (is.3.file, is.3.epoch, is.3.units, is.3.well_formed)
  types_right f (inr is) = let p = size_right f is in (p.0, p.1, p.2, p.3.well_formed)

  pub units_right : (f : ConfigFault) → FromTypes f → Passed (HasUnits t)
  units_right f (inl is) = (is.file, is.epoch, is.units, is.has_units)
  units_right f (inr is) = let p = types_right f is in (p.0, p.1, p.2, p.3.has_units)

  pub limits_right : (f : ConfigFault) → FromSources f → (file : PlainPlantFile) × (epoch : ℕ) × IsLimited t file epoch
  limits_right f (inl is) = (is.file, is.epoch, is.limited)
  limits_right f (inr is) = let p = units_right f is in (p.0, p.1, p.3.limited)

  pub epoch_right : (f : ConfigFault) → FromLimits f → (file : PlainPlantFile) × (epoch : ℕ) × HasEpoch t file epoch
  epoch_right f (inl is) = (is.2.file, is.2.epoch, is.2.has_epoch)
  epoch_right f (inr is) = let p = limits_right f is in (p.0, p.1, p.2.has_epoch)

  pub file_right : (f : ConfigFault) → FromEpoch f → (file : PlainPlantFile) × HasFile t file
  file_right f (inl is) = (is.1.file, is.1.has_file)
  file_right f (inr is) = let p = epoch_right f is in (p.0, p.2.has_file)

  -- what is right at a stage isn't refused there
  pub no_other_file : (file : PlainPlantFile) → HasFile t file → IsWrongFile t.plant ⊎ HasOtherSources t → ⊥
  no_other_file file has (inl wrong) = let e : plant_file_in t.plant ≡ None = rw wrong.1 wrong.2 in not_both (plant_file_in t.plant) file has.read e
  no_other_file file has (inr other) =
      let same = same_Some other.0 file (sym other.1 ∙ has.read) in
      both_ways (same_texts t.names file.sources) (ap (λ (f : PlainPlantFile). same_texts t.names f.sources) (sym same) ∙ other.2) has.listed

  pub no_at_file : (file : PlainPlantFile) → HasFile t file → (f : ConfigFault) → AtFile f → ⊥
  no_at_file file has f (inl is) = let e : plant_file_in t.plant ≡ None = rw is.1 refl in not_both (plant_file_in t.plant) file has.read e
  no_at_file file has f (inr is) = no_other_file file has is.1

  pub no_at_epoch : (file : PlainPlantFile) (epoch : ℕ) → HasEpoch t file epoch → (f : ConfigFault) → AtEpoch f → ⊥
  no_at_epoch file epoch has f is = is.1.none epoch has.early (ap (λ (f : PlainPlantFile). f.epoch) (one_file is.1.file file is.1.has_file has.has_file) ∙ has.epoch_is)

  pub no_at_limits : (file : PlainPlantFile) (epoch : ℕ) → IsLimited t file epoch → (f : ConfigFault) → AtLimits f → ⊥
  no_at_limits file epoch has f is =
      let same = one_file is.2.file file is.2.has_epoch.has_file has.has_epoch.has_file in
      not_both (first_limit t file) is.0 (ap (first_limit t) (sym same) ∙ is.2.first) has.limits

  pub no_at_sources : (file : PlainPlantFile) (epoch : ℕ) (units : List PlainUnit) → HasUnits t file epoch units → (f : ConfigFault) → AtSources f → ⊥
  no_at_sources file epoch units has f is = is.other (source_apart t.sources units is.found has.units_are is.is_fault)

  pub no_at_types : (file : PlainPlantFile) (epoch : ℕ) (units : List PlainUnit) → IsWellFormed t file epoch units → (f : ConfigFault) → AtTypes f → ⊥
  no_at_types file epoch units has f is =
      let same = one_list is.file file is.epoch epoch is.units units is.has_units has.has_units in
      is.other (typing.apart units is.found has.typed (subst (λ us. IsTypeFault us is.found) same is.is_fault))

  pub no_at_size : (file : PlainPlantFile) (epoch : ℕ) (units : List PlainUnit) → IsSized t file epoch units → (f : ConfigFault) → AtSize f → ⊥
  no_at_size file epoch units has f is =
      let same = one_list is.3.file file is.3.epoch epoch is.3.units units is.3.well_formed.has_units has.well_formed.has_units in
      is.1 (not_past (source_in units) is.0 has.keeps (subst (λ us. IsLimitFault (source_in us) is.0) same is.3.past))

  pub no_at_database : (file : PlainPlantFile) (epoch : ℕ) (units : List PlainUnit) → HasDatabase t file epoch units → (f : ConfigFault) → AtDatabase f → ⊥
  no_at_database file epoch units has f is = not_both (first_fault t.alarms) is.0 is.2.first has.database

  pub no_at_alarms : (file : PlainPlantFile) (epoch : ℕ) (units : List PlainUnit) → HasAlarms t file epoch units → (f : ConfigFault) → AtAlarms f → ⊥
  no_at_alarms file epoch units has f is =
      let own = is.3.has_database.sized.well_formed.has_units in
      let right = has.has_database.sized.well_formed.has_units in
      let same = one_file is.3.file file own.limited.has_epoch.has_file right.limited.has_epoch.has_file in
      let same_units = one_list is.3.file file is.3.epoch epoch is.3.units units own right in
      let found : first_unknown file.areas (source_in units).globals 1 (rows_of t.alarms) ≡ Some (is.0, is.1) = rw (← same, ← same_units) is.3.first in
      not_both _ (is.0, is.1) found has.known
