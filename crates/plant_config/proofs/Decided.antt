-- Texts are accepted or refused.
use Rattle.std.proofs.Common.{◌≡◌, ◌≢◌, subst, refl, ◌⊎◌, ℕ, zero, suc, ◌+◌, ◌<◌, ◌≤◌, nat_lt, Bool, true, false, not, ◌||◌, if◌then◌else◌, List, [], ◌∷◌, ◌++◌, map, length, Option, Some, None, inl, inr, arith}
use Rattle.std.specs.List.{list_all}
use Rattle.std.specs.Option.{option_map, option_or}
use Rattle.toml.specs.Data.{Members}
use Rattle.std.specs.Str.{bytes_eq}
use Rattle.std.specs.Cmp.Lexicographic.{bytes_decides}
use Rattle.std.proofs.Math.Nat.{eq-or-lt_of_le}
use Rattle.std.proofs.lemmas.Bool.{cases_Bool, both_ways}
use Rattle.std.proofs.lemmas.Option.{same_Some}
use Rattle.base_stamps.specs.Stamps.{epoch_bound, epoch_text}
use Rattle.st_parser.specs.Units.{PlainUnit}
use Rattle.st_sources.specs.UnitPlace.{UnitPlace}
use Rattle.st_sources.specs.UnitNames.{unit_name}
use Rattle.vm_logic.specs.Faults.{IsTypeFault}
use Rattle.vm_logic.specs.TypeFault.{TypeFault}
use Rattle.vm_logic.specs.TypeFault.TheVariants as type_fault
use Rattle.vm_logic.proofs.Decided.{typed_or_not}
use Rattle.plant_file.specs.PlantFiles.{PlainPlantFile, plant_file}
use Rattle.plant_file.specs.Read.{document_in, plant_file_in}
use Rattle.st_sources.specs.Sources.{IsSourceFault}
use Rattle.st_sources.specs.declared.fault.SourceFault.{SourceFault}
use Rattle.st_sources.specs.declared.fault.SourceFault.TheVariants as source_fault
use Rattle.st_sources.proofs.Decided as sources
use Rattle.vm_logic.specs.Units.{source_in}
use Rattle.vm_logic.specs.LimitFault.{LimitFault}
use Rattle.vm_logic.specs.LimitFault.TheVariants as limit_fault
use Rattle.alarm_db.specs.Databases.{is_among, is_even, version_of, first_wrong, first_twice, tags_of, rows_fault, records_fault, records_of, first_fault, rows_of}
use Rattle.alarm_db.specs.Rows.{wrong_column, row_of}
use Rattle.alarm_db.specs.declared.column.Column.{Column}
use Rattle.alarm_db.specs.declared.column.Version.{Version}
use Rattle.alarm_db.specs.declared.fault.DbFault.{DbFault}
use Rattle.alarm_db.specs.declared.fault.DbFault.TheVariants as db_fault
use Rattle.plant_config.specs.declared.fault.ConfigFault.{ConfigFault}
use Rattle.plant_config.specs.declared.fault.ConfigFault.TheVariants as fault
use Rattle.plant_config.specs.declared.fault.Limit.{Limit}
use Rattle.plant_config.specs.declared.fault.Limit.TheVariants as limit
use Rattle.plant_config.specs.Alarms.{first_unknown}
use Rattle.plant_config.specs.Files.{Texts, same_texts}
use Rattle.plant_config.specs.Limits.{first_limit, is_too_long}
use Rattle.plant_config.specs.Plants.{PlainPlant}
use Rattle.plant_config.specs.Stages.{HasFile, HasEpoch, IsLimited, HasUnits, IsWellFormed, IsSized, HasDatabase, HasAlarms, Accepted, plant_of}
use Rattle.plant_config.specs.Refusals.{IsOverLimit, IsLimitOf, IsMistyped, IsMistypedIn, IsTooLarge, HasDatabaseFault, IsRefused}
use Rattle.plant_config.proofs.Sizes.{kept_or_past}
use Rattle.plant_config.proofs.Stops.{source_name, type_refusal}

option_cases : {A : Type 0} (o : Option A) → (o ≡ None) ⊎ ((x : A) × (o ≡ Some x))
option_cases None = inl refl
option_cases (Some x) = inr (x, refl)

-- what each number has or hasn't, one of those below a bound has, or none
module _ (P : ℕ → Type 0) (decide : (n : ℕ) → P n ⊎ (P n → ⊥)) where
  none_more : (n : ℕ) → ((m : ℕ) → m < n → P m → ⊥) → (P n → ⊥) → (m : ℕ) → m < suc n → P m → ⊥
  none_more n none not_it m less has =
      elim (eq-or-lt_of_le (let le : m ≤ n = omega (arith, less) in le)) [
        | inl is ↦ not_it (subst P is has)
        | inr before ↦ none m before has
      ]

  some_below : (n : ℕ) → ((m : ℕ) × (m < n) × P m) ⊎ ((m : ℕ) → m < n → P m → ⊥)
  some_below zero = inr (λ m less has. absurd (omega (arith, less)))
  some_below (suc n) =
      elim (some_below n) [
        | inl found ↦ inl (found.0, let less = found.1 in omega (arith, less), found.2)
        | inr none ↦
            elim (decide n) [
              | inl has ↦ inl (n, omega arith, has)
              | inr not_it ↦ inr (none_more n none not_it)
            ]
      ]

same_or_not : (a b : List ℕ) → (a ≡ b) ⊎ (a ≢ b)
same_or_not a b =
    elim (cases_Bool (bytes_eq a b)) [
      | inl so ↦ inl ((bytes_decides a b).0 so)
      | inr not_so ↦ inr (λ e. both_ways (bytes_eq a b) not_so ((bytes_decides a b).1 e))
    ]

-- a database's first fault isn't Memory
abbrev NotMemory : Option DbFault → Type 0
NotMemory o = o ≢ Some db_fault.Memory

either : (b : Bool) (x y : Option DbFault) → NotMemory x → NotMemory y → NotMemory (if b then x else y)
either true x y not_x not_y = not_x
either false x y not_x not_y = not_y

first_or : (o rest : Option DbFault) → NotMemory o → NotMemory rest → NotMemory (option_or o rest)
first_or None rest not_o not_rest = not_rest
first_or (Some f) rest not_o not_rest = not_o

field : (n : ℕ) (o : Option Column) → NotMemory (option_map (λ c. db_fault.Field n c) o)
field n None = λ e. cc e
field n (Some c) = λ e. cc e

wrong_row : (v : Version) (n : ℕ) (rows : List (List (List ℕ))) → NotMemory (first_wrong v n rows)
wrong_row v n [] = λ e. cc e
wrong_row v n (fields ∷ rest) = first_or (option_map (λ c. db_fault.Field n c) (wrong_column v fields)) (first_wrong v (n + 1) rest) (field n (wrong_column v fields)) (wrong_row v (n + 1) rest)

twice : (earlier tags : List (List ℕ)) → NotMemory (first_twice earlier tags)
twice earlier [] = λ e. cc e
twice earlier (tag ∷ tags) = either (is_among earlier tag) (Some (db_fault.Twice (length earlier + 1))) (first_twice (earlier ++ tag ∷ []) tags) (λ e. cc e) (twice (earlier ++ tag ∷ []) tags)

wrong_rows : (rows : List (List (List ℕ))) (v : Version) → NotMemory (rows_fault rows v)
wrong_rows rows v =
    let tags = tags_of (map (row_of v) rows) in
    let forms = option_or (first_wrong v 1 rows) (first_twice [] tags) in
    either (not (list_all (is_even v) rows)) (Some db_fault.Header) (if nat_lt 20000 (length rows) then Some db_fault.TooMany else forms) (λ e. cc e)
    (either (nat_lt 20000 (length rows)) (Some db_fault.TooMany) forms (λ e. cc e) (first_or (first_wrong v 1 rows) (first_twice [] tags) (wrong_row v 1 rows) (twice [] tags)))

wrong_records : (records : List (List (List ℕ))) → NotMemory (records_fault records)
wrong_records [] = λ e. cc e
wrong_records (header ∷ rows) = by_version (version_of header)
  where
    by_version : (o : Option Version) → NotMemory (elim o [ None ↦ Some db_fault.Header | Some v ↦ rows_fault rows v ])
    by_version None = λ e. cc e
    by_version (Some v) = wrong_rows rows v

module _ (t : Texts) where
  -- they are refused, and not for want of memory
  abbrev pub Stops : Type 0
  Stops = (f : ConfigFault) × IsRefused t f × (f ≢ fault.Memory)

  go_on : {A B : Type 0} → A ⊎ Stops → (A → B ⊎ Stops) → B ⊎ Stops
  go_on (inl a) on = on a
  go_on (inr stops) on = inr stops

  -- a limit of sources, texts, areas or consoles is one of these
  early : (a b c d : Bool) (found : Limit) → (if a then Some limit.Sources else if b then Some limit.Text else if c then Some limit.Areas else if d then Some limit.Consoles else None) ≡ Some found → IsOverLimit t found → IsLimitOf t found
  early true b c d found e = subst (λ l. IsOverLimit t l → IsLimitOf t l) (same_Some limit.Sources found e) (λ over. over)
  early false true c d found e = subst (λ l. IsOverLimit t l → IsLimitOf t l) (same_Some limit.Text found e) (λ over. over)
  early false false true d found e = subst (λ l. IsOverLimit t l → IsLimitOf t l) (same_Some limit.Areas found e) (λ over. over)
  early false false false true found e = subst (λ l. IsOverLimit t l → IsLimitOf t l) (same_Some limit.Consoles found e) (λ over. over)
  early false false false false found e = absurd (cc e)

  listed : (file : PlainPlantFile) → plant_file_in t.plant ≡ Some file → ((file : PlainPlantFile) × HasFile t file) ⊎ Stops
  unfolding IsRefused
  listed file read =
      elim (cases_Bool (same_texts t.names file.sources)) [
        | inl so ↦ inl (file, record { read = read; listed = so })
        | inr not_so ↦ inr (fault.PlantFile tt, inr (file, read, not_so), λ e. cc e)
      ]

  right : (document : Members) → document_in t.plant ≡ Some document → ((file : PlainPlantFile) × HasFile t file) ⊎ Stops
  unfolding IsRefused
  right document is =
      elim (option_cases (plant_file document)) [
        | inl none ↦ inr (fault.PlantFile tt, inl (document, is, none), λ e. cc e)
        | inr file ↦ listed file.0 (rw (is, file.1) refl)
      ]

  has_file : ((file : PlainPlantFile) × HasFile t file) ⊎ Stops
  unfolding IsRefused
  has_file =
      elim (option_cases (document_in t.plant)) [
        | inl none ↦ inr (fault.NotToml tt, none, λ e. cc e)
        | inr document ↦ right document.0 document.1
      ]

  module _ (file : PlainPlantFile) where
    has_epoch : HasFile t file → ((epoch : ℕ) × HasEpoch t file epoch) ⊎ Stops
    unfolding IsRefused
    has_epoch has =
        elim (some_below (λ seconds. file.epoch ≡ epoch_text seconds) (λ seconds. same_or_not file.epoch (epoch_text seconds)) epoch_bound) [
          | inl found ↦ inl (found.0, record { has_file = has; epoch_is = found.2; early = found.1 })
          | inr none ↦ inr (fault.Epoch, record { file = file; has_file = has; none = none }, λ e. cc e)
        ]

    module _ (epoch : ℕ) where
      over_limit : (found : Limit) → IsOverLimit t found → first_limit t file ≡ Some found → IsRefused t (fault.Limit found)
      unfolding IsRefused
      over_limit found is first = early (nat_lt 64 (length t.sources)) (is_too_long t) (nat_lt 64 (length file.areas)) (nat_lt 32 (length file.consoles)) found first is

      limited : HasEpoch t file epoch → IsLimited t file epoch ⊎ Stops
      limited has =
          elim (option_cases (first_limit t file)) [
            | inl none ↦ inl (record { has_epoch = has; limits = none })
            | inr found ↦ inr (fault.Limit found.0, over_limit found.0 (record { file = file; epoch = epoch; has_epoch = has; first = found.1 }) found.1, λ e. cc e)
          ]

      source_refused : IsLimited t file epoch → (found : SourceFault) → IsSourceFault t.sources found → found ≢ source_fault.Memory → Stops
      unfolding IsRefused
      source_refused has source_fault.Memory is other = absurd (other refl)
      source_refused has (source_fault.Spelling number line column) is other =
          (fault.Spelling (source_name t number) line column, record { file = file; epoch = epoch; limited = has; number = number; is_fault = is; name_is = refl }, λ e. cc e)
      source_refused has (source_fault.Grammar number line column) is other =
          (fault.Grammar (source_name t number) line column, record { file = file; epoch = epoch; limited = has; number = number; is_fault = is; name_is = refl }, λ e. cc e)

      has_units : IsLimited t file epoch → ((units : List PlainUnit) × HasUnits t file epoch units) ⊎ Stops
      has_units has =
          elim (sources.decided t.sources) [
            | inl found ↦ inl (found.0, record { limited = has; units_are = found.1 })
            | inr stopped ↦ inr (source_refused has stopped.0 stopped.1 stopped.2)
          ]

      module _ (units : List PlainUnit) where
        mistyped : (found : UnitPlace → TypeFault) (place : UnitPlace) → HasUnits t file epoch units → IsTypeFault units (found place) → IsMistypedIn t found (source_name t place.source) (unit_name units place)
        mistyped found place has is = record { file = file; epoch = epoch; units = units; has_units = has; place = place; is_fault = is; name_is = refl; unit_is = refl }

        over : (found : TypeFault) → HasUnits t file epoch units → IsTypeFault units found → IsMistyped t found
        over found has is = record { file = file; epoch = epoch; units = units; has_units = has; is_fault = is }

        type_refused : HasUnits t file epoch units → (found : TypeFault) → IsTypeFault units found → found ≢ type_fault.Memory → Stops
        unfolding IsRefused
        type_refused has type_fault.Memory is other = absurd (other refl)
        type_refused has (type_fault.Name place) is other = (type_refusal t units (type_fault.Name place), mistyped (λ place. type_fault.Name place) place has is, λ e. cc e)
        type_refused has (type_fault.Kind place) is other = (type_refusal t units (type_fault.Kind place), mistyped (λ place. type_fault.Kind place) place has is, λ e. cc e)
        type_refused has (type_fault.HoldsItself place) is other = (type_refusal t units (type_fault.HoldsItself place), mistyped (λ place. type_fault.HoldsItself place) place has is, λ e. cc e)
        type_refused has (type_fault.Constant place) is other = (type_refusal t units (type_fault.Constant place), mistyped (λ place. type_fault.Constant place) place has is, λ e. cc e)
        type_refused has type_fault.Turns is other = (fault.Limit limit.Turns, over type_fault.Turns has is, λ e. cc e)
        type_refused has type_fault.BlockDepth is other = (fault.Limit limit.BlockDepth, over type_fault.BlockDepth has is, λ e. cc e)
        type_refused has type_fault.Programs is other = (fault.Limit limit.Programs, over type_fault.Programs has is, λ e. cc e)
        type_refused has type_fault.Elements is other = (fault.Limit limit.Elements, over type_fault.Elements has is, λ e. cc e)

        well_formed : HasUnits t file epoch units → IsWellFormed t file epoch units ⊎ Stops
        well_formed has =
            elim (typed_or_not units) [
              | inl typed ↦ inl (record { has_units = has; typed = typed })
              | inr found ↦ inr (type_refused has found.0 found.1 found.2)
            ]

        size_refused : (found : LimitFault) → found ≢ limit_fault.Memory → IsTooLarge t found → Stops
        unfolding IsRefused
        size_refused limit_fault.Memory other is = absurd (other refl)
        size_refused limit_fault.Slots other is = (fault.Limit limit.Slots, is, λ e. cc e)
        size_refused limit_fault.Size other is = (fault.Limit limit.Size, is, λ e. cc e)
        size_refused limit_fault.Cost other is = (fault.Limit limit.Cost, is, λ e. cc e)

        sized : IsWellFormed t file epoch units → IsSized t file epoch units ⊎ Stops
        sized has =
            elim (kept_or_past (source_in units)) [
              | inl keeps ↦ inl (record { well_formed = has; keeps = keeps })
              | inr found ↦ inr (size_refused found.0 found.1 (record { file = file; epoch = epoch; units = units; well_formed = has; past = found.2 }))
            ]

        database_refused : (found : DbFault) → HasDatabaseFault t found → Stops
        unfolding IsRefused
        database_refused db_fault.Memory is = absurd (wrong_records (records_of t.alarms) is.first)
        database_refused db_fault.Header is = (fault.Header tt, is, λ e. cc e)
        database_refused db_fault.TooMany is = (fault.Limit limit.Alarms, is, λ e. cc e)
        database_refused (db_fault.Field row column) is = (fault.Field row column tt, is, λ e. cc e)
        database_refused (db_fault.Twice row) is = (fault.Twice row tt, is, λ e. cc e)

        has_database : IsSized t file epoch units → HasDatabase t file epoch units ⊎ Stops
        has_database has =
            elim (option_cases (first_fault t.alarms)) [
              | inl none ↦ inl (record { sized = has; database = none })
              | inr found ↦ inr (database_refused found.0 (record { file = file; epoch = epoch; units = units; sized = has; first = found.1 }))
            ]

        has_alarms : HasDatabase t file epoch units → HasAlarms t file epoch units ⊎ Stops
        unfolding IsRefused
        has_alarms has =
            elim (option_cases (first_unknown file.areas (source_in units).globals 1 (rows_of t.alarms))) [
              | inl none ↦ inl (record { has_database = has; known = none })
              | inr found ↦ inr (fault.Unknown found.0.0 found.0.1 tt, record { file = file; epoch = epoch; units = units; has_database = has; first = found.1 }, λ e. cc e)
            ]

        accepted : HasAlarms t file epoch units → ((plant : PlainPlant) × Accepted t plant) ⊎ Stops
        accepted has = inl (plant_of t file epoch units, record { file = file; epoch = epoch; units = units; has_alarms = has; plant_is = refl })

        of_units : HasUnits t file epoch units → ((plant : PlainPlant) × Accepted t plant) ⊎ Stops
        of_units has = go_on (go_on (go_on (go_on (well_formed has) sized) has_database) has_alarms) accepted

      of_epoch : HasEpoch t file epoch → ((plant : PlainPlant) × Accepted t plant) ⊎ Stops
      of_epoch has = go_on (go_on (limited has) has_units) (λ found. of_units found.0 found.1)

    of_file : HasFile t file → ((plant : PlainPlant) × Accepted t plant) ⊎ Stops
    of_file has = go_on (has_epoch has) (λ found. of_epoch found.0 found.1)

  pub accepted_or_refused : ((plant : PlainPlant) × Accepted t plant) ⊎ Stops
  accepted_or_refused = go_on has_file (λ found. of_file found.0 found.1)
