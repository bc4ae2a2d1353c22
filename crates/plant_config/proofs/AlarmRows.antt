-- The alarms of rows whose names are known are alarms of the plant.
use Rattle.std.proofs.Common.{◌≡◌, ◌≢◌, ◌∙◌, sym, subst, refl, ℕ, zero, suc, ◌<◌, ◌+◌, Bool, true, false, List, [], ◌∷◌, length, Option, Some, None, All, AllPairs, arith, inl, inr}
use Rattle.std.specs.Prelude.{if◌then◌else◌, is_none, unwrap_or, slice_index_or, position, option_map, option_and_then, IfSome, nat_lt}
use Rattle.std.specs.List.{position_or_len}
use Rattle.std.specs.Option.{option_or}
use Rattle.std.specs.Str.{bytes_eq}
use Rattle.std.proofs.lemmas.Bool.{cases_Bool}
use Rattle.std.proofs.lemmas.Bool.Decides.{nat_tests}
use Rattle.std.proofs.lemmas.List.{length-map}
use Rattle.std.proofs.lemmas.List.Elements.{All-nil, All-cons, All-head, All-tail}
use Rattle.std.proofs.lemmas.Option.{same_Some}
use Rattle.plant_types.specs.declared.values.Kind.{Kind}
use Rattle.plant_types.specs.declared.values.Kind.TheVariants as kind
use Rattle.alarm_db.specs.declared.column.Column.{Column}
use Rattle.alarm_db.specs.declared.column.Column.TheVariants as column
use Rattle.alarm_db.specs.declared.row.DatabaseRow.{DatabaseRow}
use Rattle.alarm_db.specs.Rows.{IsDatabaseRow}
use Rattle.alarm_db.specs.Databases.{tags_of as database_tags}
use Rattle.vm_logic.specs.Variable.{Variable}
use Rattle.vm_logic.specs.Names.{find_global}
use Rattle.plant_config.specs.declared.rows.AlarmRow.{AlarmRow}
use Rattle.plant_config.specs.Alarms.{area_number, is_bool, is_bool_at, if_bool, bool_number, is_unknown, unknown_column, first_unknown, alarm_of, alarms_of}
use Rattle.plant_config.specs.Plants.{PlainPlant, IsBoolGlobal, IsAlarmRow, HaveDifferentTags, tags_of}

kind_is : (k : Kind) → is_bool k ≡ true → k ≡ kind.Bool
kind_is kind.Bool e = refl
kind_is kind.Dint e = absurd (cc e)
kind_is kind.Time e = absurd (cc e)

-- a number at which a BOOL global stands
bool_at : (globals : List Variable) (n : ℕ) → is_bool_at globals n ≡ true → IsBoolGlobal globals n
bool_at [] n e = absurd (cc e)
bool_at (g ∷ gs) zero e = record { within = omega arith; is_bool = kind_is g.kind e }
bool_at (g ∷ gs) (suc n) e = let r = bool_at gs n e in record { within = omega (arith, r.within); is_bool = r.is_bool }

if_bool_is : (globals : List Variable) (m n : ℕ) (b : Bool) → is_bool_at globals m ≡ b → (if b then Some m else None) ≡ Some n → IsBoolGlobal globals n
if_bool_is globals m n true e f = subst (IsBoolGlobal globals) (same_Some m n f) (bool_at globals m e)
if_bool_is globals m n false e f = absurd (cc f)

bool_of : (globals : List Variable) (o : Option ℕ) (n : ℕ) → option_and_then (if_bool globals) o ≡ Some n → IsBoolGlobal globals n
bool_of globals None n e = absurd (cc e)
bool_of globals (Some m) n e = if_bool_is globals m n (is_bool_at globals m) refl e

-- a name that is known is that of a BOOL global
known_bool : (globals : List Variable) (o : Option ℕ) → ((n : ℕ) → o ≡ Some n → IsBoolGlobal globals n) → is_none o ≡ false → IsBoolGlobal globals (unwrap_or o 0)
known_bool globals None own e = absurd (cc e)
known_bool globals (Some n) own e = own n refl

known_suppress : (globals : List Variable) (name : Option (List ℕ)) → is_unknown globals name ≡ false → IfSome (option_and_then (bool_number globals) name) (IsBoolGlobal globals)
known_suppress globals None e = tt
known_suppress globals (Some word) e = go (bool_number globals word) (λ n f. bool_of globals (find_global globals word) n f)
  where
    go : (o : Option ℕ) → ((n : ℕ) → o ≡ Some n → IsBoolGlobal globals n) → IfSome o (IsBoolGlobal globals)
    go None own = tt
    go (Some n) own = own n refl

place_within : (p : List ℕ → Bool) (xs : List (List ℕ)) (i : ℕ) → position p xs ≡ Some i → i < length xs
place_within p xs i e =
    elim (cases_Bool (nat_lt (position_or_len p xs) (length xs))) [
      | inl so ↦ let same : position_or_len p xs ≡ i = same_Some _ _ (rw so at e) in rw (← same) (grind (arith, nat_tests, so))
      | inr not_so ↦ let none : None ≡ Some i = rw not_so at e in absurd (cc none)
    ]

known_area : (bound : ℕ) (o : Option ℕ) → ((n : ℕ) → o ≡ Some n → n < bound) → is_none o ≡ false → unwrap_or o 0 < bound
known_area bound None own e = absurd (cc e)
known_area bound (Some n) own e = own n refl

-- of a row without an unknown name, each name is known
record Known (areas : List (List ℕ)) (globals : List Variable) (row : DatabaseRow) : Type 0 where
  area : is_none (area_number areas row.area) ≡ false
  condition : is_none (bool_number globals row.condition) ≡ false
  suppress : is_unknown globals row.suppress ≡ false

three : (a b c : Bool) → (if a then Some column.Area else if b then Some column.Condition else if c then Some column.Suppress else None) ≡ None → (a ≡ false) × (b ≡ false) × (c ≡ false)
three true b c e = absurd (cc e)
three false true c e = absurd (cc e)
three false false true e = absurd (cc e)
three false false false e = (refl, refl, refl)

known : (areas : List (List ℕ)) (globals : List Variable) (row : DatabaseRow) → unknown_column areas globals row ≡ None → Known areas globals row
known areas globals row e =
    let parts = three (is_none (area_number areas row.area)) (is_none (bool_number globals row.condition)) (is_unknown globals row.suppress) e in
    record { area = parts.0; condition = parts.1; suppress = parts.2 }

-- the alarm of a known row is an alarm of the plant
row_is : (plant : PlainPlant) (row : DatabaseRow) → IsDatabaseRow row → Known plant.areas plant.source.globals row → IsAlarmRow plant (alarm_of plant.areas plant.source.globals row)
row_is plant row is k = record {
  area = known_area (length plant.areas) (area_number plant.areas row.area) (λ n e. place_within (bytes_eq row.area) plant.areas n e) k.area;
  lowest = is.highest;
  highest = is.lowest;
  condition = known_bool plant.source.globals (bool_number plant.source.globals row.condition) (λ n e. bool_of plant.source.globals (find_global plant.source.globals row.condition) n e) k.condition;
  suppress = known_suppress plant.source.globals row.suppress k.suppress;
  shelve = is.shelve;
  delay = is.delay;
}

first_none : (n : ℕ) (o : Option Column) (rest : Option (ℕ × Column)) → option_or (option_map (λ c. (n, c)) o) rest ≡ None → (o ≡ None) × (rest ≡ None)
first_none n None rest e = (refl, e)
first_none n (Some c) rest e = absurd (cc e)

pub rows_are : (plant : PlainPlant) (n : ℕ) (rows : List DatabaseRow) → All IsDatabaseRow rows → first_unknown plant.areas plant.source.globals n rows ≡ None → All (IsAlarmRow plant) (alarms_of plant.areas plant.source.globals rows)
rows_are plant n [] all e = All-nil (IsAlarmRow plant)
rows_are plant n (row ∷ rows) all e =
    let parts = first_none n (unknown_column plant.areas plant.source.globals row) (first_unknown plant.areas plant.source.globals (n + 1) rows) e in
    All-cons (IsAlarmRow plant) (alarm_of plant.areas plant.source.globals row) (alarms_of plant.areas plant.source.globals rows)
    (row_is plant row (All-head IsDatabaseRow row rows all) (known plant.areas plant.source.globals row parts.0))
    (rows_are plant (n + 1) rows (All-tail IsDatabaseRow row rows all) parts.1)

-- their tags are those of the rows
pub same_tags : (areas : List (List ℕ)) (globals : List Variable) (rows : List DatabaseRow) → tags_of (alarms_of areas globals rows) ≡ database_tags rows
same_tags areas globals [] = refl
same_tags areas globals (row ∷ rows) = rw (same_tags areas globals rows) refl

pub same_length : (areas : List (List ℕ)) (globals : List Variable) (rows : List DatabaseRow) → length (alarms_of areas globals rows) ≡ length rows
same_length areas globals rows = length-map rows (alarm_of areas globals)

-- the tag of an alarm is that of its row
tag_at : (areas : List (List ℕ)) (globals : List Variable) (rows : List DatabaseRow) (i : ℕ) (d : AlarmRow) (e : DatabaseRow) → i < length rows → (slice_index_or (alarms_of areas globals rows) i d).tag ≡ (slice_index_or rows i e).tag
tag_at areas globals [] i d e within = absurd (omega (arith, within))
tag_at areas globals (row ∷ rows) zero d e within = refl
tag_at areas globals (row ∷ rows) (suc i) d e within = tag_at areas globals rows i d e (omega (arith, within))

-- no two have one tag
pub different_tags : (areas : List (List ℕ)) (globals : List Variable) (rows : List DatabaseRow) → AllPairs (λ (a : DatabaseRow) (b : DatabaseRow). a.tag ≢ b.tag) rows → AllPairs HaveDifferentTags (alarms_of areas globals rows)
different_tags areas globals [] all i j d less within = absurd (omega (arith, within))
different_tags areas globals (row ∷ rows) all i j d less within =
    let count = same_length areas globals (row ∷ rows) in
    let second : j < length (row ∷ rows) = omega (arith, within, count) in
    let first : i < length (row ∷ rows) = omega (arith, less, second) in
    λ same. all i j row less second (sym (tag_at areas globals (row ∷ rows) i d row first) ∙ (same ∙ tag_at areas globals (row ∷ rows) j d row second))
