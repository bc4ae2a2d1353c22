-- The fields of a row that has no wrong column.
use Rattle.std.proofs.Common.{◌≡◌, ◌≤◌, ◌+◌, ◌∷◌, ◌&&◌, ◌||◌, refl, arith, ℕ, zero, suc, Bool, true, false, List, [], map, Option, Some, None, cond}
use Rattle.std.specs.Prelude.{not, nat_le, IfSome, All}
use Rattle.std.specs.Option.{option_map, option_or}
use Rattle.std.specs.Str.Parse.{digits_value}
use Rattle.std.proofs.lemmas.Bool.Decides.{nat_tests}
use Rattle.plant_types.specs.Words.{is_name}
use Rattle.alarm_db.specs.declared.column.Column.{Column}
use Rattle.alarm_db.specs.declared.column.Column.TheVariants as column
use Rattle.alarm_db.specs.declared.column.Version.{Version}
use Rattle.alarm_db.specs.declared.column.Version.TheVariants as version
use Rattle.alarm_db.specs.declared.fault.DbFault.{DbFault}
use Rattle.alarm_db.specs.declared.fault.DbFault.TheVariants as fault
use Rattle.alarm_db.specs.Columns.{field_of}
use Rattle.alarm_db.specs.Forms.{has_form, has_digits, is_delay, is_empty, is_priority, is_shelve_time}
use Rattle.alarm_db.specs.Rows.{wrong_column, word_of, row_of, IsDatabaseRow}
use Rattle.alarm_db.specs.Databases.{first_wrong}
use Rattle.alarm_db.proofs.TextLaws.{and_left, and_right}

-- each field has its column's form
pub record AreFormed (v : Version) (fields : List (List ℕ)) : Type 0 where
  pub tag : has_form column.Tag (field_of v fields column.Tag) ≡ true
  pub area : has_form column.Area (field_of v fields column.Area) ≡ true
  pub priority : has_form column.Priority (field_of v fields column.Priority) ≡ true
  pub condition : has_form column.Condition (field_of v fields column.Condition) ≡ true
  pub suppress : has_form column.Suppress (field_of v fields column.Suppress) ≡ true
  pub latch : has_form column.Latch (field_of v fields column.Latch) ≡ true
  pub shelve : has_form column.MaxShelveMs (field_of v fields column.MaxShelveMs) ≡ true
  pub delay : (is_empty (field_of v fields column.OnDelayMs) || is_delay (field_of v fields column.OnDelayMs)) ≡ true
  pub text : has_form column.Text (field_of v fields column.Text) ≡ true

step : {C : Type 0} (b : Bool) (c : C) (rest : Option C) → cond (not b) (Some c) rest ≡ None → (b ≡ true) × (rest ≡ None)
step true c rest h = (refl, h)
step false c rest h = absurd (cc h)

or_right : (a b : Bool) → b ≡ true → (a || b) ≡ true
or_right true b h = refl
or_right false b h = h

pub formed : (v : Version) (fields : List (List ℕ)) → wrong_column v fields ≡ None → AreFormed v fields
unfolding wrong_column
formed version.First fields h =
    let f = λ (c : Column). has_form c (field_of version.First fields c) in
    let tag = step (f column.Tag) column.Tag _ h in
    let area = step (f column.Area) column.Area _ tag.1 in
    let priority = step (f column.Priority) column.Priority _ area.1 in
    let condition = step (f column.Condition) column.Condition _ priority.1 in
    let suppress = step (f column.Suppress) column.Suppress _ condition.1 in
    let latch = step (f column.Latch) column.Latch _ suppress.1 in
    let shelve = step (f column.MaxShelveMs) column.MaxShelveMs _ latch.1 in
    let text = step (f column.Text) column.Text _ shelve.1 in
    record { tag = tag.0; area = area.0; priority = priority.0; condition = condition.0; suppress = suppress.0; latch = latch.0; shelve = shelve.0; delay = refl; text = text.0 }
formed version.Second fields h =
    let f = λ (c : Column). has_form c (field_of version.Second fields c) in
    let tag = step (f column.Tag) column.Tag _ h in
    let area = step (f column.Area) column.Area _ tag.1 in
    let priority = step (f column.Priority) column.Priority _ area.1 in
    let condition = step (f column.Condition) column.Condition _ priority.1 in
    let suppress = step (f column.Suppress) column.Suppress _ condition.1 in
    let latch = step (f column.Latch) column.Latch _ suppress.1 in
    let shelve = step (f column.MaxShelveMs) column.MaxShelveMs _ latch.1 in
    let delay = step (f column.OnDelayMs) column.OnDelayMs _ shelve.1 in
    let text = step (f column.Text) column.Text _ delay.1 in
    record { tag = tag.0; area = area.0; priority = priority.0; condition = condition.0; suppress = suppress.0; latch = latch.0; shelve = shelve.0; delay = or_right _ _ delay.0; text = text.0 }

pub shelve_digits : (field : List ℕ) → is_shelve_time field ≡ true → has_digits 10 field ≡ true
shelve_digits field h = and_left (has_digits 10 field) (nat_le (digits_value 10 field) 2592000000) h

pub shelve_most : (field : List ℕ) → is_shelve_time field ≡ true → digits_value 10 field ≤ 2592000000
shelve_most field h = let k = and_right (has_digits 10 field) (nat_le (digits_value 10 field) 2592000000) h in grind (arith, nat_tests)

priority_low : (field : List ℕ) → is_priority field ≡ true → (has_digits 1 field && nat_le 1 (digits_value 10 field)) ≡ true
priority_low field h = and_left (has_digits 1 field && nat_le 1 (digits_value 10 field)) (nat_le (digits_value 10 field) 4) h

pub priority_least : (field : List ℕ) → is_priority field ≡ true → 1 ≤ digits_value 10 field
priority_least field h = let k = and_right (has_digits 1 field) (nat_le 1 (digits_value 10 field)) (priority_low field h) in grind (arith, nat_tests)

pub priority_most : (field : List ℕ) → is_priority field ≡ true → digits_value 10 field ≤ 4
priority_most field h =
    let k = and_right (has_digits 1 field && nat_le 1 (digits_value 10 field)) (nat_le (digits_value 10 field) 4) h in
    grind (arith, nat_tests)

more_digits : (most : ℕ) (field : List ℕ) → 1 ≤ most → (most ≤ 10) → has_digits most field ≡ true → has_digits 10 field ≡ true
more_digits most field a b h = grind (arith, nat_tests)

pub priority_digits : (field : List ℕ) → is_priority field ≡ true → has_digits 10 field ≡ true
priority_digits field h = more_digits 1 field (omega arith) (omega arith) (and_left (has_digits 1 field) (nat_le 1 (digits_value 10 field)) (priority_low field h))

word_named : (field : List ℕ) → (is_empty field || is_name field) ≡ true → IfSome (word_of field) (λ word. is_name word ≡ true)
word_named [] h = tt
word_named (b ∷ bs) h = h

-- a delay is at most a day, and one of no digits is 0
pub delay_most : (field : List ℕ) → (is_empty field || is_delay field) ≡ true → digits_value 10 field ≤ 86400000
delay_most [] h = omega arith
delay_most (b ∷ bs) h = let k = and_right (has_digits 10 (b ∷ bs)) (nat_le (digits_value 10 (b ∷ bs)) 86400000) h in grind (arith, nat_tests)

-- the row of such fields
pub row_formed : (v : Version) (fields : List (List ℕ)) → AreFormed v fields → IsDatabaseRow (row_of v fields)
row_formed v fields h = record {
  tag = h.tag;
  area = h.area;
  highest = priority_least (field_of v fields column.Priority) h.priority;
  lowest = priority_most (field_of v fields column.Priority) h.priority;
  condition = h.condition;
  suppress = word_named (field_of v fields column.Suppress) h.suppress;
  shelve = shelve_most (field_of v fields column.MaxShelveMs) h.shelve;
  delay = delay_most (field_of v fields column.OnDelayMs) h.delay;
  text = h.text;
}

go_on : (n : ℕ) (o : Option Column) (rest : Option DbFault) → option_or (option_map (λ c. fault.Field n c) o) rest ≡ None → (o ≡ None) × (rest ≡ None)
go_on n None rest h = (refl, h)
go_on n (Some c) rest h = absurd (cc h)

-- the rows of records none of which has a wrong column
pub rows_formed : (v : Version) (n : ℕ) (all : List (List (List ℕ))) → first_wrong v n all ≡ None → All IsDatabaseRow (map (row_of v) all)
rows_formed v n [] h k d lt = absurd (omega arith)
rows_formed v n (fields ∷ rest) h zero d lt = row_formed v fields (formed v fields (go_on n (wrong_column v fields) (first_wrong v (n + 1) rest) h).0)
rows_formed v n (fields ∷ rest) h (suc k) d lt = rows_formed v (n + 1) rest (go_on n (wrong_column v fields) (first_wrong v (n + 1) rest) h).1 k d (omega arith)
