-- In a plant two alarms have different tags, so a tag tells which alarm it is.
use Rattle.std.proofs.Common.{◌≡◌, ◌∙◌, ℕ, zero, suc, ◌<◌, Bool, true, false, true≢false, List, [], ◌∷◌, length, inl, inr, ap, sym, refl, eqb, cond, map, get_or, Option, Some, None, arith}
use Rattle.std.specs.Prelude.{slice_get, slice_index_or, nat_lt}
use Rattle.std.specs.Option.{option_map_or}
use Rattle.std.specs.List.{position_or_len}
use Rattle.std.specs.Str.{bytes_eq}
use Rattle.std.proofs.lemmas.Bool.{cases_order, eqb-true, eq-eqb, lt-ltb}
use Rattle.std.proofs.lemmas.Bool.Decides.{nat_tests}
use Rattle.std.proofs.lemmas.List.{length-map}
use Rattle.std.proofs.lemmas.List.Sums.{position_or_len_is}
use Rattle.std.proofs.lemmas.Slice.Eq.{bytes_eq-Decides}
use Rattle.std.proofs.lemmas.Option.{get_or_from_slice_get}
use Rattle.plant_config.specs.declared.rows.AlarmRow.{AlarmRow}
use Rattle.plant_config.specs.Plants.{PlainPlant, IsPlant, tags_of}
use Rattle.plant_config.specs.Names.{alarm_number, tag_of}

-- tags of alarms that are there are the same just where their numbers are
abbrev pub AreApart : PlainPlant → Type 0
AreApart plant = (i j : ℕ) → i < length plant.alarms → j < length plant.alarms → bytes_eq (tag_of plant i) (tag_of plant j) ≡ eqb i j

-- the row of an alarm that is there
row_there : (rows : List AlarmRow) (i : ℕ) → i < length rows → (row : AlarmRow) × (slice_get rows i ≡ Some row)
row_there [] i h = absurd (omega (arith, h))
row_there (row ∷ rows) zero h = (row, refl)
row_there (row ∷ rows) (suc i) h = row_there rows i (omega (arith, h))

tag_there : (plant : PlainPlant) (i : ℕ) (row d : AlarmRow) → slice_get plant.alarms i ≡ Some row → tag_of plant i ≡ (slice_index_or plant.alarms i d).tag
tag_there plant i row d at =
    ap (λ (o : Option AlarmRow). option_map_or (λ r. r.tag) o []) at ∙ ap (λ (r : AlarmRow). r.tag) (sym (get_or_from_slice_get plant.alarms i row d at))

-- of two alarms, the one listed before the other
before_apart : (plant : PlainPlant) (i j : ℕ) → IsPlant plant → i < j → j < length plant.alarms → tag_of plant i ≡ tag_of plant j → ⊥
before_apart plant i j is before within same =
    let p = row_there plant.alarms i (omega (arith, before, within)) in
    let q = row_there plant.alarms j within in
    is.tags i j p.0 before within (sym (tag_there plant i p.0 p.0 p.1) ∙ same ∙ tag_there plant j q.0 p.0 q.1)

not_same : (a b : List ℕ) (v : Bool) → bytes_eq a b ≡ v → (a ≡ b → ⊥) → v ≡ false
not_same a b true is other = absurd (other ((bytes_eq-Decides a b).0 is))
not_same a b false is other = refl

apart_by : (plant : PlainPlant) (i j : ℕ) (v : Bool) → IsPlant plant → eqb i j ≡ v → i < length plant.alarms → j < length plant.alarms → bytes_eq (tag_of plant i) (tag_of plant j) ≡ v
apart_by plant i j true is e h k = (bytes_eq-Decides (tag_of plant i) (tag_of plant j)).1 (ap (tag_of plant) (eqb-true i j e))
apart_by plant i j false is e h k =
    not_same (tag_of plant i) (tag_of plant j) (bytes_eq (tag_of plant i) (tag_of plant j)) refl
    (λ same. elim (cases_order i j) [
      | inl equal ↦ absurd (true≢false (sym (eq-eqb i j equal) ∙ e))
      | inr (inl before) ↦ before_apart plant i j is before k same
      | inr (inr after) ↦ before_apart plant j i is after h (sym same)
    ])

pub tags_apart : (plant : PlainPlant) → IsPlant plant → AreApart plant
tags_apart plant is i j h k = apart_by plant i j (eqb i j) is refl h k

-- the number of a tag is that of its alarm
tags_at : (rows : List AlarmRow) (i : ℕ) → get_or (map (λ (row : AlarmRow). row.tag) rows) i [] ≡ option_map_or (λ (row : AlarmRow). row.tag) (slice_get rows i) []
tags_at [] zero = refl
tags_at [] (suc i) = refl
tags_at (row ∷ rows) zero = refl
tags_at (row ∷ rows) (suc i) = tags_at rows i

pub number_of_tag : (plant : PlainPlant) (n : ℕ) → AreApart plant → n < length plant.alarms → alarm_number plant (tag_of plant n) ≡ Some n
number_of_tag plant n apart there =
    let tag = tag_of plant n in
    let tags = tags_of plant.alarms in
    let many : length tags ≡ length plant.alarms = length-map plant.alarms (λ (row : AlarmRow). row.tag) in
    let test : (k : ℕ) → k < length plant.alarms → bytes_eq tag (get_or tags k []) ≡ eqb n k = λ k h. ap (bytes_eq tag) (tags_at plant.alarms k) ∙ apart n k there h in
    let first : position_or_len (bytes_eq tag) tags ≡ n =
    position_or_len_is (bytes_eq tag) tags n [] (omega (arith, many, there)) (λ k h. test k (omega (arith, h, there)) ∙ other n k h) (λ h. test n there ∙ eq-eqb n n refl) in
    let found : Bool → ℕ → Option ℕ = λ v k. cond v (Some k) None in
    ap (λ (k : ℕ). found (nat_lt k (length tags)) k) first ∙ ap (λ (v : Bool). found v n) (lt-ltb n (length tags) (omega (arith, many, there)))
  where
    other : (n k : ℕ) → k < n → eqb n k ≡ false
    other n k h = grind (arith, nat_tests)
