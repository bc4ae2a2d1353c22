-- Sources that are read each by itself: what comes of them all.
use Rattle.std.proofs.Common.{◌≡◌, ◌∙◌, ap, ℕ, zero, suc, ◌+◌, List, [], ◌∷◌, ◌++◌, Some, Result, Ok, Err, map, length, take, drop, refl, sym, subst, arith}
use Rattle.std.specs.Prelude.{slice_get, slice_index_or}
use Rattle.std.specs.List.{AllZip, range_with_len}
use Rattle.std.proofs.lemmas.Grind.{common_steps}
use Rattle.st_parser.specs.declared.unit.Unit.{Unit as Tree}
use Rattle.st_parser.specs.Units.{view_unit}
use Rattle.st_sources.specs.declared.fault.SourceFault.{SourceFault}
use Rattle.st_sources.specs.Sources.{HaveUnits, IsTextFault, IsSourceFault}
use Rattle.st_sources.specs.Readings.{IsReading, IsReadingAt, AreReadings}
use Rattle.st_sources.proofs.Spelled.{first_stops}

-- the first of what is left of a list, and what is left after it
left_at : {A : Type 0} (xs : List A) (n : ℕ) (other x : A) (rest : List A) → drop n xs ≡ x ∷ rest → (slice_index_or xs n other ≡ x) × (drop (suc n) xs ≡ rest)
left_at [] zero other x rest e = absurd cc
left_at [] (suc n) other x rest e = absurd cc
left_at (y ∷ xs) zero other x rest e = (cc, cc)
left_at (y ∷ xs) (suc n) other x rest e = left_at xs n other x rest e

-- sources that are read each by its number are read in order
in_order : (all : List (List ℕ)) (number : ℕ) (texts : List (List ℕ)) (readings : List (Result Tree SourceFault)) → drop number all ≡ texts
    → AllZip (λ n r. IsReadingAt n all r) (range_with_len number (length texts)) readings → AreReadings number texts readings
in_order all number [] [] left each = tt
in_order all number [] (r ∷ readings) left each = absurd each
in_order all number (t ∷ texts) [] left each = absurd each
in_order all number (t ∷ texts) (r ∷ readings) left each =
    let at = left_at all number [] t texts left in
    let next : number + 1 ≡ suc number = omega arith in
    (subst (λ text. IsReading number text r) at.0 each.0, in_order all (number + 1) texts readings (rw next at.1) each.1)

-- the same, from the first on
pub each_read : (texts : List (List ℕ)) (count : ℕ) (readings : List (Result Tree SourceFault)) → count ≡ length texts → AllZip (λ n r. IsReadingAt n texts r) (range_with_len 0 count) readings → AreReadings 0 texts readings
each_read texts count readings many each = in_order texts 0 texts readings refl (subst (λ n. AllZip (λ k r. IsReadingAt k texts r) (range_with_len 0 n) readings) many each)

-- where none has a fault, each has a unit
all_units : (number : ℕ) (texts : List (List ℕ)) (units : List Tree) → AreReadings number texts (map Ok units) → HaveUnits texts (map view_unit units)
all_units number [] [] h = tt
all_units number [] (u ∷ units) h = absurd h
all_units number (t ∷ texts) [] h = absurd h
all_units number (t ∷ texts) (u ∷ units) h = (h.0, all_units (number + 1) texts units h.1)

-- a text without a unit, after texts that have these units
record Stop (number : ℕ) (texts : List (List ℕ)) (units : List Tree) (f : SourceFault) : Type 0 where
  text : List ℕ
  before : HaveUnits (take (length units) texts) (map view_unit units)
  text_is : slice_get texts (length units) ≡ Some text
  is_fault : IsTextFault (number + length units) text f

stop : (number : ℕ) (texts : List (List ℕ)) (units : List Tree) (f : SourceFault) (rest : List (Result Tree SourceFault)) → AreReadings number texts (map Ok units ++ Err f ∷ rest) → Stop number texts units f
stop number [] [] f rest h = absurd h
stop number [] (u ∷ units) f rest h = absurd h
stop number (t ∷ texts) [] f rest h = let same : number ≡ number + 0 = omega arith in record { text = t; before = tt; text_is = refl; is_fault = subst (λ n. IsTextFault n t f) same h.0 }
stop number (t ∷ texts) (u ∷ units) f rest h =
    let later = stop (number + 1) texts units f rest h.1 in
    let same : number + 1 + length units ≡ number + suc (length units) = omega arith in
    record { text = later.text; before = (h.0, later.before); text_is = later.text_is; is_fault = subst (λ n. IsTextFault n later.text f) same later.is_fault }

-- all have a unit, where none is left and none had a fault
pub units_read : (units : List Tree) (rest readings : List (Result Tree SourceFault)) → map Ok units ++ rest ≡ readings → rest ≡ [] → (texts : List (List ℕ)) → AreReadings 0 texts readings → HaveUnits texts (map view_unit units)
units_read units rest readings whole none texts h =
    let same : readings ≡ map Ok units = grind (arith, common_steps) in
    all_units 0 texts units (subst (AreReadings 0 texts) same h)

-- the first that has a fault is answered
pub fault_read : (units : List Tree) (f : SourceFault) (rest left readings : List (Result Tree SourceFault)) → map Ok units ++ left ≡ readings → left ≡ Err f ∷ rest → (texts : List (List ℕ)) → AreReadings 0 texts readings → IsSourceFault texts f
fault_read units f rest left readings whole next texts h =
    let same : readings ≡ map Ok units ++ Err f ∷ rest = grind (arith, common_steps) in
    let found = stop 0 texts units f rest (subst (AreReadings 0 texts) same h) in
    let none : 0 + length units ≡ length units = omega arith in
    first_stops texts (length units) found.text (map view_unit units) f found.before found.text_is (subst (λ n. IsTextFault n found.text f) none found.is_fault)

-- before the first is taken, all are left
pub none_taken : (units : List Tree) (left readings : List (Result Tree SourceFault)) → units ≡ [] → left ≡ readings → map Ok units ++ left ≡ readings
none_taken units left readings none all = ap (λ us. map Ok us ++ left) none ∙ all

-- the last unit stands before what is left
taken_last : (units : List Tree) (unit : Tree) (left : List (Result Tree SourceFault)) → map Ok (units ++ unit ∷ []) ++ left ≡ map Ok units ++ Ok unit ∷ left
taken_last [] unit left = refl
taken_last (u ∷ units) unit left = ap (λ rs. Ok u ∷ rs) (taken_last units unit left)

-- one more unit is taken
pub one_taken : (units more : List Tree) (unit : Tree) (reading : Result Tree SourceFault) (left next readings : List (Result Tree SourceFault)) → map Ok units ++ left ≡ readings → left ≡ reading ∷ next → reading ≡ Ok unit → more ≡ units ++ unit ∷ [] → map Ok more ++ next ≡ readings
one_taken units more unit reading left next readings whole first is longer =
    ap (λ us. map Ok us ++ next) longer ∙ taken_last units unit next ∙ ap (λ r. map Ok units ++ r ∷ next) (sym is) ∙ ap (λ rs. map Ok units ++ rs) (sym first) ∙ whole
