-- A plant file that was read keeps to the rules.
use Rattle.std.proofs.Common.{◌≡◌, ◌∙◌, ap, sym, refl, ℕ, ◌<◌, ◌≤◌, ℤ, pos, negsuc, nat_le, Bool, true, false, not, ◌&&◌, List, [], ◌∷◌, length, inl, inr, Option, Some, None, All, arith, codes}
use Rattle.std.specs.Prelude.{if◌then◌else◌}
use Rattle.std.proofs.lemmas.Bool.{and_parts, both_ways, cases_Bool, or_cases, or_left, or_parts, or_right}
use Rattle.std.proofs.lemmas.Bool.Decides.{nat_tests}
use Rattle.std.proofs.lemmas.List.Elements.{All-nil, All-cons}
use Rattle.std.proofs.lemmas.List.Quantifiers.{position-Some}
use Rattle.std.proofs.lemmas.Option.{same_Some}
use Rattle.std.specs.Cmp.Lexicographic.{bytes_decides}
use Rattle.std.specs.Prelude.{nat_eq, nat_lt}
use Rattle.std.specs.List.{list_all, list_any, position, position_or_len}
use Rattle.std.specs.Str.{bytes_eq}
use Rattle.toml.specs.Data.{Items, no_items, item, Members, as_table}
use Rattle.plant_types.specs.Options.{◌>>=◌}
use Rattle.plant_file.specs.Lists.{passing, repeats}
use Rattle.plant_types.specs.Words.{is_tag, is_sized}
use Rattle.plant_file.specs.PlantFiles.{PlainPlantFile, IsPlantFile, IsConsole, list_at, text_at, texts, texts_at, number_in, integer_at, has_key, has_only, name_in, areas_in, sources_in, alarms_in, numbers_of, console_number, console_of, consoles_of, consoles_in, numbers_clash}
use Rattle.plant_file.specs.declared.console.ListedConsole.{ListedConsole}

-- where something came of a value, there was one
bound : {A B : Type 0} (o : Option A) (f : A → Option B) (y : B) → (o >>= f) ≡ Some y → (x : A) × (o ≡ Some x) × (f x ≡ Some y)
bound None f y e = absurd (cc e)
bound (Some x) f y e = (x, refl, e)

-- a value that passed a test
passed : {A : Type 0} (p : A → Bool) (x y : A) → passing p x ≡ Some y → (x ≡ y) × (p y ≡ true)
passed p x y e =
    elim (cases_Bool (p x)) [
      | inl so ↦ let same : x ≡ y = same_Some _ _ (rw so at e) in (same, ap p (sym same) ∙ so)
      | inr not_so ↦ let none : None ≡ Some y = rw not_so at e in absurd (cc none)
    ]

-- the value was there before, and passes
passing_of : {A : Type 0} (p : A → Bool) (o : Option A) (y : A) → (o >>= passing p) ≡ Some y → (o ≡ Some y) × (p y ≡ true)
passing_of p o y e =
    let (x, is, f) = bound o (passing p) y e in
    let (same, so) = passed p x y f in
    (is ∙ ap (λ z. Some z) same, so)

chosen : {A : Type 0} (b : Bool) (o : Option A) (y : A) → (if b then o else None) ≡ Some y → o ≡ Some y
chosen true o y e = e
chosen false o y e = absurd (cc e)

not_true : (b : Bool) → not b ≡ true → b ≡ false
not_true true e = absurd (cc e)
not_true false e = refl

-- a list of texts has none of them twice
pub once_in : (key : List ℕ) (members : Members) (all : List (List ℕ)) → texts_at key members ≡ Some all → repeats bytes_eq all ≡ false
once_in key members all e = not_true (repeats bytes_eq all) ((passing_of (λ ts. not (repeats bytes_eq ts)) (list_at key members >>= texts) all e).1)

place_within : (p : List ℕ → Bool) (xs : List (List ℕ)) (i : ℕ) → position p xs ≡ Some i → i < length xs
place_within p xs i e =
    elim (cases_Bool (nat_lt (position_or_len p xs) (length xs))) [
      | inl so ↦ let same : position_or_len p xs ≡ i = same_Some _ _ (rw so at e) in rw (← same) (grind (arith, nat_tests, so))
      | inr not_so ↦ let none : None ≡ Some i = rw not_so at e in absurd (cc none)
    ]

-- the numbers of names are those of items of the list
numbers_within : (areas names : List (List ℕ)) (numbers : List ℕ) → numbers_of areas names ≡ Some numbers → All (λ n. n < length areas) numbers
numbers_within areas [] numbers e = let same : [] ≡ numbers = same_Some _ _ e in rw (← same) (All-nil (λ n. n < length areas))
numbers_within areas (name ∷ names) numbers e =
    let (n, is, f) = bound (position (bytes_eq name) areas) (λ number. numbers_of areas names >>= (λ more. Some (number ∷ more))) numbers e in
    let (more, are, g) = bound (numbers_of areas names) (λ more. Some (n ∷ more)) numbers f in
    let same : n ∷ more ≡ numbers = same_Some _ _ g in
    rw (← same) (All-cons (λ n. n < length areas) n more (place_within (bytes_eq name) areas n is) (numbers_within areas names more are))

-- two texts with one place are one
same_place : (areas : List (List ℕ)) (a b : List ℕ) (n : ℕ) → position (bytes_eq a) areas ≡ Some n → position (bytes_eq b) areas ≡ Some n → a ≡ b
same_place areas a b n e f =
    let first = (position-Some (bytes_eq a) areas n [] e).1 in
    let second = (position-Some (bytes_eq b) areas n [] f).1 in
    (bytes_decides a _).0 first ∙ sym ((bytes_decides b _).0 second)

-- where a name's number is among those of other names, the name is among them
place_among : (areas names : List (List ℕ)) (numbers : List ℕ) (name : List ℕ) (n : ℕ) → numbers_of areas names ≡ Some numbers → position (bytes_eq name) areas ≡ Some n → list_any (nat_eq n) numbers ≡ true → list_any (bytes_eq name) names ≡ true
place_among areas [] numbers name n e is among = let same : [] ≡ numbers = same_Some _ _ e in let none : list_any (nat_eq n) [] ≡ true = ap (list_any (nat_eq n)) same ∙ among in absurd (cc none)
place_among areas (other ∷ names) numbers name n e is among =
    let (m, there, f) = bound (position (bytes_eq other) areas) (λ number. numbers_of areas names >>= (λ more. Some (number ∷ more))) numbers e in
    let (more, are, g) = bound (numbers_of areas names) (λ more. Some (m ∷ more)) numbers f in
    let same : m ∷ more ≡ numbers = same_Some _ _ g in
    let among' : list_any (nat_eq n) (m ∷ more) ≡ true = ap (list_any (nat_eq n)) same ∙ among in
    elim (or_cases (nat_eq n m) (list_any (nat_eq n) more) among') [
      | inl here ↦
          let one : m ≡ n = grind (arith, nat_tests, here) in
          let known : position (bytes_eq other) areas ≡ Some n = there ∙ ap (λ k. Some k) one in
          or_left (bytes_eq name other) (list_any (bytes_eq name) names) ((bytes_decides name other).1 (same_place areas name other n is known))
      | inr later ↦ or_right (bytes_eq name other) (list_any (bytes_eq name) names) (place_among areas names more name n are is later)
    ]

-- names that differ have numbers that differ
numbers_once : (areas names : List (List ℕ)) (numbers : List ℕ) → numbers_of areas names ≡ Some numbers → repeats bytes_eq names ≡ false → repeats nat_eq numbers ≡ false
numbers_once areas [] numbers e once = let same : [] ≡ numbers = same_Some _ _ e in rw (← same) refl
numbers_once areas (name ∷ names) numbers e once =
    let (n, is, f) = bound (position (bytes_eq name) areas) (λ number. numbers_of areas names >>= (λ more. Some (number ∷ more))) numbers e in
    let (more, are, g) = bound (numbers_of areas names) (λ more. Some (n ∷ more)) numbers f in
    let same : n ∷ more ≡ numbers = same_Some _ _ g in
    let (alone, others) = or_parts (list_any (bytes_eq name) names) (repeats bytes_eq names) once in
    let rest : repeats nat_eq more ≡ false = numbers_once areas names more are others in
    let apart : list_any (nat_eq n) more ≡ false = elim (cases_Bool (list_any (nat_eq n) more)) [
      | inl among ↦ absurd (both_ways (list_any (bytes_eq name) names) alone (place_among areas names more name n are is among))
      | inr not_among ↦ not_among
    ] in
    rw (← same) (rw (apart, rest) refl)

number_within : (z : ℤ) (n : ℕ) → console_number z ≡ Some n → (1 ≤ n) × (n ≤ 999999999)
number_within (pos m) n e =
    let (same, so) = passed (λ number. nat_le 1 number && nat_le number 999999999) m n e in
    let (low, high) = and_parts (nat_le 1 n) (nat_le n 999999999) so in
    (grind (arith, nat_tests, low), grind (arith, nat_tests, high))
number_within (negsuc m) n e = absurd (cc e)

console_right : (areas : List (List ℕ)) (members : Members) (console : ListedConsole) → console_of areas members ≡ Some console → IsConsole areas console
console_right areas members console e =
    let f = chosen (has_only (codes "number" ∷ codes "areas" ∷ []) members) (number_in members >>= (λ number. texts_at (codes "areas") members >>= numbers_of areas >>= (λ its. Some (record { number = number; areas = its })))) console e in
    let (number, is, g) = bound (number_in members) (λ number. texts_at (codes "areas") members >>= numbers_of areas >>= (λ its. Some (record { number = number; areas = its }))) console f in
    let (its, are, h) = bound (texts_at (codes "areas") members >>= numbers_of areas) (λ its. Some (record { number = number; areas = its })) console g in
    let (z, _, known) = bound (integer_at (codes "number") members) console_number number is in
    let (names, named, within) = bound (texts_at (codes "areas") members) (numbers_of areas) its are in
    let same = same_Some _ _ h in
    let (low, high) = number_within z number known in
    rw (← same) (record { lowest = low; highest = high; areas = numbers_within areas names its within; areas_once = numbers_once areas names its within (once_in (codes "areas") members names named) })

consoles_right : (areas : List (List ℕ)) (items : Items) (consoles : List ListedConsole) → consoles_of areas items ≡ Some consoles → All (IsConsole areas) consoles
consoles_right areas no_items consoles e = let same : [] ≡ consoles = same_Some _ _ e in rw (← same) (All-nil (IsConsole areas))
consoles_right areas (item value items) consoles e =
    let (console, is, f) = bound (as_table value >>= console_of areas) (λ console. consoles_of areas items >>= (λ more. Some (console ∷ more))) consoles e in
    let (more, are, g) = bound (consoles_of areas items) (λ more. Some (console ∷ more)) consoles f in
    let (members, _, known) = bound (as_table value) (console_of areas) console is in
    let same : console ∷ more ≡ consoles = same_Some _ _ g in
    rw (← same) (All-cons (IsConsole areas) console more (console_right areas members console known) (consoles_right areas items more are))

listed_right : (members : Members) (areas : List (List ℕ)) (consoles : List ListedConsole) → consoles_in areas members ≡ Some consoles → All (IsConsole areas) consoles × (numbers_clash consoles ≡ false)
listed_right members areas consoles e =
    elim (cases_Bool (has_key (codes "console") members)) [
      | inl there ↦
          let listed : (list_at (codes "console") members >>= consoles_of areas >>= passing (λ (cs : List ListedConsole). not (numbers_clash cs))) ≡ Some consoles = rw there at e in
          let (are, fit) = passing_of (λ (cs : List ListedConsole). not (numbers_clash cs)) (list_at (codes "console") members >>= consoles_of areas) consoles listed in
          let (items, _, known) = bound (list_at (codes "console") members) (consoles_of areas) consoles are in
          (consoles_right areas items consoles known, not_true (numbers_clash consoles) fit)
      | inr missing ↦
          let none : Some [] ≡ Some consoles = rw missing at e in
          let same : [] ≡ consoles = same_Some _ _ none in
          rw (← same) (All-nil (IsConsole areas), refl)
    ]

-- parts that were read under the keys make a plant file
pub right : (members : Members) (file : PlainPlantFile) → name_in members ≡ Some file.name → areas_in members ≡ Some file.areas → sources_in members ≡ Some file.sources → alarms_in members ≡ Some file.alarms → consoles_in file.areas members ≡ Some file.consoles → IsPlantFile file
right members file name areas sources alarms consoles =
    let (areas_are, areas_fit) = passing_of (list_all is_tag) (texts_at (codes "areas") members) file.areas areas in
    let (sources_are, sources_fit) = passing_of (list_all (is_sized 1 255)) (texts_at (codes "sources") members) file.sources sources in
    let (each, once) = listed_right members file.areas file.consoles consoles in
    record {
      name = (passing_of (is_sized 1 64) (text_at (codes "name") members) file.name name).1;
      areas = areas_fit;
      areas_once = once_in (codes "areas") members file.areas areas_are;
      sources = sources_fit;
      sources_once = once_in (codes "sources") members file.sources sources_are;
      alarms = (passing_of (is_sized 1 255) (text_at (codes "alarms") members) file.alarms alarms).1;
      consoles = each;
      consoles_once = once;
    }
