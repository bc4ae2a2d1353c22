-- What the lists of the consoles that have an area say.
use Rattle.std.proofs.Common.{◌≡◌, ◌+◌, ◌<◌, ◌≤◌, ℕ, suc, Bool, true, false, cond, List, [], ◌∷◌, ◌++◌, length, get_or, drop, drop-cons, append_assoc, All, refl, sym, ◌∙◌, ap, inl, inr, arith}
use Rattle.std.proofs.lemmas.Bool.{cases_Bool, cases_lt}
use Rattle.std.proofs.lemmas.Bool.Decides.{nat_tests}
use Rattle.std.proofs.lemmas.List.Elements.{All-head, All-tail}
use Rattle.std.proofs.Math.ListN.{get_or-eq_default}
use Rattle.std.specs.Prelude.{◌==◌, slice_index_or}
use Rattle.std.specs.List.{list_any}
use Rattle.plant_file.specs.declared.console.ListedConsole.{ListedConsole}
use Rattle.plant_file.specs.PlantFiles.{IsConsole}
use Rattle.plant_config.specs.Orderers.{has_area, orderers_of, SayWho}

-- a number is among those of an area's consoles where a console of this number has the area
among : (consoles : List ListedConsole) (number area : ℕ) → list_any (λ n. n == number) (orderers_of consoles area) ≡ list_any (has_area number area) consoles
among [] number area = refl
among (console ∷ consoles) number area =
    let rest = among consoles number area in
    elim (cases_Bool (list_any (λ a. a == area) console.areas)) [
      | inl is ↦ elim (cases_Bool (console.number == number)) [
        | inl so ↦ rw (is, so) refl
        | inr not_so ↦ rw (is, not_so) rest
      ]
      | inr isnt ↦ elim (cases_Bool (console.number == number)) [
        | inl so ↦ rw (isnt, so) rest
        | inr not_so ↦ rw (isnt, not_so) rest
      ]
    ]

-- an area past all of a console's
past : (areas : List ℕ) (area count : ℕ) → All (λ a. a < count) areas → count ≤ area → list_any (λ a. a == area) areas ≡ false
past [] area count within beyond = refl
past (a ∷ areas) area count within beyond =
    let less = All-head (λ n. n < count) a areas within in
    let rest = past areas area count (All-tail (λ n. n < count) a areas within) beyond in
    let other : (a == area) ≡ false = grind (arith, nat_tests, less, beyond) in
    rw other rest

-- no console has an area past all areas
none_past : (listed : List (List ℕ)) (consoles : List ListedConsole) (number area : ℕ) → All (IsConsole listed) consoles → length listed ≤ area → list_any (has_area number area) consoles ≡ false
none_past listed [] number area within beyond = refl
none_past listed (console ∷ consoles) number area within beyond =
    let here = past console.areas area (length listed) (All-head (IsConsole listed) console consoles within).areas beyond in
    let rest = none_past listed consoles number area (All-tail (IsConsole listed) console consoles within) beyond in
    elim (cases_Bool (console.number == number)) [
      | inl so ↦ rw (here, so) rest
      | inr not_so ↦ rw (here, not_so) rest
    ]

-- the lists of all areas say who may order
pub say_who : (listed : List (List ℕ)) (consoles : List ListedConsole) (lists : List (List ℕ)) → length lists ≡ length listed → ((k : ℕ) → k < length listed → slice_index_or lists k [] ≡ orderers_of consoles k)
    → All (IsConsole listed) consoles → SayWho consoles lists
say_who listed consoles lists long each within number area =
    elim (cases_lt area (length listed)) [
      | inl less ↦ ap (list_any (λ n. n == number)) (each area less) ∙ among consoles number area
      | inr beyond ↦ ap (list_any (λ n. n == number)) (get_or-eq_default lists [] (omega (arith, long, beyond))) ∙ sym (none_past listed consoles number area within beyond)
    ]

-- the numbers so far, once a console more was looked at
pub looked : (consoles : List ListedConsole) (area index : ℕ) (console : ListedConsole) (numbers new : List ℕ) (has : Bool) → index < length consoles → console ≡ get_or consoles index console
    → has ≡ list_any (λ a. a == area) console.areas → new ≡ cond has (numbers ++ console.number ∷ []) numbers
    → numbers ++ orderers_of (drop index consoles) area ≡ orderers_of consoles area → new ++ orderers_of (drop (index + 1) consoles) area ≡ orderers_of consoles area
looked consoles area index console numbers new has less item has_is new_is kept =
    let next : suc index ≡ index + 1 = omega arith in
    let left = drop (index + 1) consoles in
    let split : drop index consoles ≡ console ∷ left =
    drop-cons consoles index console less ∙ ap (λ n. get_or consoles index console ∷ drop n consoles) next ∙ ap (λ c. c ∷ left) (sym item) in
    elim (cases_Bool has) [
      | inl is ↦ (
          let has_it : list_any (λ a. a == area) console.areas ≡ true = sym has_is ∙ is in
          let more : new ≡ numbers ++ console.number ∷ [] = new_is ∙ rw is refl in
          let list : orderers_of (console ∷ left) area ≡ console.number ∷ orderers_of left area = rw has_it refl in
          ap (λ l. l ++ orderers_of left area) more ∙ append_assoc numbers (console.number ∷ []) (orderers_of left area) ∙ ap (λ l. numbers ++ l) (sym list)
          ∙ ap (λ l. numbers ++ orderers_of l area) (sym split) ∙ kept)
      | inr isnt ↦ (
          let has_none : list_any (λ a. a == area) console.areas ≡ false = sym has_is ∙ isnt in
          let same : new ≡ numbers = new_is ∙ rw isnt refl in
          let list : orderers_of (console ∷ left) area ≡ orderers_of left area = rw has_none refl in
          ap (λ l. l ++ orderers_of left area) same ∙ ap (λ l. numbers ++ l) (sym list) ∙ ap (λ l. numbers ++ orderers_of l area) (sym split) ∙ kept)
    ]
