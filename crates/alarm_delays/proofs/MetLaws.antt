-- The alarms whose conditions may have changed: how the list of them grows.
use Rattle.std.proofs.Common.{◌≡◌, ℕ, ◌+◌, ◌-◌, ◌<◌, ◌≤◌, Bool, false, Option, Some, List, [], ◌∷◌, ◌++◌, length, drop, slice_get, arith, refl, ap, sym, ◌∙◌, subst}
use Rattle.std.proofs.lemmas.List.{append_assoc, append-nil, drop_all}
use Rattle.alarm_delays.specs.Delays.{AreMet, ConditionsStay}
use Rattle.alarm_delays.proofs.DelayLaws.{listed_one, passed_over}

-- what is listed is what comes before what the alarms from a place on add to it
abbrev pub MetOn : ℕ → List Bool → List (Option ℕ) → List (ℕ × Bool) → Type 0
MetOn i cs since met = (rest : List (ℕ × Bool)) → AreMet i (drop i cs) (drop i since) rest → AreMet 0 cs since (met ++ rest)

-- none is listed yet
pub met_first : (cs : List Bool) (since : List (Option ℕ)) → MetOn 0 cs since []
met_first cs since rest h = h

-- alarms that aren't marked are passed over
pub met_over : (marks : List Bool) (i j : ℕ) (cs : List Bool) (since : List (Option ℕ)) (met : List (ℕ × Bool)) → i ≤ j → j ≤ length since → length cs ≡ length since → ConditionsStay marks cs since
    → ((n : ℕ) → i ≤ n → n < j → slice_get marks n ≡ Some false) → MetOn i cs since met → MetOn j cs since met
met_over marks i j cs since met low within each stay clear so_far rest h = so_far rest (passed_over (j - i) i j marks cs since rest (omega (arith, low)) each within stay clear h)

-- one is listed
pub met_one : (at : ℕ) (c : Bool) (cs : List Bool) (since : List (Option ℕ)) (met met' : List (ℕ × Bool)) → length cs ≡ length since → at < length since → slice_get cs at ≡ Some c → met' ≡ met ++ (at, c) ∷ []
    → MetOn at cs since met → MetOn (at + 1) cs since met'
met_one at c cs since met met' each within c_is more so_far rest h =
    subst (λ l. AreMet 0 cs since l) (sym (append_assoc met ((at, c) ∷ []) rest) ∙ ap (λ l. l ++ rest) (sym more)) (so_far ((at, c) ∷ rest) (listed_one at c cs since rest each within c_is h))

-- once all are looked at, the list is whole
pub met_all : (i : ℕ) (cs : List Bool) (since : List (Option ℕ)) (met : List (ℕ × Bool)) → length since ≤ i → length cs ≡ length since → MetOn i cs since met → AreMet 0 cs since met
met_all i cs since met all each so_far =
    let done : AreMet i (drop i cs) (drop i since) [] =
    subst (λ l. AreMet i l (drop i since) []) (sym (drop_all i cs (omega (arith, each, all)))) (subst (λ l. AreMet i [] l []) (sym (drop_all i since all)) refl) in
    subst (λ l. AreMet 0 cs since l) (append-nil met) (so_far [] done)
