-- The names of sources, beside those that are listed.
use Rattle.std.proofs.Common.{◌≡◌, ◌∙◌, sym, refl, ℕ, zero, suc, ◌<◌, false, List, [], ◌∷◌, length, map, drop, arith}
use Rattle.plant_config.specs.Files.{same_texts}

module _ {S : Type 0} (name : S → List ℕ) where
  some_left : (sources : List S) (i : ℕ) → i < length sources → (s : S) × (rest : List S) × (drop i sources ≡ s ∷ rest)
  some_left [] i within = absurd (omega (arith, within))
  some_left (s ∷ sources) zero within = (s, sources, refl)
  some_left (s ∷ sources) (suc i) within = some_left sources i (omega (arith, within))

  no_name : (sources : List S) (names : List (List ℕ)) → (s : S) × (rest : List S) × (sources ≡ s ∷ rest) → length names ≡ 0 → same_texts (map name sources) names ≡ false
  no_name sources [] left none = rw left.2 refl
  no_name sources (n ∷ names) left none = absurd (omega (arith, none))

  -- a source is left, and no name
  pub too_few : (sources : List S) (names rest : List (List ℕ)) (i : ℕ) → same_texts (map name (drop i sources)) rest ≡ same_texts (map name sources) names → i < length sources → length rest ≡ 0 → false ≡ same_texts (map name sources) names
  too_few sources names rest i same within none = sym (no_name (drop i sources) rest (some_left sources i within) none) ∙ same
