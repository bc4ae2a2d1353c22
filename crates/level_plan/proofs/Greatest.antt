-- The greatest of levels.
use Rattle.std.proofs.Common.{◌≡◌, ℕ, ◌<◌, ◌≤◌, max, List, [], ◌∷◌, ◌++◌, length, get_or, refl}
use Rattle.std.proofs.lemmas.List.Recursion.{max_bounds, max_least, max_push}
use Rattle.level_plan.specs.Plans.{last_of}

pub last_of_push : (levels : List ℕ) (level : ℕ) → last_of (levels ++ level ∷ []) ≡ max (last_of levels) level
last_of_push levels level = max_push last_of (λ l. l) refl (λ _ _. refl) levels level

pub last_of_bounds : (levels : List ℕ) (p : ℕ) → p < length levels → get_or levels p 0 ≤ last_of levels
last_of_bounds levels p within = max_bounds last_of (λ l. l) refl (λ _ _. refl) levels p 0 within

pub last_of_least : (levels : List ℕ) (n : ℕ) → ((p : ℕ) → p < length levels → get_or levels p 0 ≤ n) → last_of levels ≤ n
last_of_least levels n low = max_least last_of (λ l. l) refl (λ _ _. refl) levels 0 n low
