-- Lists and values that may be missing.
use Rattle.std.specs.Prelude.{Bool, false, ◌||◌, List, [], ◌∷◌, Option, Some, None, if◌then◌else◌}
use Rattle.std.specs.List.{list_any}

-- a value that passes a test
abbrev pub passing : {A : Type 0} → (A → Bool) → A → Option A
passing test x = if test x then Some x else None

-- an item stands in the list twice
abbrev pub repeats : {A : Type 0} → (A → A → Bool) → List A → Bool
repeats eq [] = false
repeats eq (x ∷ xs) = list_any (eq x) xs || repeats eq xs
