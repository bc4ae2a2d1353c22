-- The first of a list that passes a test.
use Rattle.std.specs.Prelude.{Bool, if◌then◌else◌, List, [], ◌∷◌, Option, Some, None}

-- the first that passes a test
abbrev pub first_that : {A : Type 0} → (A → Bool) → List A → Option A
first_that test [] = None
first_that test (a ∷ rest) = if test a then Some a else first_that test rest
