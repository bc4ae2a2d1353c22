-- What was written of a text that is due.
use Rattle.std.specs.Prelude.{◌≡◌, ℕ, List, ◌++◌, Option}
use Rattle.std.specs.Io.KnownBytes.{Appends}

-- a line that is due was begun
abbrev pub IsBegun : Option (List ℕ) → Option (List ℕ) → List ℕ → Type 0
IsBegun w₀ w₁ line = (part : List ℕ) × (more : List ℕ) × (line ≡ part ++ more) × Appends w₀ w₁ part
