-- What is promised of an explanation: how it begins.
use Rattle.std.specs.Prelude.{◌≡◌, ℕ, List, ◌++◌}

-- a text begins with a line
abbrev pub BeginsWith : List ℕ → List ℕ → Type 0
BeginsWith line text = (rest : List ℕ) × (text ≡ line ++ rest)
