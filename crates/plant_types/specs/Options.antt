-- Values that may be missing.
use Rattle.std.specs.Prelude.{Option, option_and_then}

-- what a function makes of a value, where there is one
infixl 10 ◌>>=◌
abbrev pub ◌>>=◌ : {A B : Type 0} → Option A → (A → Option B) → Option B
o >>= f = option_and_then f o
