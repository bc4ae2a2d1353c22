-- The name of a number.
use Rattle.std.specs.Prelude.{ℕ, List, [], String, slice_get, string_bytes}
use Rattle.std.specs.Option.{option_map_or}

-- the bytes of the name of a number, none where there is none
abbrev pub name_at : {A : Type 0} → List (String A) → ℕ → List ℕ
name_at names n = option_map_or string_bytes (slice_get names n) []
