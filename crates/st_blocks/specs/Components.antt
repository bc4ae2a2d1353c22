-- Numbers of components, as the code has them.
use Rattle.std.specs.Prelude.{◌≡◌, ℕ, nat_lt, Bool, false, List, get_or}
use Rattle.std.specs.List.{list_any}
use Rattle.st_blocks.specs.Graphs.{Graph, next_of}

-- whether a step leads to a greater component
abbrev pub rises : Graph → List ℕ → ℕ → Bool
rises graph components a = list_any (λ w. nat_lt (get_or components a 0) (get_or components w 0)) (next_of graph a)

-- no step does
abbrev pub NeverRises : Graph → List ℕ → Type 0
NeverRises graph components = (a : ℕ) → rises graph components a ≡ false
