-- How runs that came back compare with what was handed out. Both are lists of what jobs start from.
use Rattle.std.specs.Prelude.{◌≡◌, ℕ, ◌<◌, Bool, true, false, List, length, slice_index_or, Contains}
use Rattle.crew.specs.Runs.{IsDistinct}

-- a run came back of no job that was handed out
abbrev pub HasStranger : {S : Type 0} → List S → List S → Type 0
HasStranger {S} starts runs = (s : S) × Contains runs s × (Contains starts s → ⊥)

-- two runs of one job came back
abbrev pub HasDouble : {S : Type 0} → List S → Type 0
HasDouble {S} runs = (s : S) × (i : ℕ) × (j : ℕ) × (i < j) × (j < length runs) × (slice_index_or runs i s ≡ s) × (slice_index_or runs j s ≡ s)

-- of a job that was handed out no run came back
abbrev pub LacksOne : {S : Type 0} → List S → List S → Type 0
LacksOne {S} starts runs = (s : S) × Contains starts s × (Contains runs s → ⊥)

-- each run is of a job that was handed out, its job is ticked off and no other, and none came twice
pub record IsTicked {S : Type 0} (starts : List S) (ticks : List Bool) (runs : List S) : Type 0 where
  pub sized : length ticks ≡ length starts
  pub known : (s : S) → Contains runs s → Contains starts s
  pub came : (i : ℕ) → i < length starts → slice_index_or ticks i false ≡ true → (s : S) → slice_index_or starts i s ≡ s → Contains runs s
  pub ticked : (s : S) → Contains runs s → (i : ℕ) → i < length starts → slice_index_or starts i s ≡ s → slice_index_or ticks i false ≡ true
  pub once : IsDistinct runs
