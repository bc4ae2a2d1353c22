-- Jobs that were handed in and runs that came back, both seen as what they start from.
use Rattle.std.specs.Prelude.{◌≡◌, ◌≢◌, ℕ, ◌<◌, List, length, slice_index_or, Contains}
use Rattle.std.specs.List.{AllPairs}

-- no two jobs have one number
abbrev pub AreNumbered : {S : Type 0} → (S → ℕ) → List S → Type 0
AreNumbered number starts = AllPairs (λ a b. number a ≢ number b) starts

-- no two places hold the same
abbrev pub IsDistinct : {S : Type 0} → List S → Type 0
IsDistinct {S} xs = (i j : ℕ) (x : S) → i < length xs → j < length xs → slice_index_or xs i x ≡ x → slice_index_or xs j x ≡ x → i ≡ j

-- one run of each job, in any order
pub record IsEachOnce {S : Type 0} (starts runs : List S) : Type 0 where
  -- each run is of a job that was handed in
  pub no_stranger : (s : S) → Contains runs s → Contains starts s
  -- no job was run twice
  pub no_double : IsDistinct runs
  -- each job was run
  pub none_lacking : (s : S) → Contains starts s → Contains runs s

-- the numbers of jobs rise, and all are below another
pub record IsRisingBelow {S : Type 0} (number : S → ℕ) (next : ℕ) (starts : List S) : Type 0 where
  pub apart : AreNumbered number starts
  pub below : (i : ℕ) (d : S) → i < length starts → number (slice_index_or starts i d) < next
