-- Jobs and runs, which are seen as what they start from, as a crew sees them.
use Rattle.std.proofs.Common.{◌≡◌, List, map, subst, ◌∙◌}
use Rattle.std.proofs.lemmas.List.{map-id}
use Rattle.slice_store.specs.Starts.{Begun}

-- what holds of that from which runs started holds of the runs
pub of_runs : (P : List Begun → Type 0) (runs : List Begun) → P (map (λ (s : Begun). s) runs) → P runs
of_runs P runs h = subst P (map-id runs) h

-- that from which jobs start is the jobs
pub all_out : (out jobs : List Begun) → out ≡ map (λ (s : Begun). s) jobs → out ≡ jobs
all_out out jobs are = are ∙ map-id jobs
