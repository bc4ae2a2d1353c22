-- The faults of one run more.
use Rattle.std.proofs.Common.{◌≡◌, ℕ, zero, suc, ◌<◌, ◌-◌, List, [], ◌∷◌, ◌++◌, Option, Some, None, Result, Ok, Err, refl, sym, ap, ◌∙◌, subst, arith}
use Rattle.std.specs.Prelude.{All}
use Rattle.std.proofs.lemmas.List.Elements.{All-nil, All-push, All-weaker, Contains-append_left, Contains-push}
use Rattle.logic_cells.specs.declared.stop.Stop.{Stop}
use Rattle.logic_cells.specs.Cells.{PlainCells}
use Rattle.plant_types.specs.Values.{Path}
use Rattle.level_runs.specs.Stores.{with_fault}
use Rattle.slice_store.specs.Starts.{Begun, Gives}
use Rattle.level_jobs.specs.Faults.{before, program_of, trap_told, AreResultsOf, faults_told}
use Rattle.level_jobs.specs.Spotted.{IsOfRun, Tell, spotted, spotted_fault}
use Rattle.level_jobs.specs.declared.fault.ProgramFault.{ProgramFault}

results_more : (runs : List Begun) (results : List (Result (Unit {0}) Stop)) (s : Begun) (result : Result (Unit {0}) Stop) (after : PlainCells)
    → AreResultsOf runs results → Gives s result after → AreResultsOf (runs ++ s ∷ []) (results ++ result ∷ [])
results_more [] [] s result after ended gives = ((after, gives), tt)
results_more [] (r ∷ results) s result after ended gives = absurd ended
results_more (t ∷ runs) [] s result after ended gives = absurd ended
results_more (t ∷ runs) (r ∷ results) s result after ended gives = (ended.0, results_more runs results s result after ended.1 gives)

with_more : {E : Type 0} (p : ℕ) (trap : Option E) (xs ys : List (ℕ × E)) → with_fault p trap (xs ++ ys) ≡ with_fault p trap xs ++ ys
with_more p None xs ys = refl
with_more p (Some e) xs ys = refl

told_more : (paths : ℕ → List Path) (runs : List Begun) (results : List (Result (Unit {0}) Stop)) (s : Begun) (result : Result (Unit {0}) Stop) → AreResultsOf runs results
    → faults_told paths (runs ++ s ∷ []) (results ++ result ∷ []) ≡ faults_told paths runs results ++ with_fault (program_of s) (trap_told (paths (program_of s)) result) []
told_more paths [] [] s result ended = refl
told_more paths [] (r ∷ results) s result ended = absurd ended
told_more paths (t ∷ runs) [] s result ended = absurd ended
told_more paths (t ∷ runs) (r ∷ results) s result ended =
    ap (with_fault (program_of t) (trap_told (paths (program_of t)) r)) (told_more paths runs results s result ended.1)
    ∙ with_more (program_of t) (trap_told (paths (program_of t)) r) (faults_told paths runs results) (with_fault (program_of s) (trap_told (paths (program_of s)) result) [])

pub spotted_append : (paths : ℕ → List Path) (xs ys : List ProgramFault) → spotted paths (xs ++ ys) ≡ spotted paths xs ++ spotted paths ys
spotted_append paths [] ys = refl
spotted_append paths (x ∷ xs) ys = ap (λ rest. spotted_fault paths x ∷ rest) (spotted_append paths xs ys)

append_none : {X : Type 0} (xs : List X) → xs ++ [] ≡ xs
append_none [] = refl
append_none (x ∷ xs) = ap (λ rest. x ∷ rest) (append_none xs)

-- faults of some runs are faults of one run more
of_more : (runs : List Begun) (s : Begun) (faults : List ProgramFault) → All (IsOfRun runs) faults → All (IsOfRun (runs ++ s ∷ [])) faults
of_more runs s faults = All-weaker (IsOfRun runs) (IsOfRun (runs ++ s ∷ [])) (λ fault is. record {
  run = is.run;
  there = Contains-append_left runs (s ∷ []) is.run is.there;
  program = is.program;
  path = is.path;
}) faults

pub tell_none : Tell [] []
tell_none = record { results = []; ended = tt; told = λ paths. refl; of_runs = All-nil (IsOfRun []) }

pub tell_end : (runs : List Begun) (faults : List ProgramFault) (s : Begun) (done : Unit {0}) (after : PlainCells) → Tell runs faults → Gives s (Ok done) after → Tell (runs ++ s ∷ []) faults
tell_end runs faults s done after tell gives = record {
  results = tell.results ++ Ok done ∷ [];
  ended = results_more runs tell.results s (Ok done) after tell.ended gives;
  of_runs = of_more runs s faults tell.of_runs;
  told = λ paths. tell.told paths ∙ sym (append_none (faults_told paths runs tell.results)) ∙ sym (told_more paths runs tell.results s (Ok done) tell.ended);
}

pub tell_stop : (runs : List Begun) (faults : List ProgramFault) (s : Begun) (stop : Stop) (after : PlainCells) (fault : ProgramFault) → Tell runs faults → Gives s (Err stop) after
    → fault ≡ record { program = program_of s; stop = stop } → Tell (runs ++ s ∷ []) (faults ++ fault ∷ [])
tell_stop runs faults s stop after fault tell gives is = record {
  results = tell.results ++ Err stop ∷ [];
  ended = results_more runs tell.results s (Err stop) after tell.ended gives;
  of_runs = All-push (IsOfRun (runs ++ s ∷ [])) faults fault (of_more runs s faults tell.of_runs) (record {
    run = s;
    there = Contains-push runs s;
    program = ap (λ (f : ProgramFault). f.program) is;
    path = subst (λ (f : ProgramFault). f.stop.place.path < s.part.code.paths) (sym is) gives.path;
  });
  told = λ paths.
      spotted_append paths faults (fault ∷ [])
      ∙ (λ i. tell.told paths i ++ spotted_fault paths (is i) ∷ [])
      ∙ sym (told_more paths runs tell.results s (Err stop) tell.ended);
}

pub one_before : (n m : ℕ) → m ≡ n → 0 < n → m - 1 ≡ before n
one_before zero m is above = absurd (omega (arith, above))
one_before (suc p) m is above = omega (arith, is)
