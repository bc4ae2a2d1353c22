-- The paths of faults are those of their programs' codes.
use Rattle.std.proofs.Common.{◌≡◌, ◌<◌, ℕ, List, Some, ap, ◌∙◌, arith}
use Rattle.std.specs.Prelude.{slice_get, All}
use Rattle.std.proofs.lemmas.List.Elements.{All-weaker}
use Rattle.std.proofs.lemmas.Option.{slice_get_within, get_or_from_slice_get}
use Rattle.crew.specs.Runs.{IsEachOnce}
use Rattle.acc_vm.specs.Codes.{PlainCode}
use Rattle.vm_slices.specs.Parts.{PlainPart}
use Rattle.level_runs.specs.Programs.{no_code, code_at}
use Rattle.slice_store.specs.Starts.{Begun}
use Rattle.slice_store.specs.Level.{Stored}
use Rattle.slice_store.specs.Splits.{ArePartsOf, AreJobsBefore}
use Rattle.level_jobs.specs.Faults.{before}
use Rattle.level_jobs.specs.Spotted.{HasItsPath, IsOfRun}
use Rattle.level_jobs.specs.declared.fault.ProgramFault.{ProgramFault}

module _ (codes : List PlainCode) (parts : List PlainPart) (levels : List ℕ) (level : ℕ) (store : Stored) (n : ℕ) (jobs runs : List Begun)
    (are : ArePartsOf codes parts) (split : AreJobsBefore parts levels level store n jobs) (each : IsEachOnce jobs runs) where
  its_path : (fault : ProgramFault) → IsOfRun runs fault → HasItsPath codes fault
  its_path fault is =
      let job = split.each is.run (each.no_stranger is.run is.there) in
      let program : fault.program ≡ job.program = is.program ∙ ap (λ (s : Begun). before s.number) job.starts in
      let x = are.each job.program is.run.part job.part_is in
      let there : slice_get codes fault.program ≡ Some x.0 = ap (slice_get codes) program ∙ x.1 in
      let code : (code_at codes fault.program).paths ≡ x.0.paths = ap (λ (c : PlainCode). c.paths) (get_or_from_slice_get codes fault.program x.0 no_code there) in
      let same : is.run.part.code.paths ≡ x.0.paths = ap (λ (c : PlainCode). c.paths) x.2.is in
      let below : fault.stop.place.path < is.run.part.code.paths = is.path in
      record { program = slice_get_within codes fault.program x.0 there; path = omega (arith, below, same, code) }

  -- the faults of a level's runs have their paths
  pub their_paths : (faults : List ProgramFault) → All (IsOfRun runs) faults → All (HasItsPath codes) faults
  their_paths faults all = All-weaker (IsOfRun runs) (HasItsPath codes) its_path faults all
