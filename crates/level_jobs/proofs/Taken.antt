-- A gathered level is the level of its programs' codes.
use Rattle.std.proofs.Common.{◌≡◌, ℕ, zero, suc, ◌<◌, true, false, List, [], ◌∷◌, length, map, Option, Some, None, Result, Ok, Err, refl, sym, ap, ◌∙◌, subst, arith, inl, inr}
use Rattle.std.specs.Prelude.{slice_get, slice_index_or, is_some, Contains}
use Rattle.std.specs.Option.{option_map}
use Rattle.std.specs.List.{cons_option}
use Rattle.std.proofs.lemmas.Bool.{both_ways}
use Rattle.std.proofs.lemmas.Option.{slice_get-get_or, slice_get_within, get_or_from_slice_get, slice_get_cases}
use Rattle.plant_types.specs.declared.values.Trap.{Trap}
use Rattle.st_tree.specs.Meaning.{Spot}
use Rattle.logic_cells.specs.declared.stop.Stop.{Stop}
use Rattle.logic_cells.specs.Cells.{PlainCells}
use Rattle.plant_types.specs.Values.{Path}
use Rattle.logic_cells.specs.Runs.{ended}
use Rattle.acc_vm.specs.Machine.{Run, Over}
use Rattle.acc_vm.specs.Codes.{PlainCode, run_of}
use Rattle.vm_slices.specs.Parts.{PlainPart, IsPartOf}
use Rattle.level_runs.specs.Stores.{with_fault}
use Rattle.level_runs.specs.Levels.{IsRun, TakesLevel}
use Rattle.level_runs.specs.Runs as order
use Rattle.level_runs.specs.Runs.{AreRunsOf, traps_of}
use Rattle.level_runs.proofs.Runs.{runs_make_a_level}
use Rattle.level_runs.specs.Programs.{Slot, Value, Clocked, cell_at, writes_slot, no_code, code_at, as_ran, programs_at}
use Rattle.level_runs.proofs.Named.{value_written, writes_value, clock_named, names_clock}
use Rattle.slice_store.specs.Starts.{Begun, Gives}
use Rattle.slice_store.specs.Level.{Stored, trapped}
use Rattle.slice_store.specs.Splits.{IsChosen, IsJobBefore, ArePartsOf, begun}
use Rattle.slice_store.specs.Whole.{TookWhole}
use Rattle.slice_store.proofs.Whole.{took_whole, ran_whole}
use Rattle.level_jobs.specs.Faults.{before, program_of, trap_told, AreResultsOf, faults_told}
use Rattle.level_jobs.specs.Gathers.{GathersLevel, midway}
use Rattle.level_jobs.proofs.Numbers.{numbered, numbers, once}

-- what a run that is over leaves, and its trap
over_leaves : (names : List Path) (result : Result (Unit {0}) Stop) (cells after : PlainCells) (left : ℕ) → (as_ran cells (Over (ended names result after) left)).store ≡ after
over_leaves names (Ok _) cells after left = refl
over_leaves names (Err stop) cells after left = refl

over_tells : (names : List Path) (result : Result (Unit {0}) Stop) (cells after : PlainCells) (left : ℕ) → (as_ran cells (Over (ended names result after) left)).trap ≡ trap_told names result
over_tells names (Ok _) cells after left = refl
over_tells names (Err stop) cells after left = refl

told_trapped : (names : List Path) (result : Result (Unit {0}) Stop) → trapped result ≡ is_some (trap_told names result)
told_trapped names (Ok _) = refl
told_trapped names (Err stop) = refl

put_told : {E : Type 0} (p : ℕ) (trap : Option E) (rest : List (ℕ × E)) → with_fault p trap rest ≡ cons_option (option_map (λ (e : E). (p, e)) trap) rest
put_told p None rest = refl
put_told p (Some e) rest = refl

module _ (paths : ℕ → List Path) (codes : List PlainCode) (parts : List PlainPart) (levels : List ℕ) (level : ℕ) (old new : Stored) (faults : List (ℕ × (Spot × Trap)))
    (are : ArePartsOf codes parts) (level_is : GathersLevel paths parts levels level old new faults) where
  abbrev runs : List Begun
  runs = level_is.runs

  abbrev nums : List ℕ
  nums = map program_of runs

  job_of : (s : Begun) → Contains runs s → IsJobBefore parts levels level old (length parts) s
  job_of s has = level_is.split.each s (level_is.each_once.no_stranger s has)

  number_is : (s : Begun) (has : Contains runs s) → s.number ≡ suc (job_of s has).program
  number_is s has = ap (λ (s : Begun). s.number) (job_of s has).starts

  program_is : (s : Begun) (has : Contains runs s) → program_of s ≡ (job_of s has).program
  program_is s has = ap before (number_is s has)

  next_is : (s : Begun) (has : Contains runs s) → s.number ≡ suc (program_of s)
  next_is s has = number_is s has ∙ ap suc (sym (program_is s has))

  moment_is : (s : Begun) → Contains runs s → s.moment ≡ old.moment
  moment_is s has = ap (λ (s : Begun). s.moment) (job_of s has).starts

  part_of : (s : Begun) → Contains runs s → IsPartOf (code_at codes (program_of s)) s.part
  part_of s has =
      let x = are.each (job_of s has).program s.part (job_of s has).part_is in
      let is : x.0 ≡ code_at codes (program_of s) = sym (get_or_from_slice_get codes (job_of s has).program x.0 no_code x.1) ∙ ap (code_at codes) (sym (program_is s has)) in
      subst (λ whole. IsPartOf whole s.part) is x.2

  -- how the run of a program's code from all cells went
  took : (s : Begun) → Contains runs s → TookWhole (paths (program_of s)) (code_at codes (program_of s)) s old.cells new.cells new.faulted
  took s has =
      took_whole (paths (program_of s)) (code_at codes (program_of s)) s old.cells new.cells new.faulted (part_of s has)
      (level_is.can.inside (job_of s has).program s.part (job_of s has).part_is) (ap (λ (s : Begun). s.cells) (job_of s has).starts) (level_is.taken.taken s has)

  abbrev run_at : ℕ → Run
  run_at p = run_of old.moment (paths p) (code_at codes p) old.cells

  took_run : (s : Begun) (has : Contains runs s) → run_at (program_of s) ≡ Over (ended (paths (program_of s)) (took s has).result (took s has).after) (took s has).left
  took_run s has = ap (λ m. run_of m (paths (program_of s)) (code_at codes (program_of s)) old.cells) (sym (moment_is s has)) ∙ (took s has).run

  took_after : (s : Begun) (has : Contains runs s) → (as_ran old.cells (run_at (program_of s))).store ≡ (took s has).after
  took_after s has = ap (λ r. (as_ran old.cells r).store) (took_run s has) ∙ over_leaves (paths (program_of s)) (took s has).result old.cells (took s has).after (took s has).left

  took_trap : (s : Begun) (has : Contains runs s) → (as_ran old.cells (run_at (program_of s))).trap ≡ trap_told (paths (program_of s)) (took s has).result
  took_trap s has = ap (λ r. (as_ran old.cells r).trap) (took_run s has) ∙ over_tells (paths (program_of s)) (took s has).result old.cells (took s has).after (took s has).left

  run_to : (p : ℕ) → Contains nums p → IsRun (programs_at old.moment paths codes levels) level old.faulted p
  run_to p h =
      let n = numbered program_of runs p h in
      let job = job_of n.0 n.1 in
      let e : job.program ≡ p = sym (program_is n.0 n.1) ∙ n.2 in
      let within : job.program < length old.faulted = omega (arith, job.below, level_is.can.flagged) in
      subst (IsRun (programs_at old.moment paths codes levels) level old.faulted) e (record {
        in_level = job.chosen.level_is;
        unfaulted = slice_get-get_or old.faulted job.program false within ∙ ap Some job.chosen.sound;
      })

  run_from : (p : ℕ) → IsRun (programs_at old.moment paths codes levels) level old.faulted p → Contains nums p
  run_from p is =
      let within = slice_get_within old.faulted p false is.unfaulted in
      let below : p < length parts = omega (arith, within, level_is.can.flagged) in
      let chosen : IsChosen levels level old.faulted p = record { level_is = is.in_level; sound = get_or_from_slice_get old.faulted p false false is.unfaulted } in
      elim (slice_get_cases parts p).1 [
        | inl there ↦ numbers program_of runs (begun (suc p) there.0 old.moment old.cells)
            (level_is.each_once.none_lacking (begun (suc p) there.0 old.moment old.cells) (level_is.split.all p there.0 below there.2 chosen))
        | inr past ↦ absurd (omega (arith, past.0, below))
      ]

  same_place : (p i j : ℕ) (s t : Begun) → slice_get runs i ≡ Some s → slice_get runs j ≡ Some t → program_of s ≡ p → program_of t ≡ p → i ≡ j
  same_place p i j s t a b d e =
      let in_s : Contains runs s = (i, slice_get_within runs i s a, get_or_from_slice_get runs i s s a) in
      let in_t : Contains runs t = (j, slice_get_within runs j t b, get_or_from_slice_get runs j t t b) in
      let x = job_of s in_s in let y = job_of t in_t in
      let programs : x.program ≡ y.program = sym (program_is s in_s) ∙ d ∙ sym e ∙ program_is t in_t in
      let part : Some s.part ≡ Some t.part = sym x.part_is ∙ ap (slice_get parts) programs ∙ y.part_is in
      let parts_are : s.part ≡ t.part = ap (λ (o : Option PlainPart). slice_index_or (option_list o) 0 s.part) part in
      let same : s ≡ t = x.starts ∙ (λ i. begun (suc (programs i)) (parts_are i) old.moment old.cells) ∙ sym y.starts in
      level_is.each_once.no_double i j t in_s.1 in_t.1 (subst (λ z. slice_index_or runs i z ≡ z) same in_s.2) in_t.2
    where
      option_list : Option PlainPart → List PlainPart
      option_list None = []
      option_list (Some x) = x ∷ []

  are_runs : AreRunsOf (programs_at old.moment paths codes levels) level old.faulted nums
  are_runs = record {
    each = λ p. (run_to p, run_from p);
    once = λ p. once program_of p runs (same_place p);
  }

  taken_at : (s : Begun) → Contains runs s → (x : Slot) → writes_slot (code_at codes (program_of s)).instrs x ≡ true → cell_at new.cells x ≡ cell_at (as_ran old.cells (run_at (program_of s))).store x
  taken_at s has (Value slot) writes =
      ap inl ((took s has).values slot (value_written (code_at codes (program_of s)).instrs slot writes)) ∙ ap (λ (cells : PlainCells). cell_at cells (Value slot)) (sym (took_after s has))
  taken_at s has (Clocked k) writes =
      ap inr ((took s has).clocks k (clock_named (code_at codes (program_of s)).instrs k writes)) ∙ ap (λ (cells : PlainCells). cell_at cells (Clocked k)) (sym (took_after s has))

  kept_at : (x : Slot) → ((p : ℕ) → Contains nums p → writes_slot (code_at codes p).instrs x ≡ false) → cell_at new.cells x ≡ cell_at old.cells x
  kept_at (Value slot) off = ap inl (level_is.taken.values slot (λ s has w.
      both_ways (writes_slot (code_at codes (program_of s)).instrs (Value slot)) (off (program_of s) (numbers program_of runs s has))
      (writes_value (code_at codes (program_of s)).instrs slot ((part_of s has).only_written w.place slot w.written w.at))))
  kept_at (Clocked k) off = ap inr (level_is.taken.clocks k (λ s has w.
      both_ways (writes_slot (code_at codes (program_of s)).instrs (Clocked k)) (off (program_of s) (numbers program_of runs s has))
      (names_clock (code_at codes (program_of s)).instrs k ((part_of s has).only_clocks w.place k w.at).0)))

  flag_at : (s : Begun) (has : Contains runs s) → slice_get new.faulted (program_of s) ≡ Some (is_some (as_ran old.cells (run_at (program_of s))).trap)
  flag_at s has = (took s has).flag (program_of s) (next_is s has) ∙ ap Some (told_trapped (paths (program_of s)) (took s has).result ∙ ap is_some (sym (took_trap s has)))

  takes : order.TakesRuns (programs_at old.moment paths codes levels) (midway old) nums (midway new)
  takes = record {
    size = λ i. (level_is.taken.shape.values i, level_is.taken.shape.clocks i);
    taken = λ p x h writes.
        let n = numbered program_of runs p h in
        subst (λ p. cell_at new.cells x ≡ cell_at (as_ran old.cells (run_at p)).store x) n.2 (taken_at n.0 n.1 x (subst (λ p. writes_slot (code_at codes p).instrs x ≡ true) (sym n.2) writes));
    kept = kept_at;
    flagged = λ p h.
        let n = numbered program_of runs p h in
        subst (λ p. slice_get new.faulted p ≡ Some (is_some (as_ran old.cells (run_at p)).trap)) n.2 (flag_at n.0 n.1);
    unflagged = λ p none. level_is.taken.others p (λ s has e. none (subst (Contains nums) (ap before e) (numbers program_of runs s has)));
  }

  -- what a run tells is the trap of its program's code
  tells : (s : Begun) → Contains runs s → (result : Result (Unit {0}) Stop) (after : PlainCells) → Gives s result after → (as_ran old.cells (run_at (program_of s))).trap ≡ trap_told (paths (program_of s)) result
  tells s has result after gives =
      let ran = ran_whole (paths (program_of s)) (code_at codes (program_of s)) s old.cells result after (part_of s has)
      (level_is.can.inside (job_of s has).program s.part (job_of s has).part_is) (ap (λ (s : Begun). s.cells) (job_of s has).starts) gives in
      let run : run_at (program_of s) ≡ Over (ended (paths (program_of s)) result ran.1.after) ran.0
      = ap (λ m. run_of m (paths (program_of s)) (code_at codes (program_of s)) old.cells) (sym (moment_is s has)) ∙ ran.1.run in
      ap (λ r. (as_ran old.cells r).trap) run ∙ over_tells (paths (program_of s)) result old.cells ran.1.after ran.0

  all_tell : (some : List Begun) (results : List (Result (Unit {0}) Stop)) → ((s : Begun) → Contains some s → Contains runs s) → AreResultsOf some results
      → traps_of (programs_at old.moment paths codes levels) old.cells (map program_of some) ≡ faults_told paths some results
  all_tell [] [] known ended = refl
  all_tell [] (result ∷ results) known ended = absurd ended
  all_tell (s ∷ some) [] known ended = absurd ended
  all_tell (s ∷ some) (result ∷ results) known ended =
      let rest = all_tell some results (λ t h. known t (suc h.0, omega (arith, h.1), h.2)) ended.1 in
      let here = tells s (known s (zero, omega arith, refl)) result ended.0.0 ended.0.1 in
      (λ i. cons_option (option_map (λ (e : Spot × Trap). (program_of s, e)) (here i)) (rest i)) ∙ sym (put_told (program_of s) (trap_told (paths (program_of s)) result) (faults_told paths some results))

  pub level_taken : TakesLevel (programs_at old.moment paths codes levels) level (midway old) (midway new) faults
  level_taken = subst (TakesLevel (programs_at old.moment paths codes levels) level (midway old) (midway new))
      (all_tell runs level_is.results (λ s has. has) level_is.ended ∙ sym level_is.told)
      (runs_make_a_level (programs_at old.moment paths codes levels) level (midway old) (midway new) nums are_runs takes)
