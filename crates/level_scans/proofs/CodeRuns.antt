-- The codes of programs, run in order over cells, do what the programs do in the world for which the cells stand.
use Rattle.std.proofs.Common.{◌≡◌, ◌∙◌, ℕ, suc, ◌+◌, ◌<◌, Bool, true, false, List, [], ◌∷◌, length, map, None, refl, sym, ap, subst, arith, add-one}
use Rattle.std.specs.Prelude.{is_some}
use Rattle.plant_types.specs.declared.values.Trap.{Trap}
use Rattle.st_tree.specs.Meaning.{Ran, Done, Trapped, Spot}
use Rattle.logic_source.specs.Source.{Source}
use Rattle.logic_source.specs.Worlds.{World, run_program}
use Rattle.logic_cells.specs.Cells.{PlainCells}
use Rattle.vm_carry.specs.Stands.{StandFor}
use Rattle.acc_vm.specs.Machine.{Run, Over}
use Rattle.acc_vm.specs.Codes.{PlainCode}
use Rattle.level_jobs.specs.Stores as programs
use Rattle.level_jobs.specs.Stores.{Outcome, with_program, in_order}
use Rattle.level_jobs.specs.Programs.{as_ran, programs_at}
use Rattle.vm_carry.specs.Runs.{Agree, paths_in}
use Rattle.level_scans.specs.Scans.{Scanned, with_flag, after_run, programs_from}
use Rattle.level_scans.specs.Levels.{AreProgramCodes}

-- what codes left in order over cells is what programs leave in a world
pub record RanAlike (source : Source) (order : Outcome PlainCells (Spot × Trap)) (r : Scanned) : Type 0 where
  pub stands : StandFor source order.store r.world
  pub faulted_is : order.faulted ≡ r.faulted
  pub faults_are : map (λ (f : ℕ × (Spot × Trap)). f.1) order.faults ≡ r.faults

-- a faulted program was skipped
skipped : (source : Source) (p : ℕ) (order : Outcome PlainCells (Spot × Trap)) (r : Scanned) → RanAlike source order r → RanAlike source (with_program p true None order) (with_flag true r)
skipped source p order r alike = record { stands = alike.stands; faulted_is = ap (λ (l : List Bool). true ∷ l) alike.faulted_is; faults_are = alike.faults_are }

-- a program's run, before what the others leave
abbrev run_then : ℕ → programs.RanProgram PlainCells (Spot × Trap) → (PlainCells → Outcome PlainCells (Spot × Trap)) → Outcome PlainCells (Spot × Trap)
run_then p ran rest = with_program p (is_some ran.trap) ran.trap (rest ran.store)

-- a program ran
ran_alike : (source : Source) (p left : ℕ) (cells : PlainCells) (rest : PlainCells → Outcome PlainCells (Spot × Trap)) (others : World → Scanned)
    → ((c : PlainCells) (v : World) → StandFor source c v → RanAlike source (rest c) (others v))
    → (ran : Ran World) (result : Ran PlainCells) → Agree source ran result → RanAlike source (run_then p (as_ran cells (Over result left)) rest) (after_run ran others)
ran_alike source p left cells rest others each (Done w) (Done after) agree =
    let r = each after w agree in
    record { stands = r.stands; faulted_is = ap (λ (l : List Bool). false ∷ l) r.faulted_is; faults_are = r.faults_are }
ran_alike source p left cells rest others each (Done w) (Trapped after spot trap) agree = absurd agree
ran_alike source p left cells rest others each (Trapped w spot trap) (Done after) agree = absurd agree
ran_alike source p left cells rest others each (Trapped w spot trap) (Trapped after other kind) agree =
    let r = each after w agree.0 in
    record {
      stands = r.stands;
      faulted_is = ap (λ (l : List Bool). true ∷ l) r.faulted_is;
      faults_are = ap (λ (l : List (Spot × Trap)). (other, kind) ∷ l) r.faults_are ∙ ap (λ (x : Spot). (x, kind) ∷ (others w).faults) (sym agree.1) ∙ ap (λ (x : Trap). (spot, x) ∷ (others w).faults) (sym agree.2);
    }

module _ (source : Source) (t : ℕ) (codes : List PlainCode) (levels : List ℕ) (are : AreProgramCodes source codes) where
  abbrev from : ℕ → List Bool → PlainCells → Outcome PlainCells (Spot × Trap)
  from = in_order (programs_at t (paths_in source) codes levels).run

  -- the programs from a number on
  pub codes_run_alike : (n : ℕ) (flags : List Bool) (cells : PlainCells) (w : World) → n + length flags ≡ length source.programs → StandFor source cells w
      → RanAlike source (from n flags cells) (programs_from source t n flags w)
  codes_run_alike n [] cells w few stands = record { stands = stands; faulted_is = refl; faults_are = refl }
  codes_run_alike n (true ∷ flags) cells w few stands =
      skipped source n (from (suc n) flags cells) (programs_from source t (n + 1) flags w)
      (subst (λ m. RanAlike source (from (suc n) flags cells) (programs_from source t m flags w)) (sym (add-one n)) (codes_run_alike (suc n) flags cells w (omega (arith, few)) stands))
  codes_run_alike n (false ∷ flags) cells w few stands =
      let there : n < length source.programs = omega (arith, few) in
      let next : suc n + length flags ≡ length source.programs = omega (arith, few) in
      let e = (are.each n there).ends t cells w stands in
      subst (λ (r : Run). RanAlike source (run_then n (as_ran cells r) (from (suc n) flags)) (after_run (run_program source n t w) (programs_from source t (n + 1) flags))) (sym e.runs)
      (ran_alike source n e.left cells (from (suc n) flags) (programs_from source t (n + 1) flags)
      (λ c v s. subst (λ m. RanAlike source (from (suc n) flags c) (programs_from source t m flags v)) (sym (add-one n)) (codes_run_alike (suc n) flags c v next s))
      (run_program source n t w) e.result e.agrees)
