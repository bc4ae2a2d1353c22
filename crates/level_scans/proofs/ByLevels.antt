-- The programs of a plant in levels: they can be split, and what the levels leave is what the programs leave in the world that the cells stand for.
use Rattle.std.proofs.Common.{◌≡◌, ◌∙◌, ℕ, ◌<◌, ◌≤◌, Bool, List, [], length, map, Some, All, sym, ap, subst, arith}
use Rattle.std.specs.Prelude.{slice_get}
use Rattle.std.proofs.lemmas.List.Elements.{All-weaker}
use Rattle.std.proofs.lemmas.Option.{slice_get_within, get_or_from_slice_get}
use Rattle.plant_types.specs.declared.values.Trap.{Trap}
use Rattle.st_tree.specs.Meaning.{Spot}
use Rattle.logic_source.specs.Source.{Source, global_cells}
use Rattle.logic_source.specs.Worlds.{World}
use Rattle.logic_cells.specs.Cells.{PlainCells}
use Rattle.plant_types.specs.Values.{Path}
use Rattle.vm_carry.specs.Stands.{StandFor}
use Rattle.acc_vm.specs.Codes.{PlainCode}
use Rattle.vm_slices.specs.Parts.{PlainPart}
use Rattle.vm_slices.specs.Slots.{Names, NamesClock}
use Rattle.level_jobs.specs.Stores.{in_order}
use Rattle.level_jobs.specs.Accesses.{HaveOwnCells}
use Rattle.level_jobs.specs.Plans.{IsPlanOf}
use Rattle.level_jobs.specs.Programs.{no_code, code_at, programs_at}
use Rattle.level_jobs.specs.Level.{Stored}
use Rattle.level_jobs.specs.Splits.{ArePartsOf, CanSplit}
use Rattle.level_jobs.specs.declared.fault.ProgramFault.{ProgramFault}
use Rattle.level_jobs.specs.Gathers.{FitCells, EndsInOrder}
use Rattle.level_jobs.specs.Spotted.{HasItsPath, spotted}
use Rattle.level_jobs.proofs.Planned.{planned_can_split, parts_are}
use Rattle.vm_carry.specs.Runs.{HasCells, IsProgramCode, paths_in}
use Rattle.level_scans.specs.Scans.{programs_from}
use Rattle.level_scans.specs.Runs.{ProgramsRan}
use Rattle.level_scans.specs.Levels.{PlainLevelled, AreProgramCodes, AreLevelsOf}
use Rattle.level_scans.specs.Faults.{IsOfProgram, placed_fault}
use Rattle.level_scans.proofs.CodeRuns.{codes_run_alike}
use Rattle.level_scans.proofs.PlacedFaults.{SameSpots, same_faults}

-- the code of a number is that of a program
code_is : (source : Source) (codes : List PlainCode) → AreProgramCodes source codes → (p : ℕ) (a : PlainCode) → slice_get codes p ≡ Some a → IsProgramCode source p a
code_is source codes are p a at =
    let within = slice_get_within codes p a at in
    subst (IsProgramCode source p) (get_or_from_slice_get codes p a no_code at) (are.each p (omega (arith, within, are.one_each)))

-- cells of the source have what each code names
fit : (source : Source) (codes : List PlainCode) → AreProgramCodes source codes → (cells : PlainCells) → HasCells source cells → FitCells codes cells
fit source codes are cells has = record {
  sound = λ p a at. (code_is source codes are p a at).sound;
  values = λ p a at. (code_is source codes are p a at).values cells has;
  clocks = λ p a at. (code_is source codes are p a at).clocks cells has;
}

-- no two programs of a source share a cell of their own
pub record ShareNoCell (source : Source) : Type 0 where
  pub values : (p q s : ℕ) (a b : PlainCode) → IsProgramCode source p a → IsProgramCode source q b → global_cells source ≤ s → Names a.instrs s → Names b.instrs s → p ≡ q
  pub clocks : (p q k : ℕ) (a b : PlainCode) → IsProgramCode source p a → IsProgramCode source q b → NamesClock a.instrs k → NamesClock b.instrs k → p ≡ q

-- so neither do their codes
have_own_cells : (source : Source) → ShareNoCell source → (codes : List PlainCode) → AreProgramCodes source codes → HaveOwnCells (global_cells source) codes
have_own_cells source none codes are =
    let one_each = are.one_each in
    record {
      values = λ p q s lp lq above one other. none.values p q s (code_at codes p) (code_at codes q) (are.each p (omega (arith, lp, one_each))) (are.each q (omega (arith, lq, one_each))) above one other;
      clocks = λ p q k lp lq one other. none.clocks p q k (code_at codes p) (code_at codes q) (are.each p (omega (arith, lp, one_each))) (are.each q (omega (arith, lq, one_each))) one other;
    }

-- a store of the cells and the flags, before a scan at a moment
abbrev pub stored : PlainCells → List Bool → ℕ → Stored
stored cells flags t = record { cells = cells; faulted = flags; moment = t; out = [] }

-- each level can be split
pub can_split : (source : Source) → ShareNoCell source → (l : PlainLevelled) → AreLevelsOf source l → (cells : PlainCells) (flags : List Bool) (t : ℕ) → HasCells source cells → length flags ≡ length source.programs → length source.programs ≤ 512
    → (parts : List PlainPart) (levels : List ℕ) (start : Stored) → parts ≡ l.parts → levels ≡ l.levels → start ≡ stored cells flags t → (level : ℕ) → CanSplit parts levels level start.cells (length start.faulted)
can_split source none l is cells flags t has flagged few parts levels start parts_is levels_is start_is level =
    let one_code = is.are.one_each in
    let one_part = is.parts.one_each in
    let split : CanSplit l.parts l.levels level cells (length flags)
    = planned_can_split (global_cells source) is.codes l.levels is.plan (have_own_cells source none is.codes is.are) l.parts cells (length flags) (parts_are is.codes l.parts is.parts) (fit source is.codes is.are cells has)
    (is.plan.plan.one_each ∙ is.plan.are.one_each ∙ sym one_part) (omega (arith, flagged, one_code, one_part)) (omega (arith, few, one_code, one_part)) level in
    subst (λ (s : Stored). CanSplit parts levels level s.cells (length s.faulted)) (sym start_is)
    (subst (λ (p : List PlainPart). CanSplit p levels level cells (length flags)) (sym parts_is) (subst (λ (n : List ℕ). CanSplit l.parts n level cells (length flags)) (sym levels_is) split))

-- faults at paths of codes are at paths of their programs
pub of_programs : (source : Source) (codes : List PlainCode) → AreProgramCodes source codes → (faults : List ProgramFault) → All (HasItsPath codes) faults → All (λ f. IsOfProgram source f) faults
of_programs source codes are faults all =
    All-weaker (HasItsPath codes) (λ f. IsOfProgram source f)
    (λ f has.
    let there : f.program < length source.programs = omega (arith, has.program, are.one_each) in
    record { there = there; path = omega (arith, has.path, (are.each f.program there).paths) })
    faults all

-- what a run of the levels from a store says of program order
abbrev pub RunsInOrder : List PlainPart → List ℕ → Stored → Stored → List ProgramFault → Type 0
RunsInOrder parts levels start end faults = (paths : ℕ → List Path) (globals : ℕ) (codes : List PlainCode) → ArePartsOf codes parts → IsPlanOf globals codes levels → HaveOwnCells globals codes
    → length start.faulted ≡ length codes
    → EndsInOrder (in_order (programs_at start.moment paths codes levels).run 0 start.faulted start.cells) end (spotted paths faults)

-- what the levels leave
pub levels_ran : (source : Source) → ShareNoCell source → (t : ℕ) (l : PlainLevelled) → AreLevelsOf source l → SameSpots source → (cells : PlainCells) (flags : List Bool) → length flags ≡ length source.programs
    → (parts : List PlainPart) (levels : List ℕ) (start end : Stored) (faults : List ProgramFault) → parts ≡ l.parts → levels ≡ l.levels → start ≡ stored cells flags t
    → RunsInOrder parts levels start end faults → All (λ f. IsOfProgram source f) faults
    → (w : World) → StandFor source cells w → ProgramsRan source (programs_from source t 0 flags w) end.cells end.faulted (map (placed_fault source) faults)
levels_ran source none t l is same cells flags flagged parts levels start end faults parts_is levels_is start_is runs of w stands =
    let by : RunsInOrder l.parts l.levels (stored cells flags t) end faults
    = subst (λ (p : List PlainPart). RunsInOrder p l.levels (stored cells flags t) end faults) parts_is (subst (λ (n : List ℕ). RunsInOrder parts n (stored cells flags t) end faults) levels_is (subst (λ (s : Stored). RunsInOrder parts levels s end faults) start_is runs)) in
    let ends = by (paths_in source) (global_cells source) is.codes (parts_are is.codes l.parts is.parts) is.plan (have_own_cells source none is.codes is.are) (flagged ∙ sym is.are.one_each) in
    let alike = codes_run_alike source t is.codes l.levels is.are 0 flags cells w (omega (arith, flagged)) stands in
    record {
      world_stands = subst (λ (c : PlainCells). StandFor source c (programs_from source t 0 flags w).world) (sym ends.cells) alike.stands;
      faulted_is = ends.faulted ∙ alike.faulted_is;
      faults_are = same_faults source same faults of ∙ ap (map (λ (f : ℕ × (Spot × Trap)). f.1)) ends.faults ∙ alike.faults_are;
    }
