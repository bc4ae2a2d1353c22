-- The programs of a source in levels.
use Rattle.std.specs.Prelude.{◌≡◌, ℕ, ◌<◌, List, length}
use Rattle.logic_source.specs.Source.{Source, global_cells}
use Rattle.acc_vm.specs.Codes.{PlainCode}
use Rattle.vm_slices.specs.Parts.{PlainPart}
use Rattle.level_jobs.specs.Accesses.{ArePartsOf}
use Rattle.level_jobs.specs.Plans.{IsPlanOf}
use Rattle.level_jobs.specs.Programs.{code_at}
use Rattle.vm_carry.specs.Runs.{IsProgramCode}

-- the programs' parts of the cells, and their levels
pub record PlainLevelled : Type 0 where
  pub parts : List PlainPart
  pub levels : List ℕ

-- codes are those of the programs of a source, one for each
pub record AreProgramCodes (source : Source) (codes : List PlainCode) : Type 0 where
  pub one_each : length codes ≡ length source.programs
  pub each : (p : ℕ) → p < length source.programs → IsProgramCode source p (code_at codes p)

-- parts are those of the programs' codes
pub record AreProgramParts (source : Source) (parts : List PlainPart) : Type 0 where
  pub codes : List PlainCode
  pub are : AreProgramCodes source codes
  pub of_codes : ArePartsOf codes parts

-- parts and levels are those of the programs' codes
pub record AreLevelsOf (source : Source) (l : PlainLevelled) : Type 0 where
  pub codes : List PlainCode
  pub are : AreProgramCodes source codes
  pub parts : ArePartsOf codes l.parts
  pub plan : IsPlanOf (global_cells source) codes l.levels
