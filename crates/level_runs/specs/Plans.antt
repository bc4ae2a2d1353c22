-- The plan of codes.
use Rattle.std.specs.Prelude.{ℕ, List}
use Rattle.acc_vm.specs.Codes.{PlainCode}
use Rattle.level_plan.specs.Accesses.{PlainAccess, StayWithin}
use Rattle.level_plan.specs.Plans.{IsPlan}
use Rattle.level_runs.specs.Accesses.{AreAccessesOf}

-- levels are the plan of what codes do to so many globals, and of nothing else
pub record IsPlanOf (globals : ℕ) (codes : List PlainCode) (levels : List ℕ) : Type 0 where
  pub accesses : List PlainAccess
  pub are : AreAccessesOf globals codes accesses
  pub within : StayWithin globals accesses
  pub plan : IsPlan accesses levels
