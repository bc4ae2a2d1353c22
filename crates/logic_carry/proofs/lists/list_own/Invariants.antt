use Rattle.std.proofs.Common.{ℕ, List, [], Option, take}
use Rattle.logic_source.specs.declared.logic.Local.{Local}
use Rattle.plant_types.specs.Values.{Path}
use Rattle.logic_source.specs.Ranges.{local_kinds}
use Rattle.logic_carry.specs.Shapes.{AreOwn}
use Rattle.logic_carry.specs.Lists.{IsListing, HasPath, Adds}
use Rattle.logic_carry.proofs.lists.list_own.Given as goal

-- the variables so far are listed
abbrev pub invariant-loop-variable : goal.invariant-loop-variable
invariant-loop-variable l = record {
  numbered : IsListing l.listed;
  lists : (words : List ℕ → Option ℕ) (locals : List Local) (q : Path) → AreOwn words l.own locals → HasPath words l.fn.listed l.path q → Adds words l.fn.listed l.listed (local_kinds (take l.variable-index locals) q) [];
}
