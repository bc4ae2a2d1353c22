use Rattle.std.proofs.Common.{ℕ, List, [], Option, take}
use Rattle.logic_source.specs.declared.logic.Row.{Row}
use Rattle.plant_types.specs.Values.{Path}
use Rattle.logic_source.specs.Ranges.{row_kinds}
use Rattle.logic_carry.specs.Shapes.{AreRows}
use Rattle.logic_carry.specs.Lists.{IsListing, HasPath, Adds}
use Rattle.logic_carry.proofs.lists.list_rows.Given as goal

-- the arrays so far are listed
abbrev pub invariant-loop-row : goal.invariant-loop-row
invariant-loop-row l = record {
  numbered : IsListing l.listed;
  lists : (words : List ℕ → Option ℕ) (arrays : List Row) (q : Path) → AreRows words l.rows arrays → HasPath words l.fn.listed l.path q → Adds words l.fn.listed l.listed (row_kinds (take l.row-index arrays) q) [];
}
