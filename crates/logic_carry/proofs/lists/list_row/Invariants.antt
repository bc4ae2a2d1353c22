use Rattle.std.proofs.Common.{ℕ, List, [], Option, map}
use Rattle.plant_types.specs.Values.{Path}
use Rattle.logic_source.specs.Layout.{elements_from}
use Rattle.logic_source.specs.Ranges.{element_at}
use Rattle.logic_carry.specs.Shapes.{IsMeasured}
use Rattle.logic_carry.specs.Lists.{IsListing, HasPath, Adds}
use Rattle.logic_carry.proofs.lists.list_row.Given as goal

-- the elements so far are listed
abbrev pub invariant-loop-step : goal.invariant-loop-step
invariant-loop-step l = record {
  numbered : IsListing l.listed;
  lists : (words : List ℕ → Option ℕ) (q : Path) → IsMeasured l.row → HasPath words l.fn.listed l.path q → Adds words l.fn.listed l.listed (map (element_at l.row.kind l.row.bounds) (elements_from l.row.bounds.low l.step q)) [];
}
