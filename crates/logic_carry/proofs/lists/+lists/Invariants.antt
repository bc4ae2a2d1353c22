use Rattle.std.proofs.Common.{◌+◌, ◌*◌, ◌++◌, ℕ, List, [], Option, take}
use Rattle.logic_source.specs.Source.{PlainRoutine}
use Rattle.logic_source.specs.Blocks.{levels}
use Rattle.plant_types.specs.Values.{Path}
use Rattle.logic_source.specs.Layout.{instance_clocks, clocks_rule}
use Rattle.logic_source.specs.Ranges.{own_kinds, instance_kinds, kinds_rule}
use Rattle.logic_carry.specs.Shapes.{AreTable, IsShape}
use Rattle.logic_carry.specs.Lists.{IsListing, HasPath, Adds}
use Rattle.logic_carry.proofs.lists.+lists.Given as goal

-- each call goes one level deeper, or comes to an instance of the same level
abbrev pub decreases-list_block : goal.decreases-list_block
decreases-list_block l = 3 * l.depth

abbrev pub decreases-list_part : goal.decreases-list_part
decreases-list_part l = 3 * l.depth + 1

abbrev pub decreases-list_routine : goal.decreases-list_routine
decreases-list_routine l = 3 * l.depth + 2

-- the instances so far are listed
abbrev pub invariant-list_routine-loop-part : goal.invariant-list_routine-loop-part
invariant-list_routine-loop-part l = record {
  numbered : IsListing l.listed;
  lists : (words : List ℕ → Option ℕ) (blocks : List PlainRoutine) (r : PlainRoutine) (q : Path) → AreTable words l.table blocks → IsShape words l.shape r → HasPath words l.fn.listed l.path q
      → Adds words l.fn.listed l.listed (own_kinds r q ++ instance_kinds (levels (λ path. []) kinds_rule blocks l.depth) (take l.part-index r.instances) q) (instance_clocks (levels (λ path. []) clocks_rule blocks l.depth) (take l.part-index r.instances) q);
}
