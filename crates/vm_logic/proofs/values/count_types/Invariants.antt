use Rattle.std.proofs.Common.{◌≡◌, ℕ, map, take, length}
use Rattle.st_blocks.specs.Chains.{Among}
use Rattle.logic_source.specs.Source.{view_routine}
use Rattle.logic_source.specs.Layout.{cells_per_type}
use Rattle.vm_logic.specs.Bases.{stopped, numbers_in}
use Rattle.vm_logic.proofs.values.count_types.Given as goal

abbrev pub invariant-loop-number : goal.invariant-loop-number
invariant-loop-number l = record {
  long : length l.counts.items ≡ length (map view_routine l.blocks);
  known : (n : ℕ) → Among (take l.number-index l.order) n → numbers_in l.counts.items n ≡ stopped (cells_per_type (map view_routine l.blocks) n);
}
