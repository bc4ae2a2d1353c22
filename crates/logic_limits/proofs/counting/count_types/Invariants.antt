use Rattle.std.proofs.Common.{◌≡◌, ℕ, map, take, length}
use Rattle.st_blocks.specs.Chains.{Among}
use Rattle.logic_source.specs.Source.{view_routine}
use Rattle.logic_limits.proofs.Tables.{Known}
use Rattle.logic_limits.proofs.counting.count_types.Given as goal

abbrev pub invariant-loop-number : goal.invariant-loop-number
invariant-loop-number l = record {
  long : length l.table.items ≡ length (map view_routine l.blocks);
  known : (n : ℕ) → Among (take l.number-index l.order) n → Known (map view_routine l.blocks) l.table.items n;
}
