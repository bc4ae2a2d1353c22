use Rattle.logic_source.specs.Source.{view_routine}
use Rattle.std.proofs.Common.{◌≡◌, map, length}
use Rattle.logic_frames.specs.Built.{AllBuilt}
use Rattle.logic_frames.proofs.Sizes.{AreSized}
use Rattle.logic_frames.proofs.frames.frames_of_blocks.Given as goal

-- the block types so far
abbrev pub invariant-loop-number : goal.invariant-loop-number
invariant-loop-number l = record {
  many : length l.frames.items ≡ l.number-index;
  long : length l.table.items ≡ length l.blocks;
  built : AllBuilt l.globals l.members (map view_routine l.blocks) l.order l.used l.run l.number-index l.frames.items l.table.items;
  sized : AreSized (map view_routine l.blocks) l.order l.used l.run l.number-index l.table.items;
}
