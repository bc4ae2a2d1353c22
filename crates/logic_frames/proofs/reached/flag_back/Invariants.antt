use Rattle.std.proofs.Common.{◌≡◌, ◌≤◌, take, map, length}
use Rattle.logic_source.specs.Source.{view_routine}
use Rattle.logic_frames.specs.Reached as reached
use Rattle.logic_frames.proofs.reached.flag_back.Given as goal

-- what is left to flag gives the flags of all
abbrev pub invariant-loop-left : goal.invariant-loop-left
invariant-loop-left l = record {
  within : l.left ≤ length l.order;
  same : reached.flag_back l.calls (map view_routine l.blocks) (take l.left l.order) l.flags.items ≡ reached.flag_back l.calls (map view_routine l.blocks) l.order l.initial.flags.items;
}

abbrev pub decreases-loop-left : goal.decreases-loop-left
decreases-loop-left l = l.left
