use Rattle.std.proofs.Common.{◌≡◌, filter, take}
use Rattle.st_blocks.specs.Names.{is_first}
use Rattle.st_blocks.proofs.names.firsts.Given as goal

abbrev pub invariant-loop-a : goal.invariant-loop-a
invariant-loop-a l = l.order.items ≡ filter (is_first l.blocks) (take l.a-index l.numbers)
