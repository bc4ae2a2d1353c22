use Rattle.std.proofs.Common.{◌≡◌, ℕ, ◌<◌, length}
use Rattle.st_blocks.specs.Graphs.{next_of}
use Rattle.st_blocks.specs.Names.{row_at}
use Rattle.st_blocks.proofs.names.graph_of.Given as goal

abbrev pub invariant-loop-a : goal.invariant-loop-a
invariant-loop-a l = record {
  long : length l.graph.items ≡ l.a;
  row : (i : ℕ) → i < l.a → next_of l.graph.items i ≡ row_at l.blocks i;
}
