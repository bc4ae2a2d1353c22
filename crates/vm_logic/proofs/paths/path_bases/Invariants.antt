use Rattle.std.proofs.Common.{◌≡◌, ◌+◌, length}
use Rattle.logic_source.specs.Source.{source_of}
use Rattle.vm_logic.specs.Bases.{program_paths_base, AreBases}
use Rattle.vm_logic.proofs.paths.path_bases.Given as goal

abbrev pub invariant-loop-program : goal.invariant-loop-program
invariant-loop-program l = record {
  place_is : l.place ≡ length l.order + l._program-index;
  at_is : l.at ≡ program_paths_base (source_of l.logic) l._program-index;
  so_far : AreBases (program_paths_base (source_of l.logic)) l._program-index l.row.items;
}
