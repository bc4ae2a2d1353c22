use Rattle.std.proofs.Common.{◌≡◌, ◌+◌, ◌++◌, length, drop}
use Rattle.logic_source.specs.Source.{source_of}
use Rattle.logic_source.specs.Seats.{program_clocks_base}
use Rattle.vm_logic.specs.Bases.{AreBases}
use Rattle.vm_logic.specs.Framed.{all_standards}
use Rattle.vm_logic.proofs.Placed.{standards_in}
use Rattle.vm_logic.proofs.standards.standards_of.Given as goal

abbrev pub invariant-loop-program : goal.invariant-loop-program
invariant-loop-program l = record {
  place_is : l.place ≡ length l.order + l._program-index;
  list_is : l.list.items ++ standards_in (source_of l.logic).blocks (drop l._program-index (source_of l.logic).programs) ≡ all_standards (source_of l.logic);
  many : length l.list.items ≡ program_clocks_base (source_of l.logic) l._program-index;
  so_far : AreBases (program_clocks_base (source_of l.logic)) l._program-index l.bases.items;
}
