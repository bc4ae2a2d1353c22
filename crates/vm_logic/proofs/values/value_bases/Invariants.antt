use Rattle.std.proofs.Common.{◌≡◌}
use Rattle.logic_source.specs.Source.{source_of}
use Rattle.logic_source.specs.Seats.{program_values_base}
use Rattle.vm_logic.specs.Bases.{AreBases}
use Rattle.vm_logic.proofs.values.value_bases.Given as goal

abbrev pub invariant-loop-program : goal.invariant-loop-program
invariant-loop-program l = record {
  at_is : l.at ≡ program_values_base (source_of l.logic) l.program-index;
  so_far : AreBases (program_values_base (source_of l.logic)) l.program-index l.row.items;
}
