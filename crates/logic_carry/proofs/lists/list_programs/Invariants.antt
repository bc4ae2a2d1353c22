use Rattle.std.proofs.Common.{ℕ, List, Option, take}
use Rattle.logic_source.specs.Source.{PlainRoutine}
use Rattle.logic_source.specs.Layout.{program_clocks}
use Rattle.logic_source.specs.Ranges.{program_kinds}
use Rattle.logic_carry.specs.Shapes.{AreTable, ArePrograms}
use Rattle.logic_carry.specs.Lists.{IsListing, Adds}
use Rattle.logic_carry.proofs.lists.list_programs.Given as goal

-- the programs so far are listed
abbrev pub invariant-loop-program : goal.invariant-loop-program
invariant-loop-program l = record {
  numbered : IsListing l.listed;
  lists : (words : List ℕ → Option ℕ) (blocks routines : List PlainRoutine) → AreTable words l.table blocks → ArePrograms words l.programs routines
      → Adds words l.fn.listed l.listed (program_kinds blocks (take l.program-index routines)) (program_clocks blocks (take l.program-index routines));
}
