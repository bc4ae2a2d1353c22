use Rattle.std.proofs.Common.{map}
use Rattle.logic_source.specs.Source.{view_routine}
use Rattle.logic_frames.specs.Built.{AllBegun}
use Rattle.logic_frames.proofs.frames.add_programs.Given as goal

-- the programs so far
abbrev pub invariant-loop-program : goal.invariant-loop-program
invariant-loop-program l = AllBegun l.globals l.members (map view_routine l.programs) l.table l.fn.frames.items l.program-index l.frames.items
