use Rattle.std.proofs.Common.{◌≡◌, drop, map}
use Rattle.logic_source.specs.Source.{view_routine}
use Rattle.logic_frames.specs.Reached as reached
use Rattle.logic_frames.proofs.reached.flag_programs.Given as goal

-- what is left to flag gives the flags of all
abbrev pub invariant-loop-program : goal.invariant-loop-program
invariant-loop-program l = reached.flag_programs l.calls l.flags.items (map view_routine (drop l.program-index l.programs)) ≡ reached.flag_programs l.calls l.initial.flags.items (map view_routine l.programs)
