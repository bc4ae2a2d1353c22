use Rattle.std.proofs.Common.{◌≡◌, ◌+◌, ◌-◌, length}
use Rattle.logic_source.specs.Source.{source_of}
use Rattle.logic_frames.specs.Opening.{programs_started}
use Rattle.vm_logic.proofs.opening.start_programs.Given as goal

-- what is left to start from here gives what all give from the first on
abbrev pub invariant-loop-program : goal.invariant-loop-program
invariant-loop-program l = record {
  place_is : l.place ≡ length l.order + l.program;
  left_is : programs_started (source_of l.logic) l.order l.frames (length (source_of l.logic).programs - l.program) l.program l.cells ≡ programs_started (source_of l.logic) l.order l.frames (length (source_of l.logic).programs) 0 l.initial.cells;
}
