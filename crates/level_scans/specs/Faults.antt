-- Faults by the paths of their programs, and by those of the source.
use Rattle.std.specs.Prelude.{◌<◌, length}
use Rattle.plant_types.specs.declared.values.Place.{Place}
use Rattle.plant_types.specs.declared.values.Trap.{Trap}
use Rattle.logic_source.specs.Source.{Source}
use Rattle.level_jobs.specs.declared.fault.ProgramFault.{ProgramFault}
use Rattle.vm_carry.specs.Bases.{program_paths_base}
use Rattle.vm_carry.specs.Runs.{paths_in, placed_from}

-- a fault is of a program of the source, at one of its paths
pub record IsOfProgram (source : Source) (fault : ProgramFault) : Type 0 where
  pub there : fault.program < length source.programs
  pub path : fault.stop.place.path < length (paths_in source fault.program)

-- a fault, with the number that its path has in the source
abbrev pub placed_fault : Source → ProgramFault → Place × Trap
placed_fault source fault = (placed_from (program_paths_base source fault.program) fault.stop.place, fault.stop.trap)
