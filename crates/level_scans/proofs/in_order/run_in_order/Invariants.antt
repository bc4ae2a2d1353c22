use Rattle.std.proofs.Common.{◌≡◌, ◌<◌, length, All}
use Rattle.logic_source.specs.Worlds.{World}
use Rattle.logic_source.specs.Paths.{paths_of}
use Rattle.vm_carry.specs.Stands.{StandFor}
use Rattle.vm_carry.specs.Runs.{HasCells}
use Rattle.level_scans.specs.Scans.{programs_from}
use Rattle.level_scans.proofs.ProgramRuns.{Reached}
use Rattle.level_scans.proofs.in_order.run_in_order.Given as goal

abbrev pub invariant-loop-at : goal.invariant-loop-at
invariant-loop-at l = record {
  few : l.at-end ≡ length (l.given.framed.now.programs);
  same : length l.changed.faulted.now.items ≡ l.at-end;
  cells_there : HasCells l.given.framed.now l.changed.cells.now;
  within : All (λ f. f.0.path < length (paths_of l.given.framed.now)) l.changed.faults.now.items;
  reached : (w : World) → StandFor l.given.framed.now l.fn.changed.cells.now w → Reached l.given.framed.now l.given.moment (programs_from l.given.framed.now l.given.moment 0 l.fn.changed.faulted.now.items w) l.at l.changed.cells.now l.changed.faulted.now.items l.changed.faults.now.items;
  same_cells : l.changed.cells.ghost_name ≡ l.fn.changed.cells.ghost_name;
  same_faulted : l.changed.faulted.ghost_name ≡ l.fn.changed.faulted.ghost_name;
  same_faults : l.changed.faults.ghost_name ≡ l.fn.changed.faults.ghost_name;
  same_space : l.changed.space.ghost_name ≡ l.fn.changed.space.ghost_name;
}
