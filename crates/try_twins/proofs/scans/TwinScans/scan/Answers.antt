use Rattle.try_twins.proofs.Kept.{has_still}
use Rattle.try_twins.proofs.scans.TwinScans.scan.Goals as goal

pub run_programs-requires : goal.run_programs-requires
run_programs-requires c = has_still _ _ _ c.set_inputs.ensures.values c.set_inputs.ensures.clocks c.args.self.now.cells
