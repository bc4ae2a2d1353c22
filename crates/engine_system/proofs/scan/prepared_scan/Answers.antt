use Rattle.std.proofs.Common.{arith}
use Rattle.std.proofs.lemmas.Grind.{common_steps}
use Rattle.engine_system.proofs.InRange.{taken_fits}
use Rattle.engine_system.proofs.scan.prepared_scan.Goals as goal

pub run_scan-requires-clause-image : goal.run_scan-requires-clause-image
run_scan-requires-clause-image g c =
    rw c.as_slice.ensures.value (taken_fits _ _ _ _ _ _ _ c.in_ok-taken_image.ensures.ok)

pub returns-in-Ok-clause-ok : goal.returns-in-Ok-clause-ok
returns-in-Ok-clause-ok g c = grind (arith, common_steps)

pub returns-in-Err-clause-err : goal.returns-in-Err-clause-err
returns-in-Err-clause-err g c = grind (arith, common_steps)
