use Rattle.std.proofs.Common.{false}
use Rattle.plant_folder.specs.Verdicts.{IsFilesVerdict}
use Rattle.serve_runs.proofs.AdmitLaws.{quiet-files}
use Rattle.serve_runs.proofs.ServiceLaws.{run-served, run-stopped}
use Rattle.serve_runs.proofs.service.run_from.Goals as goal

pub returns-in-Ok-clause-run : goal.returns-in-Ok-clause-run
returns-in-Ok-clause-run g c =
    let finds = g.D.Folder.finds c.args.files.now.folder.now in
    run-served (IsFilesVerdict finds c.args.files.now.path.now false) (quiet-files finds c.args.files.now.path.now) c.in-Ok-Some.plant _ _ _ _ _ (rw c.in-Ok-Some.field-0-is at c.in-Ok-Some.ensures.told)
    c.in-Ok.ensures.ok

pub returns-in-Err-serve_plant-clause-run : goal.returns-in-Err-serve_plant-clause-run
returns-in-Err-serve_plant-clause-run g c =
    let finds = g.D.Folder.finds c.args.files.now.folder.now in
    run-stopped (IsFilesVerdict finds c.args.files.now.path.now false) (quiet-files finds c.args.files.now.path.now) c.in-Ok-Some.plant _ _ _ _ _ (rw c.in-Ok-Some.field-0-is at c.in-Ok-Some.ensures.told)
    c.in-Err-serve_plant.fault c.in-Err-serve_plant.ensures.err
