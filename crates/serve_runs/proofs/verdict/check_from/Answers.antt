use Rattle.serve_runs.proofs.AdmitLaws.{checked_accepted, checked_failed, checked_refused, checked_unwritten}
use Rattle.serve_runs.proofs.verdict.check_from.Goals as goal

pub returns-in-Ok-clause-told : goal.returns-in-Ok-clause-told
returns-in-Ok-clause-told g c =
    checked_accepted (g.F.Folder.finds c.args.files.now.folder.now) c.args.files.now.path.now c.in-Ok-Some.plant _ _ _ (rw c.in-Ok-Some.field-0-is at c.in-Ok-Some.ensures.told) c.in-Ok.ensures.told

pub returns-in-Err-told-clause-told : goal.returns-in-Err-told-clause-told
returns-in-Err-told-clause-told g c =
    checked_unwritten (g.F.Folder.finds c.args.files.now.folder.now) c.args.files.now.path.now c.in-Ok-Some.plant _ _ _ (rw c.in-Ok-Some.field-0-is at c.in-Ok-Some.ensures.told) c.in-Err-told.fault
    c.in-Err-told.ensures.told

pub returns-in-Ok-None-clause-told : goal.returns-in-Ok-None-clause-told
returns-in-Ok-None-clause-told g c =
    checked_refused (g.F.Folder.finds c.args.files.now.folder.now) c.args.files.now.path.now _ _ (rw c.in-Ok-None.field-0-is at c.in-Ok-None.ensures.told)

pub returns-in-Err-clause-told : goal.returns-in-Err-clause-told
returns-in-Err-clause-told g c =
    checked_failed (g.F.Folder.finds c.args.files.now.folder.now) c.args.files.now.path.now c.in-Err.fault _ _ c.in-Err.ensures.told
