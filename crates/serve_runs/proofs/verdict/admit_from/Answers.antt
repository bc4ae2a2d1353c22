use Rattle.std.proofs.Common.{string_bytes, false}
use Rattle.plant_folder.specs.Verdicts.{IsFilesVerdict}
use Rattle.serve_runs.proofs.AdmitLaws.{told_of}
use Rattle.serve_runs.proofs.verdict.admit_from.Goals as goal

pub returns-in-Ok-clause-told : goal.returns-in-Ok-clause-told
returns-in-Ok-clause-told g c =
    told_of (IsFilesVerdict (g.F.Folder.finds c.args.files.now.folder.now) c.args.files.now.path.now false) c.in-Ok.plant (string_bytes c.in-Ok.line) _ _ c.told.result c.in-Ok.ensures
    (rw c.as_str.ensures.value at c.told.ensures.told)
