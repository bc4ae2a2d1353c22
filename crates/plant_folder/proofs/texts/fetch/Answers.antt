use Rattle.plant_folder.proofs.FetchLaws.{fetch_missed, fetch_unnamed}
use Rattle.plant_folder.proofs.texts.fetch.Goals as goal

pub returns-in-Err-named_files : goal.returns-in-Err-named_files
returns-in-Err-named_files g c =
    fetch_unnamed (g.F.Folder.finds c.args.files.now.folder.now) c.args.files.now.path.now c.in-Ok.plant.items c.in-Err-named_files.fault c.in-Ok.ensures
    (rw c.as_slice.ensures.value at c.in-Err-named_files.ensures)

pub returns-in-Err-sources_beside : goal.returns-in-Err-sources_beside
returns-in-Err-sources_beside g c =
    fetch_missed (g.F.Folder.finds c.args.files.now.folder.now) c.args.files.now.path.now c.in-Ok.plant.items c.in-Ok-named_files.named c.in-Err-sources_beside.fault c.in-Ok.ensures
    (rw c.as_slice.ensures.value at c.in-Ok-named_files.ensures)
    (rw c.as_slice-2.ensures at c.in-Err-sources_beside.ensures.missed)
