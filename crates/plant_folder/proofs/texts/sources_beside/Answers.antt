use Rattle.plant_folder.proofs.FetchLaws.{missed_at, sources_more}
use Rattle.plant_folder.proofs.texts.sources_beside.Goals as goal

pub returns-in-Err-clause-missed : goal.returns-in-Err-clause-missed
returns-in-Err-clause-missed g c =
    missed_at (g.F.Folder.finds c.args.files.now.folder.now) c.args.files.now.path.now c.args.names.now c.loop-name.name-index c.name-item.result _ c.in-Err.fault c.loop-name-test.true c.name-item.is
    c.loop-name.invariant.1 (rw c.as_str.ensures at c.in-Err.ensures)

pub loop-name-preserved : goal.loop-name-preserved
loop-name-preserved g c =
    sources_more (g.F.Folder.finds c.args.files.now.folder.now) c.args.files.now.path.now c.args.names.now c.loop-name.name-index c.name-item.result (λ s. s.name) (λ s. s.text.items) c.loop-name.sources.items
    c.push.new.self.items _ c.loop-name-test.true c.name-item.is c.loop-name.invariant c.in_ok-push-in-Ok.ensures.items c.in_ok-name-in-Ok.ensures (rw c.as_str.ensures at c.in-Ok.ensures)
