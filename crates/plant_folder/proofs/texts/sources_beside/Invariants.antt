use Rattle.std.proofs.Common.{◌≡◌, take, map}
use Rattle.plant_folder.specs.Fetches.{AreFound}
use Rattle.plant_folder.proofs.texts.sources_beside.Given as goal

-- the names so far, whose files are found and have these texts
abbrev pub invariant-loop-name : goal.invariant-loop-name
invariant-loop-name g l =
    (map (λ s. s.name) l.sources.items ≡ take l.name-index l.names)
    × AreFound (g.F.Folder.finds l.files.folder.now) l.files.path.now (take l.name-index l.names) (map (λ s. s.text.items) l.sources.items)
