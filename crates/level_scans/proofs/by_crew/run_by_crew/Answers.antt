use Rattle.level_scans.proofs.PlacedFaults.{placed_within}
use Rattle.level_scans.proofs.by_crew.run_by_crew.Goals as goal

pub returns-in-Ok-clause-within : goal.returns-in-Ok-clause-within
returns-in-Ok-clause-within g c =
    let source = c.args.given.now.framed.now in
    placed_within source (c.place_is_in_source.ensures.within source) c.in_ok-told.told.items c.as_slice.result.now c.list_placed.new.all.items c.in-Ok.ensures c.as_slice.ensures.value
    c.in_ok-told.ensures.told
