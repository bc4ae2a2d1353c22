use Rattle.std.proofs.Common.{◌≡◌, length, arith}
use Rattle.std.proofs.lemmas.List.{with_items_is}
use Rattle.try_stations.proofs.living.run.Goals as goal

pub close-closing-requires : goal.close-closing-requires
close-closing-requires g c =
    let seated = c.push_rows.new.consoles in
    let long : length seated ≡ c.in-Ok.consoles.len = omega (arith, c.push_rows.auto.consoles, c.as_mut_slice.ensures.len) in
    c.end_all.ensures c.push_rows.new.station.lanes (rw (with_items_is c.in-Ok.consoles seated long) c.push_rows.ensures)
