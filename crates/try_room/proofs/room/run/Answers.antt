use Rattle.try_desks.proofs.Seats.{seated_on}
use Rattle.try_room.proofs.room.run.Goals as goal

pub close-closing-requires : goal.close-closing-requires
close-closing-requires g c =
    let lanes = c.in-Ok.station.lanes in let later = c.go_through-day.new.station.lanes in let threads = c.seat_all-threads.result.items in
    c.join_all-finished.ensures later (seated_on lanes later threads c.go_through-day.ensures (c.seat_all-threads.ensures lanes c.in-Ok.ensures.consoles))
