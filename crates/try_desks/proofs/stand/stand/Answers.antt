use Rattle.try_desks.proofs.Seats.{same_on, end_from}
use Rattle.try_desks.proofs.stand.stand.Goals as goal

-- src/stand.rt:55:1
pub returns : goal.returns
returns c =
    let begun = c.args.console in let late = c.wind_up.new.console in
    end_from begun late c.finish.result (same_on begun.link c.go_rounds.new.console.link late.link c.go_rounds.ensures c.wind_up.ensures) c.finish.ensures
