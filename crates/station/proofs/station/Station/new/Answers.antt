use Rattle.std.proofs.Common.{List, ℕ, All, sym, subst}
use Rattle.console_operator.specs.Sights.{BoardStory}
use Rattle.console_boards.specs.Readers.{log_kept}
use Rattle.logbook.specs.Pages.{Book}
use Rattle.console_recorder.specs.Engines.{PlainEngine}
use Rattle.station.specs.Lanes.{links_of, HasNoTwin, HasNotLooked}
use Rattle.station.specs.Stations.{IsStation}
use Rattle.station.proofs.Beginnings.{opening_published}
use Rattle.station.proofs.Openings.{all_found}
use Rattle.station.proofs.Turning.{station_opened}
use Rattle.station.proofs.station.Station.new.Goals as goal

pub invariant_of-result : goal.invariant_of-result
invariant_of-result g c =
    let made = c.in-Ok-open_consoles.ensures.opened in
    let e = c.in-Ok.recorder.engine in
    let lanes = c.in-Ok-open_consoles.lanes.items in
    let log = log_kept c.in-Ok.recorder.board in
    subst (λ (b : Book). IsStation c.open_consoles.new.recorder.engine.plant c.open_consoles.new.recorder.engine.history b lanes) (sym c.in-Ok-open_consoles.ensures.log)
    (subst (λ (x : PlainEngine). IsStation x.plant x.history log lanes) (sym c.in-Ok-open_consoles.ensures.engine)
    (station_opened e.plant e.history log lanes c.in-Ok.ensures.engine.1 made.opened.lane_numbers made.is_plant.consoles_once made.is_plant.few_consoles made.opened.unused made.marked))

pub returns-in-Ok-open_consoles-clause-consoles : goal.returns-in-Ok-open_consoles-clause-consoles
returns-in-Ok-open_consoles-clause-consoles g c =
    let made = c.in-Ok-open_consoles.ensures.opened in
    all_found c.in-Ok-open_consoles.lanes.items (links_of c.in-Ok-open_consoles.consoles.items) made.opened.pairs (subst (λ (ns : List ℕ). HasNoTwin ns) (sym made.opened.lane_numbers) made.is_plant.consoles_once)

pub returns-in-Ok-open_consoles-clause-looks : goal.returns-in-Ok-open_consoles-clause-looks
returns-in-Ok-open_consoles-clause-looks g c =
    let is = c.in-Ok.ensures.engine in
    let s = c.in-Ok.recorder in
    subst (λ (t : BoardStory). All (HasNotLooked t) c.in-Ok-open_consoles.consoles.items) (opening_published c.args.plant s.engine.plant s.engine.history s.board is.0 is.1 s.has) c.in-Ok-open_consoles.ensures.opened.looks
