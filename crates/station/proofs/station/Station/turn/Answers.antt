use Rattle.std.proofs.Common.{◌≡◌, ◌∷◌, [], ◌++◌, ◌∙◌, ◌≤◌, length, refl, ap, arith}
use Rattle.std.proofs.lemmas.List.{with_items_is}
use Rattle.console_recorder.specs.Engines.{state_of}
use Rattle.console_boards.specs.Readers.{log_kept}
use Rattle.console_recorder.specs.Turns.{TookParts}
use Rattle.console_recorder.proofs.Takes.{parts_moved}
use Rattle.station.specs.Stations.{PlainStation}
use Rattle.station.proofs.Agrees.{scan_orders_nothing}
use Rattle.station.proofs.Ends.{keeps, same_parts}
use Rattle.station.proofs.Turning.{station_kept, station_turned}
use Rattle.station.proofs.station.Station.turn.Goals as goal

pub invariant_of-self-2 : goal.invariant_of-self-2
invariant_of-self-2 g c =
    let s = c.self.inside in
    let old = s.recorder.engine in
    let e = c.take_parts-part.new.recorder.engine in
    let lanes = c.take_parts-part.new.lanes in
    let took = c.in_ok-report.ensures.ok in
    let before = old.history ++ took.event ∷ [] in
    let parts : TookParts old.plant s.lanes.items lanes before e.history c.take_parts-part.result.taken c.take_parts-part.result.stopped =
    parts_moved c.scan.new.self.engine.plant old.plant c.as_mut_slice.result.now s.lanes.items lanes c.scan.new.self.engine.history before e.history c.take_parts-part.result.taken c.take_parts-part.result.stopped
    c.scan.ensures.plant c.as_mut_slice.ensures.value took.history_is c.take_parts-part.ensures.parts in
    let long : length lanes ≡ s.lanes.len = omega (arith, c.take_parts-part.auto.lanes, c.as_mut_slice.ensures.len) in
    rw (with_items_is s.lanes lanes long)
    (station_kept old.plant e.plant e.history e.history (log_kept s.recorder.board) (log_kept c.take_parts-part.new.recorder.board) lanes (c.take_parts-part.ensures.plant ∙ c.scan.ensures.plant) refl (c.take_parts-part.ensures.log ∙ c.scan.ensures.log)
    (station_turned old.plant old.history e.history (log_kept s.recorder.board) took.event s.lanes.items lanes c.take_parts-part.result.taken c.take_parts-part.result.stopped
    (scan_orders_nothing (state_of old) c.args.pairs.now c.args.moment took.event took.event_is) parts c.self.invariant))

pub returns-clause-consoles : goal.returns-clause-consoles
returns-clause-consoles g c =
    let s = c.self.inside in
    let old = s.recorder.engine in
    let e = c.take_parts-part.new.recorder.engine in
    let lanes = c.take_parts-part.new.lanes in
    let took = c.in_ok-report.ensures.ok in
    let before = old.history ++ took.event ∷ [] in
    let parts : TookParts old.plant s.lanes.items lanes before e.history c.take_parts-part.result.taken c.take_parts-part.result.stopped =
    parts_moved c.scan.new.self.engine.plant old.plant c.as_mut_slice.result.now s.lanes.items lanes c.scan.new.self.engine.history before e.history c.take_parts-part.result.taken c.take_parts-part.result.stopped
    c.scan.ensures.plant c.as_mut_slice.ensures.value took.history_is c.take_parts-part.ensures.parts in
    let long : length lanes ≡ s.lanes.len = omega (arith, c.take_parts-part.auto.lanes, c.as_mut_slice.ensures.len) in
    rw (with_items_is s.lanes lanes long, ← c.self.view_is)
    (keeps s.lanes.items lanes (same_parts old.plant s.lanes.items lanes before e.history c.take_parts-part.result.taken c.take_parts-part.result.stopped parts))

pub returns-clause-whole : goal.returns-clause-whole
returns-clause-whole g c =
    let s = c.self.inside in
    let refused = c.take_parts-part.ensures.refused in
    let old = ap (λ (x : PlainStation _). x.refusals) c.self.view_is in
    let low : length s.recorder.refusals ≤ length c.scan.new.self.refusals = c.scan.ensures.counted in
    let high : length c.scan.new.self.refusals ≤ length c.take_parts-part.new.recorder.refusals = refused.counted in (
      omega (arith, old, low, high),
      λ same.
          let still : length c.take_parts-part.new.recorder.refusals ≡ length c.scan.new.self.refusals = omega (arith, old, low, high, same) in
          (refused.goes_on still, refused.shows still (c.in_ok-report.ensures.shown (omega (arith, old, low, high, same)))),
    )
