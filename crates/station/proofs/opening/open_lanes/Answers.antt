use Rattle.std.proofs.Common.{◌≡◌, ◌+◌, ◌∷◌, [], ◌++◌, take, ap, sym, ◌∙◌, Some}
use Rattle.std.proofs.lemmas.List.{map_more}
use Rattle.std.proofs.lemmas.List.Elements.{All-push}
use Rattle.plant_file.specs.declared.console.ListedConsole.{ListedConsole}
use Rattle.console_operator.specs.Sights.{BoardStory}
use Rattle.console_boards.specs.Readers.{published, log_kept}
use Rattle.station.specs.Lanes.{numbers_of, IsFresh, IsUnused, HasNotLooked, IsOfLog}
use Rattle.station.proofs.Openings.{operators_more}
use Rattle.station.proofs.opening.open_lanes.Goals as goal

pub loop-row-preserved : goal.loop-row-preserved
loop-row-preserved c =
    let h = c.loop-row.invariant in
    let made = c.in_ok-link.ensures in
    let given = c.in-Ok.ensures in
    let row = c.row-item.result in
    let more : numbers_of (take (c.loop-row.row-index + 1) c.args.listed.now) ≡ numbers_of (take c.loop-row.row-index c.args.listed.now) ++ row.number ∷ [] =
    map_more (λ (x : ListedConsole). x.number) c.args.listed.now c.loop-row.row-index row c.loop-row-test.true
    ∙ ap (λ (x : ListedConsole). numbers_of (take c.loop-row.row-index c.args.listed.now) ++ x.number ∷ []) (sym c.row-item.is) in
    let fresh : IsFresh c.in_ok-link.link = record { none_submitted = made.console.1; none_taken = made.console.2; room = made.console.3 } in
    let unused : IsUnused c.in_ok-link.lane = record { taken = made.lane.1; given = made.lane.2; is_open = made.lane.4 } in
    let looks : HasNotLooked (published c.args.board.now) c.new.result = record {
      none_seen = c.new.ensures.seen.0 ∙ given.reader.0;
      told_is = c.new.ensures.seen.1 ∙ (given.reader.1 ∙ ap (λ (s : BoardStory). Some s) h.3);
    } in
    let marked : IsOfLog (log_kept c.args.board.now) c.in_ok-link.lane = made.lane.5 ∙ c.mark-start.ensures.0 in (
      rw (more, c.in_ok-push.ensures.items, c.in_ok-push-2.ensures.items)
          (operators_more (numbers_of (take c.loop-row.row-index c.args.listed.now)) c.loop-row.consoles.items c.loop-row.lanes.items row.number c.new.result c.in_ok-link.link c.in_ok-link.lane
          h.0 c.new.ensures.rings made.pair made.console.0 made.lane.0 fresh unused),
      rw c.in_ok-push.ensures.items (All-push (HasNotLooked (published c.args.board.now)) c.loop-row.consoles.items c.new.result h.1 looks),
      rw c.in_ok-push-2.ensures.items (All-push (IsOfLog (log_kept c.args.board.now)) c.loop-row.lanes.items c.in_ok-link.lane h.2 marked),
      given.same.0 ∙ h.3,
      given.same.1 ∙ h.4,
      given.same.2 ∙ h.5,
    )

pub new-requires : goal.new-requires
new-requires c = record { log = c.in_ok-link.ensures.console.4 ∙ (c.mark-start.ensures.0 ∙ (sym c.loop-row.invariant.5 ∙ sym c.in-Ok.ensures.reader.2)) }
