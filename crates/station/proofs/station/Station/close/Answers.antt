use Rattle.std.proofs.Common.{◌≡◌, ℕ, true, List, length, All, Some, ap, sym, ◌∙◌, subst, arith}
use Rattle.std.proofs.lemmas.List.{with_items_is}
use Rattle.console_link.specs.declared.lane.Lane.{Lane}
use Rattle.alarm_orders.specs.declared.order.Order.{Order}
use Rattle.console_recorder.specs.Reply.{Reply}
use mathlib.Core.List.{IsPrefix}
use Rattle.logbook.specs.Pages.{Book}
use Rattle.console_boards.specs.declared.entry.BoardEntry.{BoardEntry}
use Rattle.console_recorder.specs.Entries.{entries_of}
use Rattle.console_operator.specs.Sights.{BoardStory}
use Rattle.console_operator.specs.declared.console.Finished.{Finished as Ended}
use Rattle.station.specs.Lanes.{IsEndIn, IsOfLog, HasNoTwin, numbers_in, links_in, ended_of, is_within}
use Rattle.station.specs.Stations.{AreBeginnings}
use Rattle.station.specs.Closings.{AreEnded}
use Rattle.station.proofs.Beginnings.{links_all, is_beginning}
use Rattle.station.proofs.Ends.{closed, closed_within}
use Rattle.station.proofs.station.Station.close.Goals as goal

pub end_lanes-requires : goal.end_lanes-requires
end_lanes-requires g c =
    let s = c.self.inside in
    let fs = c.args.finished.items in
    let slice = c.as_mut_slice.ensures.value in
    let ends : All (IsEndIn s.lanes.items) fs = subst (λ (ls : List (Lane Order Reply)). All (IsEndIn ls) fs) (λ i. (sym c.self.view_is i).lanes) c.requires in
    record {
      once = subst (λ (ls : List (Lane Order Reply)). HasNoTwin (numbers_in ls)) (sym slice) c.self.invariant.once;
      ends = subst (λ (ls : List (Lane Order Reply)). All (IsEndIn ls) fs) (sym slice) ends;
      marked = subst (λ (ls : List (Lane Order Reply)). All (IsOfLog c.mark-all.result.log) ls) (sym slice) (subst (λ (b : Book). All (IsOfLog b) s.lanes.items) (sym c.mark-all.ensures.0) c.self.invariant.marked);
    }

pub returns-clause-closed : goal.returns-clause-closed
returns-clause-closed g c = λ n.
    let s = c.self.inside in
    let fs = c.args.finished.items in
    let lanes = c.end_lanes.new.lanes in
    let ended : AreEnded (links_in fs) s.lanes.items lanes = subst (λ (ls : List (Lane Order Reply)). AreEnded (links_in fs) ls lanes) c.as_mut_slice.ensures.value c.end_lanes.ensures.lanes in
    let ends : All (IsEndIn s.lanes.items) fs = subst (λ (ls : List (Lane Order Reply)). All (IsEndIn ls) fs) (λ i. (sym c.self.view_is i).lanes) c.requires in
    let long : length lanes ≡ s.lanes.len = omega (arith, c.end_lanes.auto.lanes, c.as_mut_slice.ensures.len) in
    rw (with_items_is s.lanes lanes long, ← c.self.view_is) (closed s.recorder.engine.plant s.recorder.engine.history (links_in fs) s.lanes.items lanes n c.self.invariant.agree (links_all s.lanes.items fs ends) ended)

pub returns-clause-within : goal.returns-clause-within
returns-clause-within g c = λ n.
    let s = c.self.inside in
    let fs = c.args.finished.items in
    let lanes = c.end_lanes.new.lanes in
    let ended : AreEnded (links_in fs) s.lanes.items lanes = subst (λ (ls : List (Lane Order Reply)). AreEnded (links_in fs) ls lanes) c.as_mut_slice.ensures.value c.end_lanes.ensures.lanes in
    let ends : All (IsEndIn s.lanes.items) fs = subst (λ (ls : List (Lane Order Reply)). All (IsEndIn ls) fs) (λ i. (sym c.self.view_is i).lanes) c.requires in
    let long : length lanes ≡ s.lanes.len = omega (arith, c.end_lanes.auto.lanes, c.as_mut_slice.ensures.len) in
    rw (with_items_is s.lanes lanes long, ← c.self.view_is)
    (closed_within s.recorder.engine.plant s.recorder.engine.history (links_in fs) s.lanes.items lanes n (length s.recorder.engine.history) c.self.invariant.agree (links_all s.lanes.items fs ends) ended)

pub returns-clause-one : goal.returns-clause-one
returns-clause-one g c =
    let s = c.self.inside in
    let laid : c.mark-all.result.entries ≡ entries_of s.recorder.engine.plant s.recorder.engine.history = c.mark-all.ensures.1 ∙ ap (λ (t : BoardStory). t.1) s.recorder.has.laid_is in
    let all : AreBeginnings (entries_of s.recorder.engine.plant s.recorder.engine.history) c.args.finished.items = record {
      one = c.end_lanes.new.mark.entries;
      own = subst (λ (es : List BoardEntry). IsPrefix es c.end_lanes.new.mark.entries) laid c.end_lanes.ensures.own;
      theirs = c.end_lanes.ensures.theirs;
    } in
    rw (← c.self.view_is) all

pub returns-clause-begins : goal.returns-clause-begins
returns-clause-begins g c =
    let s = c.self.inside in
    let fs = c.args.finished.items in
    let lanes = c.end_lanes.new.lanes in
    let laid : c.mark-all.result.entries ≡ entries_of s.recorder.engine.plant s.recorder.engine.history = c.mark-all.ensures.1 ∙ ap (λ (t : BoardStory). t.1) s.recorder.has.laid_is in
    let all : AreBeginnings (entries_of s.recorder.engine.plant s.recorder.engine.history) fs = record {
      one = c.end_lanes.new.mark.entries;
      own = subst (λ (es : List BoardEntry). IsPrefix es c.end_lanes.new.mark.entries) laid c.end_lanes.ensures.own;
      theirs = c.end_lanes.ensures.theirs;
    } in
    let ended : AreEnded (links_in fs) s.lanes.items lanes = subst (λ (ls : List (Lane Order Reply)). AreEnded (links_in fs) ls lanes) c.as_mut_slice.ensures.value c.end_lanes.ensures.lanes in
    let ends : All (IsEndIn s.lanes.items) fs = subst (λ (ls : List (Lane Order Reply)). All (IsEndIn ls) fs) (λ i. (sym c.self.view_is i).lanes) c.requires in
    let long : length lanes ≡ s.lanes.len = omega (arith, c.end_lanes.auto.lanes, c.as_mut_slice.ensures.len) in
    let e = s.recorder.engine in
    let goes : (m : ℕ) (g : Ended Order Reply) → ended_of m fs ≡ Some g → is_within m (length e.history) lanes ≡ true → IsPrefix g.mark.entries (entries_of e.plant e.history) =
    λ m g found is. is_beginning e.plant e.history fs m g (is_within m (length e.history) lanes) all found
    (closed_within e.plant e.history (links_in fs) s.lanes.items lanes m (length e.history) c.self.invariant.agree (links_all s.lanes.items fs ends) ended) is in
    rw (with_items_is s.lanes lanes long, ← c.self.view_is) goes
