use Rattle.std.proofs.Common.{◌≡◌, ◌∷◌, [], ◌++◌, ◌∙◌, List, All, ap, sym, subst, append-nil, append_assoc, refl, rules}
use Rattle.std.proofs.lemmas.List.Elements.{All-nil}
use mathlib.Core.List.{IsPrefix}
use Rattle.console_operator.specs.declared.console.Finished.{Finished as Ended}
use Rattle.alarm_orders.specs.declared.order.Order.{Order}
use Rattle.console_recorder.specs.Reply.{Reply}
use Rattle.station.specs.Lanes.{links_in, IsEndIn}
use Rattle.station.proofs.Ends.{ended_none, ended_keep, ended_more, last_of, log_in}
use Rattle.station.proofs.Beginnings.{prefix_on, begin_more}
use Rattle.station.proofs.closing.end_lanes.Goals as goal

pub loop-console-init : goal.loop-console-init
loop-console-init c = ([], sym (append-nil c.args.finished.items), ended_none c.args.lanes.now, refl, ([], append-nil c.args.mark.now.entries), All-nil (λ (f : Ended Order Reply). IsPrefix f.mark.entries c.args.mark.now.entries))

pub learn-requires : goal.learn-requires
learn-requires c =
    let h = c.loop-console.invariant in
    let rest = c.pop.new.self.items in
    let whole : c.args.finished.items ≡ (rest ++ c.in-Some.console ∷ []) ++ h.0 = h.1 ∙ ap (λ (fs : List (Ended Order Reply)). fs ++ h.0) c.in-Some.ensures.items in
    record {
      log = sym c.in-Some.console.log_is ∙ (log_in c.args.mark.now.log c.args.lanes.now c.in-Some.console.link c.requires.marked (last_of (IsEndIn c.args.lanes.now) rest c.in-Some.console h.0 c.args.finished.items whole c.requires.ends) ∙ sym h.3);
    }

pub end_lane-requires : goal.end_lane-requires
end_lane-requires c =
    let h = c.loop-console.invariant in
    let rest = c.pop.new.self.items in
    let whole : c.args.finished.items ≡ (rest ++ c.in-Some.console ∷ []) ++ h.0 = h.1 ∙ ap (λ (fs : List (Ended Order Reply)). fs ++ h.0) c.in-Some.ensures.items in
    ended_keep (links_in h.0) c.args.lanes.now c.loop-console.lanes c.in-Some.console.link h.2 (last_of (IsEndIn c.args.lanes.now) rest c.in-Some.console h.0 c.args.finished.items whole c.requires.ends)

pub loop-console-preserved : goal.loop-console-preserved
loop-console-preserved c =
    let h = c.loop-console.invariant in
    let rest = c.pop.new.self.items in
    let console = c.in-Some.console in
    let learnt = c.learn.ensures in (
      console ∷ h.0,
      h.1 ∙ (ap (λ (fs : List (Ended Order Reply)). fs ++ h.0) c.in-Some.ensures.items ∙ append_assoc rest (console ∷ []) h.0),
      ended_more console.link (links_in h.0) c.args.lanes.now c.loop-console.lanes c.end_lane.new.lanes c.requires.once h.2 c.end_lane.ensures,
      learnt.log ∙ h.3,
      prefix_on c.args.mark.now.entries c.loop-console.mark.entries c.learn.new.self.entries h.4 learnt.own,
      begin_more console h.0 c.loop-console.mark.entries c.learn.new.self.entries h.5 learnt.own learnt.theirs,
    )

pub returns-clause-theirs : goal.returns-clause-theirs
returns-clause-theirs c =
    let h = c.loop-console.invariant in
    let whole : c.args.finished.items ≡ h.0 = search rules in
    subst (λ (fs : List (Ended Order Reply)). All (λ (f : Ended Order Reply). IsPrefix f.mark.entries c.loop-console.mark.entries) fs) (sym whole) h.5
