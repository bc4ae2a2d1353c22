use Rattle.std.proofs.Common.{sym, ◌∙◌, subst}
use Rattle.alarm_delays.specs.Delays.{PlainDelays, IsDelays}
use Rattle.alarm_delays.proofs.DelayLaws.{each_length, none_comes, told_all, unmarked_stay}
use Rattle.alarm_delays.proofs.delays.Delays.list_moved.Goals as goal

pub list_moved_among-requires-clause-unmarked : goal.list_moved_among-requires-clause-unmarked
list_moved_among-requires-clause-unmarked g c =
    let d = c.args.self.now in
    let is : IsDelays d.delays d.since d.last c.self.inside.due c.self.inside.is_plain = subst (λ (x : PlainDelays). IsDelays x.delays x.since x.last c.self.inside.due c.self.inside.is_plain) c.self.view_is c.self.invariant in
    unmarked_stay d c.args.marks.now c.mark_most.new.marks (g.S.Signals.conditions c.args.raw.now) (g.S.Signals.suppressions c.args.raw.now) c.args.moment c.args.bank.now.alarms
    is.each is.past c.requires.later c.requires.each c.mark_most.ensures.kept (none_comes d c.self.inside.due c.self.inside.is_plain c.mark_most.new.marks c.args.moment is c.mark_most.ensures.marked) c.requires.unmarked

pub list_moved_among-requires-clause-conditions : goal.list_moved_among-requires-clause-conditions
list_moved_among-requires-clause-conditions g c =
    let d = c.args.self.now in
    let is : IsDelays d.delays d.since d.last c.self.inside.due c.self.inside.is_plain = subst (λ (x : PlainDelays). IsDelays x.delays x.since x.last c.self.inside.due c.self.inside.is_plain) c.self.view_is c.self.invariant in
    each_length _ c.args.moment d.delays d.since c.requires.conditions is.each ∙ sym c.requires.each

pub list_met-requires-clause-first : goal.list_met-requires-clause-first
list_met-requires-clause-first g c = record { within = c.first-first.ensures.within; clear = c.first-first.ensures.clear; set = c.first-first.ensures.set }

pub list_moved_among-requires-clause-clear : goal.list_moved_among-requires-clause-clear
list_moved_among-requires-clause-clear g c = c.first-first.ensures.clear

pub list_moved_among-requires-clause-rest : goal.list_moved_among-requires-clause-rest
list_moved_among-requires-clause-rest g c = c.in_ok-end.ensures.end

pub returns-clause-met : goal.returns-clause-met
returns-clause-met g c =
    let d = c.args.self.now in
    let is : IsDelays d.delays d.since d.last c.self.inside.due c.self.inside.is_plain = subst (λ (x : PlainDelays). IsDelays x.delays x.since x.last c.self.inside.due c.self.inside.is_plain) c.self.view_is c.self.invariant in
    told_all (g.S.Signals.conditions c.args.raw.now) (g.S.Signals.suppressions c.args.raw.now) c.args.moment d c.args.bank.now.alarms c.list_met.new.met.items c.list_moved_among.new.moves.moved.items
    c.requires.each c.requires.conditions c.requires.suppressions is.each c.in_ok-end.ensures.met c.in_ok-list_moved_among.ensures.moved
