use Rattle.std.proofs.Common.{Bool, List, ℕ, arith, ap, sym, ◌∙◌, subst}
use Rattle.alarm_bank.specs.Moves.{AreScanMoves, UnmarkedStay}
use Rattle.alarm_delays.specs.Delays.{PlainDelays, IsDelays, after_met}
use Rattle.alarm_delays.proofs.DelayLaws.{none_awaited, none_counted, told_plain, unmarked_stay}
use Rattle.alarm_delays.proofs.delays.Delays.list_plain.Goals as goal

pub list_moved_among-requires-clause-unmarked : goal.list_moved_among-requires-clause-unmarked
list_moved_among-requires-clause-unmarked g c =
    let d = c.args.self.now in
    let cs = g.S.Signals.conditions c.args.raw.now in
    let ss = g.S.Signals.suppressions c.args.raw.now in
    let alarms = c.args.bank.now.alarms in
    let is : IsDelays d.delays d.since d.last c.self.inside.due c.self.inside.is_plain = subst (λ (x : PlainDelays). IsDelays x.delays x.since x.last c.self.inside.due c.self.inside.is_plain) c.self.view_is c.self.invariant in
    subst (λ (l : List Bool). UnmarkedStay c.args.marks.now l ss alarms) (none_counted cs c.args.moment d.delays d.since c.requires.conditions is.each c.requires.plain)
    (unmarked_stay d c.args.marks.now c.args.marks.now cs ss c.args.moment alarms is.each is.past c.requires.later c.requires.each (λ n h. h) (none_awaited d c.args.marks.now c.args.moment c.requires.plain) c.requires.unmarked)

pub list_moved_among-requires-clause-clear : goal.list_moved_among-requires-clause-clear
list_moved_among-requires-clause-clear g c = c.first-first.ensures.clear

pub list_moved_among-requires-clause-rest : goal.list_moved_among-requires-clause-rest
list_moved_among-requires-clause-rest g c = λ n low less. absurd (omega (arith, low, less))

pub returns-clause-moved : goal.returns-clause-moved
returns-clause-moved g c =
    let d = c.args.self.now in
    let cs = g.S.Signals.conditions c.args.raw.now in
    let ss = g.S.Signals.suppressions c.args.raw.now in
    let alarms = c.args.bank.now.alarms in
    let is : IsDelays d.delays d.since d.last c.self.inside.due c.self.inside.is_plain = subst (λ (x : PlainDelays). IsDelays x.delays x.since x.last c.self.inside.due c.self.inside.is_plain) c.self.view_is c.self.invariant in
    subst (λ (l : List Bool). AreScanMoves l ss c.args.moment alarms c.list_moved_among.new.moves) (sym (none_counted cs c.args.moment d.delays d.since c.requires.conditions is.each c.requires.plain)) c.in_ok-list_moved_among.ensures

pub returns-clause-met : goal.returns-clause-met
returns-clause-met g c =
    let d = c.args.self.now in
    let cs = g.S.Signals.conditions c.args.raw.now in
    let ss = g.S.Signals.suppressions c.args.raw.now in
    let alarms = c.args.bank.now.alarms in
    let is : IsDelays d.delays d.since d.last c.self.inside.due c.self.inside.is_plain = subst (λ (x : PlainDelays). IsDelays x.delays x.since x.last c.self.inside.due c.self.inside.is_plain) c.self.view_is c.self.invariant in
    ap (λ (met : List (ℕ × Bool)). after_met met c.args.moment c.list_moved_among.new.moves.moved.items d) c.clear.ensures.items
    ∙ told_plain cs ss c.args.moment d alarms c.list_moved_among.new.moves.moved.items c.requires.each c.requires.conditions c.requires.suppressions is.each c.requires.plain c.requires.follow c.in_ok-list_moved_among.ensures.moved
