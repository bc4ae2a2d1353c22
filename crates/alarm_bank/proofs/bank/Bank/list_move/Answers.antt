use Rattle.std.proofs.Common.{◌≡◌, ◌≢◌, ◌∙◌, ◌++◌, [], rules, ap, sym}
use Rattle.std.proofs.lemmas.List.{append-nil}
use Rattle.alarm_machine.specs.Alarms.{after_scan}
use Rattle.alarm_bank.proofs.MoveLaws.{first_change, found_at, adds_nothing, adds_one}
use Rattle.alarm_bank.proofs.bank.Bank.list_move.Goals as goal

pub returns-then-rests : goal.returns-then-rests
returns-then-rests g c =
    let found = found_at _ _ _ c.args.number c.index.result.now c.self.view_is c.index.ensures c.requires.there in
    let rests : after_scan c.condition-condition.result c.suppression-suppression.result c.args.moment c.index.result.now ≡ c.index.result.now = search rules in
    adds_nothing _ _ _ _ _ _ _ _ _ _ c.condition-condition.ensures c.suppression-suppression.ensures found rests

pub returns-in_ok-push-2 : goal.returns-in_ok-push-2
returns-in_ok-push-2 g c =
    let found = found_at _ _ _ c.args.number c.index.result.now c.self.view_is c.index.ensures c.requires.there in
    let moves : after_scan c.condition-condition.result c.suppression-suppression.result c.args.moment c.index.result.now ≢ c.index.result.now = search rules in
    adds_one _ _ _ _ _ _ _ _ _ _ _ c.index.result.now c.scan-change.new.self c.condition-condition.ensures c.suppression-suppression.ensures found c.scan-change.ensures.alarm moves c.in_ok-push.ensures.items (c.in_ok-push-2.ensures.items ∙ ap (λ o. c.args.moves.now.changes.items ++ first_change c.args.number [] o) (sym c.in-Some.is ∙ c.scan-change.ensures.change))

pub returns-in_default : goal.returns-in_default
returns-in_default g c =
    let found = found_at _ _ _ c.args.number c.index.result.now c.self.view_is c.index.ensures c.requires.there in
    let moves : after_scan c.condition-condition.result c.suppression-suppression.result c.args.moment c.index.result.now ≢ c.index.result.now = search rules in
    adds_one _ _ _ _ _ _ _ _ _ _ _ c.index.result.now c.scan-change.new.self c.condition-condition.ensures c.suppression-suppression.ensures found c.scan-change.ensures.alarm moves c.in_ok-push.ensures.items (sym (append-nil c.args.moves.now.changes.items) ∙ ap (λ o. c.args.moves.now.changes.items ++ first_change c.args.number [] o) (sym c.in_default.is ∙ c.scan-change.ensures.change))
