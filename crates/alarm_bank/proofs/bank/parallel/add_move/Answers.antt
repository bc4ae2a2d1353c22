use Rattle.std.proofs.Common.{◌≡◌, ◌≢◌, ◌++◌, [], ◌∙◌, List, Some, false, length, slice_get, slice_index_or, rules, ap, sym, arith}
use Rattle.std.proofs.lemmas.List.{append-nil}
use Rattle.std.proofs.lemmas.Option.{slice_get-get_or, get_or_from_slice_get}
use Rattle.alarm_machine.specs.declared.states.Code.{Code}
use Rattle.alarm_machine.specs.Codes.{code_of, change_between}
use Rattle.alarm_machine.specs.Alarms.{PlainAlarm, after_scan}
use Rattle.alarm_bank.proofs.BankLaws.{scan_each_length, scan_each_at}
use Rattle.alarm_bank.proofs.MoveLaws.{first_change, adds_nothing, adds_one}
use Rattle.alarm_bank.proofs.bank.parallel.add_move.Goals as goal

pub returns-then-rests : goal.returns-then-rests
returns-then-rests c =
    let at = c.args.at in
    let cs = c.args.given.now.conds.now in
    let ss = c.args.given.now.sups.now in
    let a = c.index-alarms-at.result in
    let c_is = slice_get-get_or cs at false (omega (arith, c.requires.conds, c.requires.there)) in
    let s_is = slice_get-get_or ss at false (omega (arith, c.requires.sups, c.requires.there)) in
    let a_is : slice_get c.args.alarms.now at ≡ Some a = slice_get-get_or c.args.alarms.now at a c.requires.there ∙ ap (λ x. Some x) (sym c.index-alarms-at.is) in
    let rests : after_scan (slice_index_or cs at false) (slice_index_or ss at false) c.args.given.now.moment a ≡ a = search rules in
    adds_nothing _ _ _ _ _ _ _ _ _ _ c_is s_is a_is rests

pub bounds-next-at : goal.bounds-next-at
bounds-next-at c =
    let long = scan_each_length c.args.given.now.conds.now c.args.given.now.sups.now c.args.given.now.moment c.args.alarms.now c.requires.conds c.requires.sups in
    let same = ap (λ (l : List PlainAlarm). length l) c.requires.next in
    let there = c.requires.there in
    omega (arith, long, same, there)

pub returns-in_ok-push-2 : goal.returns-in_ok-push-2
returns-in_ok-push-2 c =
    let at = c.args.at in
    let cs = c.args.given.now.conds.now in
    let ss = c.args.given.now.sups.now in
    let t = c.args.given.now.moment in
    let xs = c.args.alarms.now in
    let a = c.index-alarms-at.result in
    let new = c.index-next-at.result in
    let c_is = slice_get-get_or cs at false (omega (arith, c.requires.conds, c.requires.there)) in
    let s_is = slice_get-get_or ss at false (omega (arith, c.requires.sups, c.requires.there)) in
    let a_is : slice_get xs at ≡ Some a = slice_get-get_or xs at a c.requires.there ∙ ap (λ x. Some x) (sym c.index-alarms-at.is) in
    let moves : after_scan (slice_index_or cs at false) (slice_index_or ss at false) t a ≢ a = search rules in
    let new_is : new ≡ after_scan (slice_index_or cs at false) (slice_index_or ss at false) t a =
    c.index-next-at.is ∙ ap (λ (l : List PlainAlarm). slice_index_or l at new) c.requires.next ∙ sym (scan_each_at cs ss t xs at new c.requires.conds c.requires.sups c.requires.there)
    ∙ ap (λ (x : PlainAlarm). after_scan (slice_index_or cs at false) (slice_index_or ss at false) t x) (get_or_from_slice_get xs at a new a_is) in
    let change_is : c.between-change.result ≡ change_between (code_of a.state) (code_of new.state) =
    c.between-change.ensures ∙ ap (λ (x : Code). change_between x c.code-2.result) (c.code.ensures ∙ ap code_of c.state.ensures) ∙ ap (λ (x : Code). change_between (code_of a.state) x) (c.code-2.ensures ∙ ap code_of c.state-2.ensures) in
    adds_one _ _ _ _ _ _ _ _ _ _ _ a new c_is s_is a_is new_is moves c.in_ok-push.ensures.items (c.in_ok-push-2.ensures.items ∙ ap (λ o. c.args.moves.now.changes.items ++ first_change at [] o) (sym c.in-Some.is ∙ change_is))

pub returns-in_default : goal.returns-in_default
returns-in_default c =
    let at = c.args.at in
    let cs = c.args.given.now.conds.now in
    let ss = c.args.given.now.sups.now in
    let t = c.args.given.now.moment in
    let xs = c.args.alarms.now in
    let a = c.index-alarms-at.result in
    let new = c.index-next-at.result in
    let c_is = slice_get-get_or cs at false (omega (arith, c.requires.conds, c.requires.there)) in
    let s_is = slice_get-get_or ss at false (omega (arith, c.requires.sups, c.requires.there)) in
    let a_is : slice_get xs at ≡ Some a = slice_get-get_or xs at a c.requires.there ∙ ap (λ x. Some x) (sym c.index-alarms-at.is) in
    let moves : after_scan (slice_index_or cs at false) (slice_index_or ss at false) t a ≢ a = search rules in
    let new_is : new ≡ after_scan (slice_index_or cs at false) (slice_index_or ss at false) t a =
    c.index-next-at.is ∙ ap (λ (l : List PlainAlarm). slice_index_or l at new) c.requires.next ∙ sym (scan_each_at cs ss t xs at new c.requires.conds c.requires.sups c.requires.there)
    ∙ ap (λ (x : PlainAlarm). after_scan (slice_index_or cs at false) (slice_index_or ss at false) t x) (get_or_from_slice_get xs at a new a_is) in
    let change_is : c.between-change.result ≡ change_between (code_of a.state) (code_of new.state) =
    c.between-change.ensures ∙ ap (λ (x : Code). change_between x c.code-2.result) (c.code.ensures ∙ ap code_of c.state.ensures) ∙ ap (λ (x : Code). change_between (code_of a.state) x) (c.code-2.ensures ∙ ap code_of c.state-2.ensures) in
    adds_one _ _ _ _ _ _ _ _ _ _ _ a new c_is s_is a_is new_is moves c.in_ok-push.ensures.items (sym (append-nil c.args.moves.now.changes.items) ∙ ap (λ o. c.args.moves.now.changes.items ++ first_change at [] o) (sym c.in_default.is ∙ change_is))
