use Rattle.std.proofs.Common.{◌≡◌, ◌+◌, ◌-◌, ◌≤◌, true, false, Some, None, map, length, slice_get, arith, sym, ◌∙◌, subst, ℕ, rules, true≢false, eq-eqb, eqb-true}
use Rattle.std.proofs.lemmas.List.{length-map}
use Rattle.std.proofs.lemmas.Option.{slice_get-map, slice_get_within}
use Rattle.journal_core.specs.declared.row.Row.{Row}
use Rattle.try_desks.specs.Shifts.{telling_in, tellings, told}
use Rattle.try_desks.proofs.Tellings.{none_more, goes_on, is_next, ends_alike, ends_both}
use Rattle.try_desks.proofs.notes.are_told.Goals as goal

pub loop-number-preserved-in_default : goal.loop-number-preserved-in_default
loop-number-preserved-in_default c =
    let rows = c.args.log.now.rows in let row = c.row.result in let i = c.loop-number.number in
    let tells = λ (r : Row). telling_in c.args.console r.entry in let before = c.loop-number.invariant in
    let here : slice_get rows i ≡ Some row = subst (λ (k : ℕ). slice_get rows k ≡ Some row) (omega arith) c.row.ensures in
    (none_more tells rows i row here (sym c.telling_in.ensures ∙ c.in_default.is) ∙ before.0, before.1)

pub loop-number-preserved : goal.loop-number-preserved
loop-number-preserved c =
    let rows = c.args.log.now.rows in let row = c.row.result in let i = c.loop-number.number in let m = c.loop-number.before in
    let notes = c.args.notes.now in let tells = λ (r : Row). telling_in c.args.console r.entry in let before = c.loop-number.invariant in
    let here : slice_get rows i ≡ Some row = subst (λ (k : ℕ). slice_get rows k ≡ Some row) (omega arith) c.row.ensures in
    let some : tells row ≡ Some c.in-Some.telling = sym c.telling_in.ensures ∙ c.in-Some.is in
    let there : slice_get (map told notes) m ≡ Some c.in-Some.telling = slice_get-map told notes m ∙ c.tells.ensures.0 (search rules) in
    let within = slice_get_within (map told notes) m c.in-Some.telling there in
    (goes_on tells rows (map told notes) i m row c.in-Some.telling here some there before.0, omega (arith, within, length-map notes told))

pub returns-then-not-tells : goal.returns-then-not-tells
returns-then-not-tells c =
    let rows = c.args.log.now.rows in let row = c.row.result in let i = c.loop-number.number in let m = c.loop-number.before in
    let notes = c.args.notes.now in let tells = λ (r : Row). telling_in c.args.console r.entry in let before = c.loop-number.invariant in
    let here : slice_get rows i ≡ Some row = subst (λ (k : ℕ). slice_get rows k ≡ Some row) (omega arith) c.row.ensures in
    let some : tells row ≡ Some c.in-Some.telling = sym c.telling_in.ensures ∙ c.in-Some.is in
    let inside : m ≤ length (map told notes) = omega (arith, before.1, length-map notes told) in (
      (λ h. absurd (true≢false (sym h))),
      (λ all.
          let got = c.tells.ensures.1 (sym (slice_get-map told notes m) ∙ is_next tells rows (map told notes) i m row c.in-Some.telling here some inside before.0 all) in
          absurd (true≢false (sym got ∙ c.if-not-tells.true))),
    )
