use Rattle.std.proofs.Common.{◌≡◌, ◌+◌, ◌-◌, ℕ, List, [], ◌∷◌, ◌++◌, Some, length, length-append, string_bytes, ap, sym, ◌∙◌, subst, arith}
use Rattle.std.specs.Prelude.{slice_get}
use Rattle.engine.specs.RowNames.{HaveNames}
use Rattle.engine.proofs.Names.{name_kept}
use Rattle.engine.proofs.journal.keep_names.Goals as goal

pub returns-in_err-push-clause-names : goal.returns-in_err-push-clause-names
returns-in_err-push-clause-names c = λ plants have.
    subst (λ (names : List (List ℕ)). HaveNames plants c.args.log.now.rows names c.args.plant.now) (sym c.in_err-push.ensures.err) (c.loop-place.invariant.0 plants have)

pub loop-place-preserved : goal.loop-place-preserved
loop-place-preserved c =
    let names = c.loop-place.names in
    let rows = c.args.log.now.rows in
    let before = c.loop-place.invariant in
    let name = string_bytes c.in_ok-name.name in
    let is : c.push.new.self ≡ names ++ name ∷ [] = c.in_ok-push.ensures.ok in
    let here : length names ≡ c.loop-place.place + 1 - 1 = omega (arith, before.1) in
    let at : slice_get rows (length names) ≡ Some c.row-row.result = ap (slice_get rows) here ∙ c.row-row.ensures in
    let more = length-append names (name ∷ []) in
    let many : length c.push.new.self ≡ c.loop-place.place + 1 = omega (arith, more, before.1, ap length is) in (
      λ plants have. subst (λ (l : List (List ℕ)). HaveNames plants rows l c.args.plant.now) (sym is)
          (name_kept plants rows names name c.args.plant.now c.row-row.result at c.in_ok-name.ensures (before.0 plants have)),
      many,
      omega (arith, before.2),
    )
