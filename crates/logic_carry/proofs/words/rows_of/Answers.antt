use Rattle.std.proofs.Common.{◌≡◌, ◌∙◌, ap, sym, subst, refl, arith, Some, slice_get}
use Rattle.std.proofs.lemmas.Int.{ints}
use Rattle.std.proofs.lemmas.Option.{slice_get-get_or}
use Rattle.base_words.specs.Names.{find_name}
use Rattle.logic_carry.specs.Shapes.{IsNumbered}
use Rattle.logic_carry.proofs.Tables.{grows_on}
use Rattle.logic_carry.proofs.Naming.{rows_next}
use Rattle.logic_carry.proofs.words.rows_of.Goals as goal

pub loop-row-preserved : goal.loop-row-preserved
loop-row-preserved c =
    let all = c.args.rows.now in
    let n = c.loop-row.row-index in
    let item = c.row-item.result in
    let old = find_name c.loop-row.names in
    let new = find_name c.word_number.new.names in
    let at : slice_get all n ≡ Some item = slice_get-get_or all n item (omega (arith, c.loop-row-test.true)) ∙ ap Some (sym c.row-item.is) in
    let named : IsNumbered new item.name c.in_ok-word.word = subst (λ name. IsNumbered new name c.in_ok-word.word) c.as_str.ensures c.in_ok-word.ensures.number in
    let inv = c.loop-row.invariant in
    record {
      are = rw c.in_ok-push.ensures.items (rows_next old new c.in_ok-word.ensures.grows c.loop-row.own.items all n (record { word = c.in_ok-word.word; kind = item.kind; bounds = item.bounds; first = c.abs_diff.result; last = c.abs_diff-in-loop-row.result }) item inv.are at (record { named = named; kind_is = refl; bounds_are = refl; measured = record { first_is = omega (arith, ints, c.abs_diff.ensures); last_is = omega (arith, ints, c.abs_diff-in-loop-row.ensures) } }));
      grows = grows_on (find_name c.args.names.now) old new inv.grows c.in_ok-word.ensures.grows;
    }
