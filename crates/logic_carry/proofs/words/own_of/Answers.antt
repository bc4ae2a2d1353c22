use Rattle.std.proofs.Common.{◌≡◌, ◌∙◌, ap, sym, subst, refl, arith, Some, slice_get}
use Rattle.std.proofs.lemmas.Option.{slice_get-get_or}
use Rattle.base_words.specs.Names.{find_name}
use Rattle.logic_carry.specs.Shapes.{IsNumbered}
use Rattle.logic_carry.proofs.Tables.{grows_on}
use Rattle.logic_carry.proofs.Naming.{own_next}
use Rattle.logic_carry.proofs.words.own_of.Goals as goal

pub loop-local-preserved : goal.loop-local-preserved
loop-local-preserved c =
    let all = c.args.locals.now in
    let n = c.loop-local.local-index in
    let item = c.local-item.result in
    let old = find_name c.loop-local.names in
    let new = find_name c.word_number.new.names in
    let at : slice_get all n ≡ Some item = slice_get-get_or all n item (omega (arith, c.loop-local-test.true)) ∙ ap Some (sym c.local-item.is) in
    let named : IsNumbered new item.name c.in_ok-word.word = subst (λ name. IsNumbered new name c.in_ok-word.word) c.as_str.ensures c.in_ok-word.ensures.number in
    let inv = c.loop-local.invariant in
    record {
      are = rw c.in_ok-push.ensures.items (own_next old new c.in_ok-word.ensures.grows c.loop-local.own.items all n (record { word = c.in_ok-word.word; kind = item.kind }) item inv.are at named refl);
      grows = grows_on (find_name c.args.names.now) old new inv.grows c.in_ok-word.ensures.grows;
    }
