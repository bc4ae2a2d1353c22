use Rattle.std.proofs.Common.{◌≡◌, ◌+◌, ◌∷◌, [], ◌++◌, ◌∙◌, ap, sym, subst, refl, arith, Some, map, take, slice_get}
use Rattle.std.proofs.lemmas.List.{map-append}
use Rattle.std.proofs.lemmas.Option.{slice_get-get_or}
use Rattle.base_words.specs.Names.{find_name}
use Rattle.logic_carry.specs.declared.words.Own.{Own}
use Rattle.logic_carry.specs.Shapes.{IsNumbered, AreOwn, as_local}
use Rattle.logic_carry.proofs.Tables.{grows_on}
use Rattle.logic_carry.proofs.Naming.{take_next, own_later, own_with}
use Rattle.logic_carry.proofs.words.globals_of.Goals as goal

pub loop-global-preserved : goal.loop-global-preserved
loop-global-preserved c =
    let all = c.args.globals.now in
    let n = c.loop-global.global-index in
    let item = c.global-item.result in
    let old = find_name c.loop-global.names in
    let new = find_name c.word_number.new.names in
    let at : slice_get all n ≡ Some item = slice_get-get_or all n item (omega (arith, c.loop-global-test.true)) ∙ ap Some (sym c.global-item.is) in
    let named : IsNumbered new item.name c.in_ok-word.word = subst (λ name. IsNumbered new name c.in_ok-word.word) c.as_str.ensures c.in_ok-word.ensures.number in
    let inv = c.loop-global.invariant in
    let own = c.loop-global.own.items in
    let o : Own = record { word = c.in_ok-word.word; kind = item.kind } in
    let done = map as_local (take n all) in
    let next : map as_local (take (n + 1) all) ≡ done ++ as_local item ∷ [] = ap (map as_local) (take_next all n item at) ∙ map-append as_local (take n all) (item ∷ []) in
    record {
      are = rw c.in_ok-push.ensures.items (subst (AreOwn new (own ++ o ∷ [])) (sym next) (own_with new own done o (as_local item) (own_later old new c.in_ok-word.ensures.grows own done inv.are) named refl));
      grows = grows_on (find_name c.args.names.now) old new inv.grows c.in_ok-word.ensures.grows;
    }
