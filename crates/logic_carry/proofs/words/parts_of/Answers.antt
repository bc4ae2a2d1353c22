use Rattle.std.proofs.Common.{◌≡◌, ◌∙◌, ap, sym, subst, refl, arith, Some, slice_get}
use Rattle.std.proofs.lemmas.Option.{slice_get-get_or}
use Rattle.base_words.specs.Names.{find_name}
use Rattle.logic_carry.specs.Shapes.{IsNumbered}
use Rattle.logic_carry.proofs.Tables.{grows_on}
use Rattle.logic_carry.proofs.Naming.{parts_next}
use Rattle.logic_carry.proofs.words.parts_of.Goals as goal

pub loop-instance-preserved : goal.loop-instance-preserved
loop-instance-preserved c =
    let all = c.args.instances.now in
    let n = c.loop-instance.instance-index in
    let item = c.instance-item.result in
    let old = find_name c.loop-instance.names in
    let new = find_name c.word_number.new.names in
    let at : slice_get all n ≡ Some item = slice_get-get_or all n item (omega (arith, c.loop-instance-test.true)) ∙ ap Some (sym c.instance-item.is) in
    let named : IsNumbered new item.name c.in_ok-word.word = subst (λ name. IsNumbered new name c.in_ok-word.word) c.as_str.ensures c.in_ok-word.ensures.number in
    let inv = c.loop-instance.invariant in
    record {
      are = rw c.in_ok-push.ensures.items (parts_next old new c.in_ok-word.ensures.grows c.loop-instance.parts.items all n (record { word = c.in_ok-word.word; of = item.of }) item inv.are at (record { named = named; of_is = refl }));
      grows = grows_on (find_name c.args.names.now) old new inv.grows c.in_ok-word.ensures.grows;
    }
