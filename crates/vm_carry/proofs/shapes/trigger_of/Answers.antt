use Rattle.std.proofs.Common.{◌≡◌, ◌∙◌, ◌++◌, ap, sym, subst, refl, List, [], ◌∷◌}
use Rattle.base_words.specs.Names.{find_name}
use Rattle.plant_types.specs.declared.values.Kind.TheVariants as kind
use Rattle.logic_carry.specs.declared.words.Own.{Own}
use Rattle.logic_carry.specs.Shapes.{AreOwn, trigger_inputs}
use Rattle.vm_carry.proofs.shapes.trigger_of.Goals as goal

pub returns-clause-trigger : goal.returns-clause-trigger
returns-clause-trigger c =
    let a = find_name c.word_number.new.names in
    let input : Own = record { word = c.in_ok-input.input; kind = kind.Bool } in
    let items = c.in_ok-push.ensures.items ∙ ap (λ (xs : List Own). xs ++ input ∷ []) c.new-own.ensures.items in
    subst (λ (xs : List Own). AreOwn a xs trigger_inputs) (sym items) (c.in_ok-input.ensures.number, refl, tt)
