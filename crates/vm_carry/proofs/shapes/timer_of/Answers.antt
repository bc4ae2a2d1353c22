use Rattle.std.proofs.Common.{◌≡◌, ◌∙◌, ◌++◌, ap, sym, subst, refl, ℕ, List, [], ◌∷◌, codes}
use Rattle.base_words.specs.Names.{find_name}
use Rattle.plant_types.specs.declared.values.Kind.TheVariants as kind
use Rattle.logic_carry.specs.declared.words.Own.{Own}
use Rattle.logic_carry.specs.Shapes.{AreOwn, timer_inputs}
use Rattle.logic_carry.proofs.Tables.{grows_on}
use Rattle.logic_carry.proofs.Naming.{number_later}
use Rattle.vm_carry.proofs.shapes.timer_of.Goals as goal

pub returns-clause-timer : goal.returns-clause-timer
returns-clause-timer c =
    let a = find_name c.word_number.new.names in
    let b = find_name c.word_number-2.new.names in
    let input : Own = record { word = c.in_ok-input.input; kind = kind.Bool } in
    let preset : Own = record { word = c.in_ok-preset.preset; kind = kind.Time } in
    let items = c.in_ok-push-2.ensures.items ∙ ap (λ (xs : List Own). xs ++ preset ∷ []) (c.in_ok-push.ensures.items ∙ ap (λ (xs : List Own). xs ++ input ∷ []) c.new-own.ensures.items) in
    subst (λ (xs : List Own). AreOwn b xs timer_inputs) (sym items)
    (number_later a b c.in_ok-preset.ensures.grows (codes "IN") c.in_ok-input.input c.in_ok-input.ensures.number, refl, (c.in_ok-preset.ensures.number, refl, tt))

pub returns-clause-grows : goal.returns-clause-grows
returns-clause-grows c = grows_on (find_name c.args.names.now) (find_name c.word_number.new.names) (find_name c.word_number-2.new.names) c.in_ok-input.ensures.grows c.in_ok-preset.ensures.grows
