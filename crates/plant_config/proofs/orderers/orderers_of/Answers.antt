use Rattle.std.proofs.Common.{◌≡◌, ◌∙◌, ◌++◌, ◌∷◌, [], cond, refl, ap}
use Rattle.std.specs.Prelude.{◌==◌}
use Rattle.std.specs.List.{list_any}
use Rattle.plant_config.proofs.WhoOrders.{looked}
use Rattle.plant_config.proofs.orderers.orderers_of.Goals.{then-is_among+in_ok-push, else-is_among}
use Rattle.plant_config.proofs.orderers.orderers_of.Goals as goal

pub loop-console-preserved : goal.loop-console-preserved
loop-console-preserved c =
    let numbers = c.loop-console.numbers.items in
    let new_is : c.if-is_among.numbers.items ≡ cond c.is_among.result (numbers ++ c.console-item.result.number ∷ []) numbers = elim c.if-is_among.branch [
      | then-is_among+in_ok-push w ↦ rw w.numbers-is (w.in_ok-push.ensures.items ∙ rw w.if-is_among.true refl)
      | else-is_among w ↦ rw w.numbers-is (rw w.if-is_among.false refl)
    ] in
    looked c.args.consoles.now c.args.area c.loop-console.console-index c.console-item.result numbers c.if-is_among.numbers.items c.is_among.result c.loop-console-test.true c.console-item.is
    (c.is_among.ensures ∙ ap (list_any (λ a. a == c.args.area)) c.as_slice.ensures) new_is c.loop-console.invariant
