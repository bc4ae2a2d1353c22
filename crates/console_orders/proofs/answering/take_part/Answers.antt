use Rattle.std.proofs.Common.{false, ◌∷◌, [], ◌++◌, ◌∙◌, subst, arith, length-append}
use Rattle.engine_system.specs.Plants.{PlainPlant}
use Rattle.alarm_orders.specs.declared.order.Order.{Order}
use Rattle.console_orders.specs.Turns.{Took, HasNoneToTake}
use Rattle.console_orders.proofs.Takes.{took_more, chosen, refused_on}
use Rattle.console_orders.proofs.answering.take_part.Goals as goal

pub loop-preserved : goal.loop-preserved
loop-preserved g c =
    let h = c.loop.invariant in
    let after = c.take_order.new in
    let one = chosen c.in-Ok-true.field-0 ((x : Order) × Took (g.T.Recording.plant_of c.loop.recorder) c.loop.lane after.lane (g.T.Recording.history_of c.loop.recorder) (g.T.Recording.history_of after.recorder) (x ∷ []))
    (Took (g.T.Recording.plant_of c.loop.recorder) c.loop.lane after.lane (g.T.Recording.history_of c.loop.recorder) (g.T.Recording.history_of after.recorder) [] × HasNoneToTake after.lane) c.in-Ok-true.field-0-test c.in-Ok-true.ensures.took in (
      h.0 ++ one.0 ∷ [],
      took_more (g.T.Recording.plant_of c.args.recorder.now) c.args.lane.now c.loop.lane after.lane (g.T.Recording.history_of c.args.recorder.now) (g.T.Recording.history_of c.loop.recorder) (g.T.Recording.history_of after.recorder) h.0 (one.0 ∷ []) h.1
          (subst (λ (p : PlainPlant). Took p c.loop.lane after.lane (g.T.Recording.history_of c.loop.recorder) (g.T.Recording.history_of after.recorder) (one.0 ∷ [])) h.4 one.1),
      omega (arith, length-append h.0 (one.0 ∷ []), h.2),
      omega (arith, h.3),
      c.take_order.ensures.plant ∙ h.4,
      c.take_order.ensures.share ∙ h.5,
      c.take_order.ensures.log ∙ h.6,
      refused_on _ _ _ _ _ _ false h.7 c.in-Ok-true.ensures.refused,
    )
