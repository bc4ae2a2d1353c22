use Rattle.std.proofs.Common.{[], ◌∷◌, ◌++◌, refl, arith}
use Rattle.std.proofs.lemmas.Grind.{common_steps}
use Rattle.engine.specs.Event.TheVariants as event
use Rattle.console_recorder.proofs.Shown.{has_same, shows_all}
use Rattle.console_recorder.proofs.recorder.RecorderRecording.order.Goals as goal

pub invariant_of-self-2-clause-has : goal.invariant_of-self-2-clause-has
invariant_of-self-2-clause-has g c =
    let old = c.ready_order.new.engine in
    let new = c.commit_order-reply.new.engine in
    let own = c.in-Ok.ready.own in
    has_same old.plant new.plant (old.history ++ event.Order own.console own.order ∷ []) new.history c.lay_order.new.board c.show.new.board c.show.ensures.same.0 c.commit_order-reply.ensures.plants.0
    c.commit_order-reply.ensures.engine c.in-Ok-lay_order.ensures.laid

pub returns-clause-refused : goal.returns-clause-refused
returns-clause-refused g c =
    let old = c.ready_order.new.engine in
    let new = c.commit_order-reply.new.engine in
    let own = c.in-Ok.ready.own in
    record {
      counted = c.show.ensures.shown.counted;
      goes_on = λ same. refl;
      shows = λ same had.
          shows_all new.plant new.history c.show.new.board
          (has_same old.plant new.plant (old.history ++ event.Order own.console own.order ∷ []) new.history c.lay_order.new.board c.show.new.board c.show.ensures.same.0 c.commit_order-reply.ensures.plants.0 c.commit_order-reply.ensures.engine c.in-Ok-lay_order.ensures.laid)
          (c.show.ensures.shown.shown same);
    }

pub invariant_of-self-2-clause-counted : goal.invariant_of-self-2-clause-counted
invariant_of-self-2-clause-counted c = grind (arith, common_steps)

pub returns-in_default-clause-refused : goal.returns-in_default-clause-refused
returns-in_default-clause-refused c = grind (arith, common_steps)

pub invariant_of-self-in_default : goal.invariant_of-self-in_default
invariant_of-self-in_default c = grind (arith, common_steps)

pub returns-in-Err-clause-refused : goal.returns-in-Err-clause-refused
returns-in-Err-clause-refused c = grind (arith, common_steps)

pub returns-clause-ok : goal.returns-clause-ok
returns-clause-ok c = grind (arith, common_steps)

pub invariant_of-self : goal.invariant_of-self
invariant_of-self c = grind (arith, common_steps)

pub returns-clause-plant : goal.returns-clause-plant
returns-clause-plant c = grind (arith, common_steps)

pub commit_order-reply-requires-clause-kept : goal.commit_order-reply-requires-clause-kept
commit_order-reply-requires-clause-kept c = grind (arith, common_steps)
