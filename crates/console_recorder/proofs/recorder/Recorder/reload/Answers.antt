use Rattle.std.proofs.Common.{[], ◌∷◌, ◌++◌, subst, sym, arith}
use Rattle.std.proofs.lemmas.Grind.{common_steps}
use Rattle.engine.specs.Event.TheVariants as event
use Rattle.engine.specs.Plants.{PlainPlant}
use Rattle.engine.specs.Engines.{state_of}
use Rattle.engine.specs.Lawful.{IsTaken}
use Rattle.console_recorder.specs.Showing.{HasHistory}
use Rattle.console_recorder.proofs.Shown.{has_same, shows_all}
use Rattle.console_recorder.proofs.recorder.Recorder.reload.Goals as goal

pub lay_reload-requires-clause-taken : goal.lay_reload-requires-clause-taken
lay_reload-requires-clause-taken g c = subst (λ (p : PlainPlant). IsTaken (state_of c.ready_reload.new.engine) (event.Reload p)) (sym c.plant.ensures) c.in-Ok.ensures.own.0.taken

pub invariant_of-self-2-clause-has : goal.invariant_of-self-2-clause-has
invariant_of-self-2-clause-has g c =
    let old = c.ready_reload.new.engine in
    let new = c.commit_reload-reloaded.new.engine in
    let own = c.in-Ok.ready.own in
    has_same old.plant new.plant (old.history ++ event.Reload own.plant ∷ []) new.history c.lay_reload.new.board c.show.new.board c.show.ensures.same.0 c.commit_reload-reloaded.ensures.plants.0 c.commit_reload-reloaded.ensures.engine
    (subst (λ (p : PlainPlant). HasHistory old.plant (old.history ++ event.Reload p ∷ []) c.lay_reload.new.board) c.plant.ensures c.in-Ok-lay_reload.ensures.laid)

pub returns-clause-shown : goal.returns-clause-shown
returns-clause-shown g c = λ same.
    let old = c.ready_reload.new.engine in
    let new = c.commit_reload-reloaded.new.engine in
    let own = c.in-Ok.ready.own in
    let has = subst (λ (p : PlainPlant). HasHistory old.plant (old.history ++ event.Reload p ∷ []) c.lay_reload.new.board) c.plant.ensures c.in-Ok-lay_reload.ensures.laid in
    shows_all new.plant new.history c.show.new.board
    (has_same old.plant new.plant (old.history ++ event.Reload own.plant ∷ []) new.history c.lay_reload.new.board c.show.new.board c.show.ensures.same.0 c.commit_reload-reloaded.ensures.plants.0 c.commit_reload-reloaded.ensures.engine has)
    (c.show.ensures.shown.shown same)

pub invariant_of-self-2-clause-counted : goal.invariant_of-self-2-clause-counted
invariant_of-self-2-clause-counted c = grind (arith, common_steps)

pub commit_reload-reloaded-requires-clause-kept : goal.commit_reload-reloaded-requires-clause-kept
commit_reload-reloaded-requires-clause-kept c = grind (arith, common_steps)

pub invariant_of-self-in_default : goal.invariant_of-self-in_default
invariant_of-self-in_default c = grind (arith, common_steps)

pub returns-clause-plant : goal.returns-clause-plant
returns-clause-plant c = grind (arith, common_steps)

pub invariant_of-self : goal.invariant_of-self
invariant_of-self c = grind (arith, common_steps)

pub returns-clause-share : goal.returns-clause-share
returns-clause-share c = grind (arith, common_steps)

pub invariant_of-self-2-clause-part : goal.invariant_of-self-2-clause-part
invariant_of-self-2-clause-part c = grind (arith, common_steps)

pub returns-in_default-clause-share : goal.returns-in_default-clause-share
returns-in_default-clause-share c = grind (arith, common_steps)

pub lay_reload-requires-clause-has : goal.lay_reload-requires-clause-has
lay_reload-requires-clause-has c = grind (arith, common_steps)

pub commit_reload-reloaded-requires-clause-part : goal.commit_reload-reloaded-requires-clause-part
commit_reload-reloaded-requires-clause-part c = grind (arith, common_steps)

pub returns-clause-ok : goal.returns-clause-ok
returns-clause-ok c = grind (arith, common_steps)
