use Rattle.std.proofs.Common.{[], ◌∷◌, ◌++◌, arith}
use Rattle.std.proofs.lemmas.Grind.{common_steps}
use Rattle.console_recorder.proofs.Shown.{has_same, shows_all}
use Rattle.console_recorder.proofs.recorder.Recorder.scan.Goals as goal

pub invariant_of-self-2-clause-has : goal.invariant_of-self-2-clause-has
invariant_of-self-2-clause-has g c =
    let old = c.ready_scan.new.engine in
    let new = c.commit_scan-report.new.engine in
    let own = c.in-Ok.ready.own in
    has_same old.plant new.plant (old.history ++ own.event ∷ []) new.history c.lay_scan.new.board c.show.new.board c.show.ensures.same.0 c.commit_scan-report.ensures.plants.0 c.commit_scan-report.ensures.engine
    c.in-Ok-lay_scan.ensures.laid

pub returns-clause-shown : goal.returns-clause-shown
returns-clause-shown g c = λ same.
    let old = c.ready_scan.new.engine in
    let new = c.commit_scan-report.new.engine in
    let own = c.in-Ok.ready.own in
    shows_all new.plant new.history c.show.new.board
    (has_same old.plant new.plant (old.history ++ own.event ∷ []) new.history c.lay_scan.new.board c.show.new.board c.show.ensures.same.0 c.commit_scan-report.ensures.plants.0 c.commit_scan-report.ensures.engine c.in-Ok-lay_scan.ensures.laid)
    (c.show.ensures.shown.shown same)

pub invariant_of-self-2-clause-counted : goal.invariant_of-self-2-clause-counted
invariant_of-self-2-clause-counted c = grind (arith, common_steps)

pub commit_scan-report-requires-clause-kept : goal.commit_scan-report-requires-clause-kept
commit_scan-report-requires-clause-kept c = grind (arith, common_steps)

pub invariant_of-self-in_default : goal.invariant_of-self-in_default
invariant_of-self-in_default c = grind (arith, common_steps)

pub returns-clause-plant : goal.returns-clause-plant
returns-clause-plant c = grind (arith, common_steps)

pub invariant_of-self : goal.invariant_of-self
invariant_of-self c = grind (arith, common_steps)

pub returns-clause-share : goal.returns-clause-share
returns-clause-share c = grind (arith, common_steps)

pub returns-clause-ok : goal.returns-clause-ok
returns-clause-ok c = grind (arith, common_steps)

pub invariant_of-self-2-clause-part : goal.invariant_of-self-2-clause-part
invariant_of-self-2-clause-part c = grind (arith, common_steps)

pub returns-in_default-clause-share : goal.returns-in_default-clause-share
returns-in_default-clause-share c = grind (arith, common_steps)

pub commit_scan-report-requires-clause-part : goal.commit_scan-report-requires-clause-part
commit_scan-report-requires-clause-part c = grind (arith, common_steps)

pub lay_scan-requires-clause-has : goal.lay_scan-requires-clause-has
lay_scan-requires-clause-has c = grind (arith, common_steps)
