use Rattle.std.proofs.Common.{◌∷◌, ◌∙◌, ap, sym}
use Rattle.std.proofs.lemmas.List.{nil_from_length}
use Rattle.st_sources.proofs.Collected.{units_read, fault_read, none_taken, one_taken}
use Rattle.st_sources.proofs.threads.collected.Goals as goal

pub loop-reading-init : goal.loop-reading-init
loop-reading-init c = none_taken _ _ _ c.new-units.ensures.items c.into_iter-reading-iterator.ensures.into_iter_gives.0

pub loop-reading-preserved : goal.loop-reading-preserved
loop-reading-preserved c =
    let steps = c.in-Some.ensures.steps in
    one_taken c.loop-reading.units.items c.push.new.self.items c.in-Ok.unit c.in-Some.reading c.loop-reading.reading-iterator.rest.items c.next.new.self.rest.items c.args.readings.items c.loop-reading.invariant steps.0 c.in-Ok.is c.in_ok-push-in-Ok.ensures.items

pub returns-in-Err : goal.returns-in-Err
returns-in-Err c =
    let steps = c.in-Some.ensures.steps in
    fault_read c.loop-reading.units.items c.in-Err.fault c.next.new.self.rest.items _ _ c.loop-reading.invariant (steps.0 ∙ ap (λ r. r ∷ c.next.new.self.rest.items) c.in-Err.is)

pub returns : goal.returns
returns c =
    let steps = c.in-None.ensures.steps in
    units_read c.loop-reading.units.items _ _ c.loop-reading.invariant (nil_from_length _ (sym c.loop-reading.reading-iterator.rest.ok.0 ∙ steps.0))
