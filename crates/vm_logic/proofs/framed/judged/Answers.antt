use Rattle.std.proofs.Common.{◌∙◌}
use Rattle.vm_logic.proofs.framed.judged.Goals as goal

pub ready-requires-clause-sound : goal.ready-requires-clause-sound
ready-requires-clause-sound c = c.requires.sound c.in-Ok.ensures.kept

pub ready-requires-clause-costs : goal.ready-requires-clause-costs
ready-requires-clause-costs c = c.deref-in-Ok.ensures.value ∙ c.in-Ok.ensures.costs
