use Rattle.std.proofs.Common.{sym}
use Rattle.engine.proofs.engine.Engine.plant.Goals as goal

pub returns : goal.returns
returns c = rw (← c.self.view_is) (sym c.self.invariant.0.present)
