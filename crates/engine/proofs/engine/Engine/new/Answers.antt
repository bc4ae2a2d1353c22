use Rattle.engine.proofs.engine.Engine.new.Goals as goal

pub invariant_of-result : goal.invariant_of-result
invariant_of-result c = (rw (c.of.ensures, c.new.ensures, c.new-2.ensures, c.new-3.ensures) c.in-Ok.ensures, tt)
