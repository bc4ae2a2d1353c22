use Rattle.level_runs.proofs.Globals.{AreRead}
use Rattle.level_runs.proofs.planning.plan_of.Given as goal

abbrev pub invariant-loop-part : goal.invariant-loop-part
invariant-loop-part l = AreRead l.globals l.parts l.part-index l.accesses.items
