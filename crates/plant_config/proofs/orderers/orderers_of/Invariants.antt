-- the numbers so far, with those of the consoles that are left
use Rattle.std.proofs.Common.{◌≡◌, ◌++◌, drop}
use Rattle.plant_config.specs.Orderers.{orderers_of}
use Rattle.plant_config.proofs.orderers.orderers_of.Given as goal

abbrev pub invariant-loop-console : goal.invariant-loop-console
invariant-loop-console l = l.numbers.items ++ orderers_of (drop l.console-index l.consoles) l.area ≡ orderers_of l.consoles l.area
