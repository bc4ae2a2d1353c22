use Rattle.std.proofs.Common.{◌≡◌, take}
use Rattle.plant_file.proofs.console.copy_consoles.Given as goal

abbrev pub invariant-loop-console : goal.invariant-loop-console
invariant-loop-console l = l.copies.items ≡ take l.console-index l.consoles
