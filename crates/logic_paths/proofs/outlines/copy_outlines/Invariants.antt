use Rattle.std.proofs.Common.{◌≡◌, take, map}
use Rattle.logic_paths.specs.Outlines.{seats_in}
use Rattle.logic_paths.proofs.outlines.copy_outlines.Given as goal

abbrev pub invariant-loop-outline : goal.invariant-loop-outline
invariant-loop-outline l = map seats_in l.copies.items ≡ map seats_in (take l.outline-index l.outlines)
