-- what is read so far has units, and the rest is left
use Rattle.std.proofs.Common.{◌≡◌, ◌++◌, map, Ok}
use Rattle.st_sources.proofs.threads.collected.Given as goal

abbrev pub invariant-loop-reading : goal.invariant-loop-reading
invariant-loop-reading l = map Ok l.units.items ++ l.reading-iterator.rest.items ≡ l.fn.readings.items
