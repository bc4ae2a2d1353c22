use Rattle.std.proofs.Common.{◌≡◌, ◌++◌, map, take, drop}
use Rattle.console_boards.specs.Counts.{counted}
use Rattle.console_boards.proofs.tally.count.Given as goal

abbrev pub invariant-loop-tally : goal.invariant-loop-tally
invariant-loop-tally l = (l.tallies ≡ map (counted l.console) (take l.tally-index l.fn.tallies) ++ drop l.tally-index l.fn.tallies) × (drop l.tally-index l.tallies ≡ drop l.tally-index l.fn.tallies)
