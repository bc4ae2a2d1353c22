use Rattle.std.proofs.Common.{◌≡◌, take}
use Rattle.console_boards.specs.Counts.{consoles_in}
use Rattle.console_boards.proofs.tally.consoles_in.Given as goal

abbrev pub invariant-loop-tally : goal.invariant-loop-tally
invariant-loop-tally l = l.consoles ≡ consoles_in (take l.tally-index l.tallies)
