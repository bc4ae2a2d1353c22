use Rattle.std.proofs.Common.{length}
use Rattle.st_lexer.proofs.durations.+parts_after.Given as goal

abbrev pub decreases-parts_after : goal.decreases-parts_after
decreases-parts_after l = length l.units.now
