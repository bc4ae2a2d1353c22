use Rattle.std.proofs.Common.{◌≡◌, drop}
use Rattle.logic_walk.specs.Paths.{last_by}
use Rattle.logic_walk.proofs.paths.last_by.Given as goal

-- what is left to look at from here gives what all gives from the start
abbrev pub invariant-loop-i : goal.invariant-loop-i
invariant-loop-i l = last_by (drop l.i l.seats) l.path l.found l.i ≡ last_by l.seats l.path 0 0
