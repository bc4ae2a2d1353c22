use Rattle.logic_walk.proofs.paths.+push_within.Given as goal

-- a frame has instances of those before it alone
abbrev pub decreases-push_within : goal.decreases-push_within
decreases-push_within l = l.limit
