use Rattle.std.proofs.Common.{◌≡◌, length}
use Rattle.try_twins.proofs.jobs.shuffle.Given as goal

-- the things stay as many
abbrev pub invariant-loop-last : goal.invariant-loop-last
invariant-loop-last g l = length l.things ≡ length l.fn.things
