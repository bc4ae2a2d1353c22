use Rattle.std.proofs.Common.{◌≡◌, take}
use Rattle.engine_system.specs.System.{sites_of}
use Rattle.engine_system.proofs.steps.opening_sites.Given as goal

abbrev pub invariant-loop-row : goal.invariant-loop-row
invariant-loop-row l = l.sites.items ≡ sites_of (take l.row-index l.rows)
