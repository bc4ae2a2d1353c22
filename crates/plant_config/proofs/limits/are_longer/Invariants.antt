-- what is left of the limit is for the sources that are left
use Rattle.std.proofs.Common.{◌≡◌, drop, map, nat_lt}
use Rattle.plant_config.specs.Limits.{total_length}
use Rattle.plant_config.proofs.limits.are_longer.Given as goal

abbrev pub invariant-loop-source : goal.invariant-loop-source
invariant-loop-source l = nat_lt l.left (total_length (map (λ s. s.1.now) (drop l.source-index l.sources))) ≡ nat_lt l.most (total_length (map (λ s. s.1.now) l.sources))
