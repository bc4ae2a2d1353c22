use Rattle.std.proofs.Common.{◌≡◌, take, map}
use Rattle.logic_source.proofs.pous.names_of.Given as goal

-- the names so far
abbrev pub invariant-loop-block : goal.invariant-loop-block
invariant-loop-block l = l.names ≡ map (λ p. p.name) (take l.block-index l.blocks)
