use Rattle.std.proofs.Common.{◌≡◌, take, map}
use Rattle.plant_folder.proofs.verdicts.pairs.Given as goal

-- the pairs are those of the sources so far
abbrev pub invariant-loop-source : goal.invariant-loop-source
invariant-loop-source l =
    (map (λ s. s.0.now) l.pairs.items ≡ map (λ s. s.name) (take l.source-index l.sources))
    × (map (λ s. s.1.now) l.pairs.items ≡ map (λ s. s.text.items) (take l.source-index l.sources))
