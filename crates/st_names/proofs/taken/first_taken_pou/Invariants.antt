use Rattle.std.proofs.Common.{◌≡◌, ◌++◌, drop, map}
use Rattle.plant_types.specs.Words.{folded}
use Rattle.st_parser.specs.Units.{view_pou}
use Rattle.st_names.specs.Scanned.{first_taken_pou}
use Rattle.st_names.proofs.taken.first_taken_pou.Given as goal

abbrev pub invariant-loop-i : goal.invariant-loop-i
invariant-loop-i l =
    (first_taken_pou l.source l.i (map folded l.names) (map view_pou (drop l.i l.pous)) ≡ first_taken_pou l.source 0 (map folded l.initial.names) (map view_pou l.pous))
    × (map folded l.names ++ map (λ p. folded p.name) (map view_pou (drop l.i l.pous)) ≡ map folded l.initial.names ++ map (λ p. folded p.name) (map view_pou l.pous))
