use Rattle.std.proofs.Common.{◌≡◌, ◌++◌, drop, map}
use Rattle.plant_types.specs.Words.{folded}
use Rattle.st_names.specs.DeclaredNames.{declared_words}
use Rattle.st_names.specs.Scanned.{one_taken}
use Rattle.st_names.proofs.taken.one_taken.Given as goal

abbrev pub invariant-loop-declared : goal.invariant-loop-declared
invariant-loop-declared l =
    (one_taken (map folded l.names) (declared_words (drop l.declared-index l.list)) ≡ one_taken (map folded l.initial.names) (declared_words l.list))
    × (map folded l.names ++ declared_words (drop l.declared-index l.list) ≡ map folded l.initial.names ++ declared_words l.list)
