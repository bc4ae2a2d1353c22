use Rattle.std.proofs.Common.{◌≡◌, drop, map}
use Rattle.plant_types.specs.Words.{folded}
use Rattle.st_names.specs.DeclaredNames.{declared_words}
use Rattle.st_names.specs.Taken.{repeats}
use Rattle.st_names.specs.Asked.{repeats_after}
use Rattle.st_names.proofs.repeated.repeats.Given as goal

abbrev pub invariant-loop-declared : goal.invariant-loop-declared
invariant-loop-declared l = repeats_after (map folded l.names) (declared_words (drop l.declared-index l.list)) ≡ repeats (declared_words l.list)
