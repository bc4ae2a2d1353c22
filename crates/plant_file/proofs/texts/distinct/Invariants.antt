use Rattle.std.specs.Str.{bytes_eq}
use Rattle.plant_file.proofs.Seen.{Gone}
use Rattle.plant_file.proofs.texts.distinct.Given as goal

abbrev pub invariant-loop-text : goal.invariant-loop-text
invariant-loop-text l = Gone bytes_eq (λ t. t.now) l.texts l.text-index l.found
