use Rattle.std.proofs.Common.{◌≡◌, drop, fold}
use Rattle.plant_types.specs.Words.{folded}
use Rattle.base_words.specs.Tables.{mixed}
use Rattle.base_words.proofs.table.hash_of.Given as goal

abbrev pub invariant-loop-byte : goal.invariant-loop-byte
invariant-loop-byte l = fold mixed l.hash (folded (drop l.byte-index l.name)) ≡ fold mixed 2166136261 (folded l.name)
