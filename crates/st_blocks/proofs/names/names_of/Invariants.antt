use Rattle.std.proofs.Common.{◌≡◌, ℕ, List, take}
use Rattle.indexmap.specs.IndexMap.{get}
use Rattle.plant_types.specs.Words.{folded, same_word}
use Rattle.st_blocks.specs.Blocks.{first_of}
use Rattle.st_blocks.proofs.names.names_of.Given as goal

abbrev pub invariant-loop-i : goal.invariant-loop-i
invariant-loop-i l = (word : List ℕ) → get same_word l.names word ≡ first_of (take l.i l.blocks) (folded word)
