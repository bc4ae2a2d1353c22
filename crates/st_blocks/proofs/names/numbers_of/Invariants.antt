use Rattle.std.proofs.Common.{◌≡◌, map, take}
use Rattle.plant_types.specs.Words.{folded}
use Rattle.st_blocks.specs.Names.{number}
use Rattle.st_blocks.proofs.names.numbers_of.Given as goal

abbrev pub invariant-loop-word : goal.invariant-loop-word
invariant-loop-word l = l.numbers.items ≡ map (λ word. number l.blocks (folded word.now)) (take l.word-index l.words)
