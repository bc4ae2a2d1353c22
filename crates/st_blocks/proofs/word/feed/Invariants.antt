use Rattle.std.proofs.Common.{◌≡◌, drop, fold}
use Rattle.st_blocks.specs.Letters.{fed_letters}
use Rattle.st_blocks.proofs.word.feed.Given as goal

abbrev pub invariant-loop-byte : goal.invariant-loop-byte
invariant-loop-byte g l = fold g.H.Hasher.write l.state (fed_letters (drop l.byte-index l.bytes)) ≡ fold g.H.Hasher.write l.fn.state (fed_letters l.bytes)
