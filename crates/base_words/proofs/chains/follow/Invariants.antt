use Rattle.std.proofs.Common.{ℕ, List, ◌≤◌, length}
use Rattle.base_words.specs.Chains.{chain_of, IsLink, GoBack, Knows, Know}
use Rattle.base_words.specs.declared.texts.ByteRange.{ByteRange}
use Rattle.base_words.proofs.Following.{IsAlong}
use Rattle.base_words.proofs.chains.follow.Given as goal

abbrev pub invariant-loop-link : goal.invariant-loop-link
invariant-loop-link l = record {
  within : l.link.count ≤ length l.links;
  along : (hashes : List ℕ) (chains end : ℕ) → GoBack hashes chains end l.links → IsLink hashes chains end (chain_of l.hash chains) l.fn.from → IsAlong hashes chains end l.hash l.link;
  place : (places : List ByteRange) → Know places (length l.links) l.links → Knows places l.fn.from → Knows places l.link;
}

abbrev pub decreases-loop-link : goal.decreases-loop-link
decreases-loop-link l = l.link.count
