use Rattle.std.proofs.Common.{◌≡◌, length}
use Rattle.base_words.specs.Chains.{GoBack, BeginAtTops, Know}
use Rattle.base_words.proofs.chains.tops_of.Given as goal

abbrev pub invariant-loop-number : goal.invariant-loop-number
invariant-loop-number l = record {
  wide : length l.tops.items ≡ l.chains;
  size : length l.links ≡ length l.hashes;
  begin : BeginAtTops l.hashes l.number l.tops.items;
  back : GoBack l.hashes l.chains l.number l.links;
  tops_know : Know l.places (length l.tops.items) l.tops.items;
  links_know : Know l.places l.number l.links;
}
