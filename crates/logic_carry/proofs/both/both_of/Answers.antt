use Rattle.std.proofs.Common.{arith}
use Rattle.std.specs.HashMap.{hash_map_len}
use Rattle.logic_source.specs.Layout.{all_clocks}
use Rattle.logic_source.specs.Ranges.{all_kinds}
use Rattle.logic_carry.specs.Lists.{numbers_in}
use Rattle.logic_carry.proofs.Numbering.{none_numbered}
use Rattle.logic_carry.proofs.Listing.{values_later, standards_later}
use Rattle.logic_carry.proofs.both.both_of.Goals as goal

pub listed_on-requires : goal.listed_on-requires
listed_on-requires c = none_numbered c.new.result c.new.ensures.empty

pub returns : goal.returns
returns c = λ words before after old_is new_is.
    let first = c.in_ok-first.first in
    let second = c.in_ok-second.second in
    let one = c.in_ok-first.ensures.listed words before old_is in
    let two = c.in_ok-second.ensures.listed words after new_is in
    let older = numbers_in first in
    let all = numbers_in second in
    record {
      numbers = all;
      count = hash_map_len second.numbers;
      numbered = c.in_ok-second.ensures.numbered;
      below = (let long = c.len-paths.ensures.len in omega (arith, long));
      old_is = record {
        values_are = values_later words older all two.grows first.values.items (all_kinds before) one.values_are;
        standards_are = standards_later words older all two.grows first.standards.items (all_clocks before) one.standards_are;
      };
      new_is = record { values_are = two.values_are; standards_are = two.standards_are };
    }
