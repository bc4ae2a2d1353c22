use Rattle.std.proofs.Common.{◌≡◌, List, ℕ}
use Rattle.base_words.specs.Names.{find_name}
use Rattle.logic_carry.proofs.Shaping.{source_later}
use Rattle.vm_carry.proofs.carrying.pair_of.Goals as goal

pub returns : goal.returns
returns c =
    let words = find_name c.shape_of_source.new.names in
    let later = find_name c.shape_of_source-2.new.names in
    let old = c.args.old.now in
    let new = c.args.new.now in
    let before = source_later words later c.in_ok-after.ensures.grows c.in_ok-before.before old c.in_ok-before.ensures.shape in
    record {
      names = c.shape_of_source-2.new.names;
      are = c.in_ok-both.ensures later old new before c.in_ok-after.ensures.shape;
      old_named = c.are_distinct.ensures;
      new_named = c.are_distinct-2.ensures;
    }
