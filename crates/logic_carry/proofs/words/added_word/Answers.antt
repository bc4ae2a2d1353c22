use Rattle.std.proofs.Common.{◌∙◌, ap, sym, subst, Some, arith}
use Rattle.base_words.specs.Names.{find_name}
use Rattle.logic_carry.specs.Paths.{Grows}
use Rattle.logic_carry.proofs.Added.{names_with, name_added, names_grow, absent}
use Rattle.logic_carry.proofs.words.added_word.Goals as goal

pub returns-clause-number : goal.returns-clause-number
returns-clause-number c =
    let old = c.args.names.now in
    let name = c.args.name.now in
    let whole = names_with old c.add.new.self name c.in_ok-_is_new._is_new c.requires c.in_ok-_is_new.ensures.added c.in_ok-_is_new.ensures.names in
    record {
      found = ap (λ l. find_name l name) whole ∙ name_added old name (absent old name c.requires) ∙ ap Some (sym c.len-number.ensures.count);
      small = omega (arith, c.len-number.ensures.small);
    }

pub returns-clause-grows : goal.returns-clause-grows
returns-clause-grows c =
    let old = c.args.names.now in
    let name = c.args.name.now in
    let whole = names_with old c.add.new.self name c.in_ok-_is_new._is_new c.requires c.in_ok-_is_new.ensures.added c.in_ok-_is_new.ensures.names in
    subst (λ l. Grows (find_name old) (find_name l)) (sym whole) (names_grow old name)
