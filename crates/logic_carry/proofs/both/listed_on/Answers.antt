use Rattle.std.proofs.Common.{sym, subst, List, []}
use Rattle.std.specs.Prelude.{nat_eq}
use Rattle.std.specs.HashMap.{get}
use Rattle.logic_carry.specs.declared.lists.ValueAt.{ValueAt}
use Rattle.logic_carry.specs.declared.lists.StandardAt.{StandardAt}
use Rattle.logic_carry.specs.Lists.{AreValues, AreStandards}
use Rattle.logic_carry.proofs.both.listed_on.Goals as goal

pub returns-clause-listed : goal.returns-clause-listed
returns-clause-listed c = λ words source is.
    let added = c.in_ok-list_source.ensures.lists words source is in
    let numbers = get nat_eq c.args.numbers in
    record {
      grows = added.grows;
      values_are = added.values_are [] (subst (λ (vs : List ValueAt). AreValues words numbers vs []) (sym c.new.ensures.items) tt);
      standards_are = added.standards_are [] (subst (λ (ss : List StandardAt). AreStandards words numbers ss []) (sym c.new-2.ensures.items) tt);
    }
