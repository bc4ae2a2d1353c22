use Rattle.std.proofs.Common.{List, [], ◌∷◌, ◌++◌, append-nil, sym, subst, refl}
use Rattle.logic_source.specs.Layout.{ClockAt}
use Rattle.logic_source.specs.Ranges.{local_kinds}
use Rattle.logic_carry.specs.declared.lists.StandardAt.{StandardAt}
use Rattle.logic_carry.specs.Lists.{Lists, numbers_in}
use Rattle.logic_carry.proofs.Tables.{grows_none, at_later}
use Rattle.logic_carry.proofs.Listing.{lists_grown, list_block_at}
use Rattle.logic_carry.proofs.lists.list_standard.Goals as goal

pub returns-clause-lists : goal.returns-clause-lists
returns-clause-lists c = λ words locals q are at_q.
    let before = c.args.listed.now in
    let old = c.list_own.new.listed in
    let new = numbers_in old in
    let s : StandardAt = record { path = c.args.path; of = c.args.of } in
    let clock : ClockAt = record { of = c.args.of; path = q } in
    let own = c.in_ok-list_own.ensures.lists words locals q are at_q in
    let more = list_block_at words new old.values.items old.standards.items s clock (at_later words words (numbers_in before) new (grows_none words) own.grows c.args.path q at_q) refl in
    subst (λ (ss : List StandardAt). Lists words (numbers_in before) new before.values.items old.values.items before.standards.items ss (local_kinds locals q) (clock ∷ [])) (sym c.in_ok-push.ensures.items)
    (lists_grown words (numbers_in before) new new new before.values.items old.values.items old.values.items before.standards.items old.standards.items (old.standards.items ++ s ∷ []) (local_kinds locals q) [] (local_kinds locals q) [] (clock ∷ []) (clock ∷ [])
    own (grows_none new) more (sym (append-nil (local_kinds locals q))) refl)
