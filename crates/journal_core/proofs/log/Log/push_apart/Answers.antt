use Rattle.std.proofs.Common.{ap, ◌≡◌, ◌∙◌, ◌-◌, ◌++◌, ◌∷◌, [], length, arith}
use Rattle.std.proofs.lemmas.Grind.{common_steps}
use Rattle.journal_core.specs.Rows.{after_entry}
use Rattle.journal_core.specs.Kept.{rows_in}
use Rattle.journal_core.proofs.KeptLaws.{apart_seen, apart_kept, apart_row, log_of}
use Rattle.journal_core.proofs.log.Log.push_apart.Goals as goal

-- a list has fewer than 2 ^ 63 items
pub apart_word-requires : goal.apart_word-requires
apart_word-requires c = omega (arith, c.len-place.ensures, c.self.inside.apart.ok.1, c.self.inside.apart.small)

pub invariant_of-self : goal.invariant_of-self
invariant_of-self c =
    let place : c.len-place.result ≡ length c.self.inside.apart.items = omega (arith, c.len-place.ensures) in
    let some = rw (← c.self.view_is) at c.requires.room in
    let late = rw (← c.self.view_is) at c.requires.in_order in
    rw (c.push_reserved.ensures.items, c.push_reserved.ensures.capacity, c.push_reserved-2.ensures.items, c.push_reserved-2.ensures.capacity)
    (apart_kept c.self.inside.rows.items c.self.inside.apart.items c.self.inside.room _ _ c.args.moment c.len-place.result c.apart_word.result c.args.entry c.apart_word.ensures place c.self.invariant some late)

pub returns : goal.returns
returns c =
    let place : c.len-place.result ≡ length c.self.inside.apart.items = omega (arith, c.len-place.ensures) in
    let left = c.self.inside.room - 1 in
    ap (λ apart. log_of (rows_in apart c.push_reserved-2.new.self.items) left) c.push_reserved.ensures.items
    ∙ ap (λ words. log_of (rows_in (c.self.inside.apart.items ++ apart_row c.args.moment c.args.entry ∷ []) words) left) c.push_reserved-2.ensures.items
    ∙ ap (λ rows. log_of rows left) (apart_seen c.self.inside.apart.items c.self.inside.rows.items c.args.moment c.len-place.result c.apart_word.result c.args.entry c.apart_word.ensures place c.self.invariant.places)
    ∙ ap (λ l. after_entry c.args.moment l c.args.entry) c.self.view_is

pub push_reserved-requires-2 : goal.push_reserved-requires-2
push_reserved-requires-2 c = grind (arith, common_steps)

pub overflow_sub-self : goal.overflow_sub-self
overflow_sub-self c = grind (arith, common_steps)
