use Rattle.std.proofs.Common.{◌≡◌, ◌<◌, length, sym, subst, arith}
use Rattle.std.proofs.lemmas.List.{get_or_read}
use Rattle.base_words.specs.Chains.{PlainChains, link_at, number_in, Knows}
use Rattle.base_words.proofs.Following.{before_is}
use Rattle.base_words.proofs.Linking.{no_link}
use Rattle.base_words.proofs.chains.Chains.before.Goals as goal

pub returns-clause-last : goal.returns-clause-last
returns-clause-last c =
    let hashes = c.self.inside.hashes.items in
    let links = c.self.inside.links.items in
    let less : c.args.number < length hashes = subst (λ (p : PlainChains). c.args.number < length p.hashes) (sym c.self.view_is) c.requires in
    let low : c.args.number < length links = (let size = c.self.invariant.0.size in omega (arith, less, size)) in
    let from : c.index.result.now ≡ link_at c.as_slice.result.now c.args.number = subst (λ l. c.index.result.now ≡ link_at l c.args.number) (sym c.as_slice.ensures.value) (get_or_read links c.args.number c.index.result.now low c.index.ensures no_link) in
    rw (← c.self.view_is) (before_is hashes (length c.self.inside.tops.items) c.args.number c.index-2.result.now c.as_slice.result.now c.index.result.now (number_in c.follow.result) (rw c.as_slice.ensures.value c.self.invariant.0.back) less from (get_or_read hashes c.args.number c.index-2.result.now less c.index-2.ensures 0) c.follow.ensures.last)

pub returns-clause-place : goal.returns-clause-place
returns-clause-place c =
    let places = c.self.inside.places.items in
    let links = c.self.inside.links.items in
    let less : c.args.number < length c.self.inside.hashes.items = subst (λ (p : PlainChains). c.args.number < length p.hashes) (sym c.self.view_is) c.requires in
    let low : c.args.number < length links = (let size = c.self.invariant.0.size in omega (arith, less, size)) in
    let from : c.index.result.now ≡ link_at links c.args.number = get_or_read links c.args.number c.index.result.now low c.index.ensures no_link in
    rw (← c.self.view_is) (c.follow.ensures.place places (rw c.as_slice.ensures.value c.self.invariant.1.1.1) (subst (Knows places) (sym from) (c.self.invariant.1.1.1 c.args.number low)))
