use Rattle.std.proofs.Common.{◌≡◌, ◌+◌, ◌<◌, ◌∷◌, [], length, sym, ap, arith, subst, ◌∙◌}
use Rattle.std.proofs.lemmas.List.{length-append}
use Rattle.std.specs.Prelude.{min}
use Rattle.base_words.specs.Chains.{PlainChains, chain_of, link_at}
use Rattle.base_words.specs.declared.chains.Link.{Link}
use Rattle.base_words.proofs.Linking.{chains_more}
use Rattle.base_words.proofs.Placing.{know_tops, know_links}
use Rattle.base_words.proofs.chains.Chains.push_reserved.Goals as goal

pub invariant_of-self : goal.invariant_of-self
invariant_of-self c =
    let hashes = c.self.inside.hashes.items in
    let places = c.self.inside.places.items in
    let tops = c.self.inside.tops.items in
    let links = c.self.inside.links.items in
    let which = chain_of c.args.hash (length tops) in
    let room : length hashes < min (min c.self.inside.hashes.cap (min c.self.inside.places.cap c.self.inside.links.cap)) (min (length tops) 4294967295) = subst (λ (p : PlainChains). length p.hashes < p.room) (sym c.self.view_is) c.requires in
    let few : length hashes < 4294967295 = omega (arith, room) in
    let wide : length hashes < length tops = omega (arith, room) in
    let count : c.len.result + 1 ≡ length hashes + 1 = ap (λ n. n + 1) (c.len.ensures ∙ c.self.inside.hashes.ok.0) in
    let placed : length places ≡ length hashes = c.self.invariant.1.0 in
    let link : Link = record { count = c.len.result + 1; hash = c.args.hash; place = c.args.place } in
    let places_long = length-append places (c.args.place ∷ []) in
    let hashes_long = length-append hashes (c.args.hash ∷ []) in
    rw (c.push_reserved.ensures.items, c.push_reserved-2.ensures.items, c.push_reserved-3.ensures.items, c.put_top-link.ensures.tops, c.put_top-link.ensures.top) (
      chains_more hashes tops links link (omega (arith, few)) wide c.put_top-link.ensures.within count c.self.invariant.0,
      (
        omega (arith, places_long, hashes_long, placed),
        (
          know_tops places tops which link (omega (arith, count, placed)) c.self.invariant.1.1.0,
          know_links places c.args.place links (link_at tops which) (c.self.invariant.1.1.0 which c.put_top-link.ensures.within) c.self.invariant.1.1.1,
        ),
      ),
    )
