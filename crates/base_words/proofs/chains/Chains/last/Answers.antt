use Rattle.std.proofs.Common.{◌≡◌, ◌<◌, length, ap, sym, subst, ◌∙◌, arith}
use Rattle.std.proofs.lemmas.List.{get_or_read}
use Rattle.base_words.specs.Chains.{chain_of, link_at, number_in, Knows}
use Rattle.base_words.proofs.Following.{last_is}
use Rattle.base_words.proofs.Linking.{no_link}
use Rattle.base_words.proofs.chains.Chains.last.Goals as goal

pub returns-clause-last : goal.returns-clause-last
returns-clause-last c =
    let tops = c.self.inside.tops.items in
    let wide : c.len.result ≡ length tops = c.len.ensures ∙ c.self.inside.tops.ok.0 in
    let chain : c.chain_of.result ≡ chain_of c.args.hash (length tops) = c.chain_of.ensures.is ∙ ap (chain_of c.args.hash) wide in
    let within : chain_of c.args.hash (length tops) < length tops = (let w = c.chain_of.ensures.within in omega (arith, w, chain, wide)) in
    let top : c.index-top.result.now ≡ link_at tops (chain_of c.args.hash (length tops)) = get_or_read tops c.chain_of.result c.index-top.result.now (omega (arith, within, chain)) c.index-top.ensures no_link ∙ ap (link_at tops) chain in
    rw (← c.self.view_is) (last_is c.self.inside.hashes.items c.args.hash tops c.as_slice.result.now c.index-top.result.now (number_in c.follow.result) c.self.invariant.0.begin (rw c.as_slice.ensures.value c.self.invariant.0.back) within top c.follow.ensures.last)

pub returns-clause-place : goal.returns-clause-place
returns-clause-place c =
    let tops = c.self.inside.tops.items in
    let places = c.self.inside.places.items in
    let wide : c.len.result ≡ length tops = c.len.ensures ∙ c.self.inside.tops.ok.0 in
    let chain : c.chain_of.result ≡ chain_of c.args.hash (length tops) = c.chain_of.ensures.is ∙ ap (chain_of c.args.hash) wide in
    let within : chain_of c.args.hash (length tops) < length tops = (let w = c.chain_of.ensures.within in omega (arith, w, chain, wide)) in
    let top : c.index-top.result.now ≡ link_at tops (chain_of c.args.hash (length tops)) = get_or_read tops c.chain_of.result c.index-top.result.now (omega (arith, within, chain)) c.index-top.ensures no_link ∙ ap (link_at tops) chain in
    rw (← c.self.view_is) (c.follow.ensures.place places (rw c.as_slice.ensures.value c.self.invariant.1.1.1) (subst (Knows places) (sym top) (c.self.invariant.1.1.0 (chain_of c.args.hash (length tops)) within)))
