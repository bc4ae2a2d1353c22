-- Links know the places of their numbers: with one more number at the head of its chain.
use Rattle.std.proofs.Common.{◌≡◌, ℕ, ◌+◌, ◌<◌, inl, inr, List, [], ◌∷◌, ◌++◌, length, slice_set, arith, ap, ◌∙◌}
use Rattle.std.proofs.lemmas.Bool.{cases_lt, cases_eq}
use Rattle.std.proofs.lemmas.List.{get_or-set_same, get_or-set_other, length-set, length-append}
use Rattle.base_words.specs.declared.chains.Link.{Link}
use Rattle.base_words.specs.declared.texts.ByteRange.{ByteRange}
use Rattle.base_words.specs.Texts.{place_at}
use Rattle.base_words.specs.Chains.{link_at, Knows, Know}
use Rattle.base_words.proofs.Linking.{no_link, at_front, at_end}

abbrev no_place : ByteRange
no_place = record { start = 0; end = 0 }

-- with the place of one more number a link still knows
knows_more : (places : List ByteRange) (place : ByteRange) (link : Link) → Knows places link → Knows (places ++ place ∷ []) link
knows_more places place link knows k is =
    let within = (knows k is).0 in
    let long = length-append places (place ∷ []) in
    (omega (arith, within, long), at_front places place no_place k within ∙ (knows k is).1)

-- the link to that number knows
knows_last : (places : List ByteRange) (link : Link) → link.count ≡ length places + 1 → Knows (places ++ link.place ∷ []) link
knows_last places link count k is =
    let at : k ≡ length places = omega (arith, is, count) in
    let long = length-append places (link.place ∷ []) in
    (omega (arith, at, long), ap (place_at (places ++ link.place ∷ [])) at ∙ at_end places link.place no_place)

pub know_tops : (places : List ByteRange) (tops : List Link) (which : ℕ) (link : Link) → link.count ≡ length places + 1 → Know places (length tops) tops
    → Know (places ++ link.place ∷ []) (length (slice_set tops which link)) (slice_set tops which link)
know_tops places tops which link count know i less =
    let wide = length-set tops which link in
    let within : i < length tops = omega (arith, less, wide) in
    elim (cases_eq i which) [
      | inl same ↦ (let at : link_at (slice_set tops which link) i ≡ link = ap (link_at (slice_set tops which link)) same ∙ get_or-set_same tops which link no_link (omega (arith, within, same)) in
          rw at (knows_last places link count))
      | inr other ↦ (let at : link_at (slice_set tops which link) i ≡ link_at tops i = get_or-set_other tops which i link no_link other in
          rw at (knows_more places link.place (link_at tops i) (know i within)))
    ]

pub know_links : (places : List ByteRange) (place : ByteRange) (links : List Link) (link : Link) → Knows places link → Know places (length links) links
    → Know (places ++ place ∷ []) (length (links ++ link ∷ [])) (links ++ link ∷ [])
know_links places place links link knows know i less =
    let long = length-append links (link ∷ []) in
    elim (cases_lt i (length links)) [
      | inl before ↦ (let at : link_at (links ++ link ∷ []) i ≡ link_at links i = at_front links link no_link i before in
          rw at (knows_more places place (link_at links i) (know i before)))
      | inr last ↦ (let is_last : i ≡ length links = omega (arith, last, less, long) in
          let at : link_at (links ++ link ∷ []) i ≡ link = ap (link_at (links ++ link ∷ [])) is_last ∙ at_end links link no_link in
          rw at (knows_more places place link knows))
    ]
