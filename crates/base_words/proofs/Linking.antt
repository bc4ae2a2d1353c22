-- One more number at the head of its chain.
use Rattle.std.proofs.Common.{◌≡◌, ℕ, ◌+◌, ◌<◌, ◌≤◌, inl, inr, List, [], ◌∷◌, ◌++◌, length, slice_index, slice_set, arith, refl, ap, sym, subst, ◌∙◌}
use Rattle.std.proofs.lemmas.Bool.{cases_lt, cases_eq}
use Rattle.std.proofs.lemmas.List.{get_or-set_same, get_or-set_other, get_or_append_left, length-set, length-append}
use Rattle.std.specs.Prelude.{slice_index_or}
use Rattle.base_words.specs.declared.chains.Link.{Link}
use Rattle.base_words.specs.Chains.{chain_of, link_at, IsLink, GoBack, BeginAtTops, AreChains}

abbrev pub no_link : Link
no_link = record { count = 0; hash = 0; place = record { start = 0; end = 0 } }

-- a list with one more, at an earlier place and at the last one
pub at_front : {X : Type 0} (xs : List X) (x d : X) (k : ℕ) → k < length xs → slice_index_or (xs ++ x ∷ []) k d ≡ slice_index_or xs k d
at_front xs x d k less = get_or_append_left xs (x ∷ []) d k less

pub at_end : {X : Type 0} (xs : List X) (x d : X) → slice_index_or (xs ++ x ∷ []) (length xs) d ≡ x
at_end [] x d = refl
at_end (y ∷ xs) x d = at_end xs x d

-- a link into some hashes is one into these and one more
link_lift : (hashes : List ℕ) (h chains end which : ℕ) (link : Link) → end ≤ length hashes → IsLink hashes chains end which link → IsLink (hashes ++ h ∷ []) chains end which link
link_lift hashes h chains end which link few is = let w = is.within in record {
  within = w;
  behind = λ k low high same. is.behind k low high (ap (λ m. chain_of m chains) (sym (at_front hashes h 0 k (omega (arith, high, few)))) ∙ same);
  chain = λ k at. ap (λ m. chain_of m chains) (at_front hashes h 0 k (omega (arith, at, w, few))) ∙ is.chain k at;
  hash = λ k at. at_front hashes h 0 k (omega (arith, at, w, few)) ∙ is.hash k at;
}

-- the link to one more number leads to the last of its chain
link_last : (hashes : List ℕ) (h chains : ℕ) (link : Link) → link.count ≡ length hashes + 1 → link.hash ≡ h → IsLink (hashes ++ h ∷ []) chains (length hashes + 1) (chain_of h chains) link
link_last hashes h chains link count hash = record {
  within = omega (arith, count);
  behind = λ k low high same. absurd (omega (arith, low, high, count));
  chain = λ k is. (let at : k ≡ length hashes = omega (arith, is, count) in ap (λ m. chain_of m chains) (ap (slice_index (hashes ++ h ∷ [])) at ∙ at_end hashes h 0));
  hash = λ k is. (let at : k ≡ length hashes = omega (arith, is, count) in ap (slice_index (hashes ++ h ∷ [])) at ∙ at_end hashes h 0 ∙ sym hash);
}

-- the last number of another chain is what it was
link_other : (hashes : List ℕ) (h chains which : ℕ) (link : Link) → (chain_of h chains ≡ which → ⊥) → IsLink hashes chains (length hashes) which link → IsLink (hashes ++ h ∷ []) chains (length hashes + 1) which link
link_other hashes h chains which link other is = let l = link_lift hashes h chains (length hashes) which link (omega arith) is in let w = l.within in record {
  within = omega (arith, w);
  behind = λ k low high same. elim (cases_lt k (length hashes)) [
    | inl less ↦ l.behind k low less same
    | inr last ↦ (let at : k ≡ length hashes = omega (arith, last, high) in other (sym (ap (λ m. chain_of m chains) (ap (slice_index (hashes ++ h ∷ [])) at ∙ at_end hashes h 0)) ∙ same))
  ];
  chain = l.chain;
  hash = l.hash;
}

begin_at : (hashes : List ℕ) (h : ℕ) (tops : List Link) (link : Link) (which : ℕ) → chain_of h (length tops) < length tops → link.count ≡ length hashes + 1 → link.hash ≡ h → BeginAtTops hashes (length hashes) tops → which < length tops → IsLink (hashes ++ h ∷ []) (length tops) (length hashes + 1) which (link_at (slice_set tops (chain_of h (length tops)) link) which)
begin_at hashes h tops link which within count hash begin less =
    elim (cases_eq which (chain_of h (length tops))) [
      | inl same ↦ (let at : link_at (slice_set tops (chain_of h (length tops)) link) which ≡ link = ap (link_at (slice_set tops (chain_of h (length tops)) link)) same ∙ get_or-set_same tops (chain_of h (length tops)) link no_link within in
          rw at (subst (λ m. IsLink (hashes ++ h ∷ []) (length tops) (length hashes + 1) m link) (sym same) (link_last hashes h (length tops) link count hash)))
      | inr other ↦ (let at : link_at (slice_set tops (chain_of h (length tops)) link) which ≡ link_at tops which = get_or-set_other tops (chain_of h (length tops)) which link no_link other in
          rw at (link_other hashes h (length tops) which (link_at tops which) (λ is. other (sym is)) (begin which less)))
    ]

begin_more : (hashes : List ℕ) (h : ℕ) (tops : List Link) (link : Link) → chain_of h (length tops) < length tops → link.count ≡ length hashes + 1 → link.hash ≡ h → BeginAtTops hashes (length hashes) tops → BeginAtTops (hashes ++ h ∷ []) (length hashes + 1) (slice_set tops (chain_of h (length tops)) link)
begin_more hashes h tops link within count hash begin which less =
    let wide : length (slice_set tops (chain_of h (length tops)) link) ≡ length tops = length-set tops (chain_of h (length tops)) link in
    subst (λ n. IsLink (hashes ++ h ∷ []) n (length hashes + 1) which (link_at (slice_set tops (chain_of h (length tops)) link) which)) (sym wide) (begin_at hashes h tops link which within count hash begin (omega (arith, less, wide)))

back_more : (hashes : List ℕ) (h chains : ℕ) (links : List Link) (link : Link) → length links ≡ length hashes → IsLink hashes chains (length hashes) (chain_of h chains) link → GoBack hashes chains (length hashes) links → GoBack (hashes ++ h ∷ []) chains (length hashes + 1) (links ++ link ∷ [])
back_more hashes h chains links link size is back k less =
    elim (cases_lt k (length hashes)) [
      | inl before ↦
          let hash : slice_index (hashes ++ h ∷ []) k ≡ slice_index hashes k = at_front hashes h 0 k before in
          let at : link_at (links ++ link ∷ []) k ≡ link_at links k = at_front links link no_link k (omega (arith, before, size)) in
          subst (λ l. IsLink (hashes ++ h ∷ []) chains k (chain_of (slice_index (hashes ++ h ∷ []) k) chains) l) (sym at)
          (subst (λ m. IsLink (hashes ++ h ∷ []) chains k (chain_of m chains) (link_at links k)) (sym hash)
          (link_lift hashes h chains k (chain_of (slice_index hashes k) chains) (link_at links k) (omega (arith, before)) (back k before)))
      | inr last ↦
          let is_last : k ≡ length hashes = omega (arith, last, less) in
          let hash : slice_index (hashes ++ h ∷ []) (length hashes) ≡ h = at_end hashes h 0 in
          let at : link_at (links ++ link ∷ []) (length hashes) ≡ link = ap (link_at (links ++ link ∷ [])) (sym size) ∙ at_end links link no_link in
          subst (λ n. IsLink (hashes ++ h ∷ []) chains n (chain_of (slice_index (hashes ++ h ∷ []) n) chains) (link_at (links ++ link ∷ []) n)) (sym is_last)
          (subst (λ l. IsLink (hashes ++ h ∷ []) chains (length hashes) (chain_of (slice_index (hashes ++ h ∷ []) (length hashes)) chains) l) (sym at)
          (subst (λ m. IsLink (hashes ++ h ∷ []) chains (length hashes) (chain_of m chains) link) (sym hash)
          (link_lift hashes h chains (length hashes) (chain_of h chains) link (omega arith) is)))
    ]

pub chains_more : (hashes : List ℕ) (tops links : List Link) (link : Link) → length hashes + 1 < 4294967296 → length hashes < length tops → chain_of link.hash (length tops) < length tops → link.count ≡ length hashes + 1 → AreChains hashes tops links → AreChains (hashes ++ link.hash ∷ []) (slice_set tops (chain_of link.hash (length tops)) link) (links ++ link_at tops (chain_of link.hash (length tops)) ∷ [])
chains_more hashes tops links link few some within count are =
    let h = link.hash in
    let long : length (hashes ++ h ∷ []) ≡ length hashes + 1 = length-append hashes (h ∷ []) in
    let links_long : length (links ++ link_at tops (chain_of h (length tops)) ∷ []) ≡ length links + 1 = length-append links (link_at tops (chain_of h (length tops)) ∷ []) in
    let wide : length (slice_set tops (chain_of h (length tops)) link) ≡ length tops = length-set tops (chain_of h (length tops)) link in
    let size = are.size in
    record {
      few = omega (arith, long, few);
      size = omega (arith, long, links_long, size);
      wide = λ any. omega (arith, wide, within);
      begin = subst (λ n. BeginAtTops (hashes ++ h ∷ []) n (slice_set tops (chain_of h (length tops)) link)) (sym long) (begin_more hashes h tops link within count refl are.begin);
      back = subst (λ n. GoBack (hashes ++ h ∷ []) (length (slice_set tops (chain_of h (length tops)) link)) n (links ++ link_at tops (chain_of h (length tops)) ∷ [])) (sym long)
          (subst (λ n. GoBack (hashes ++ h ∷ []) n (length hashes + 1) (links ++ link_at tops (chain_of h (length tops)) ∷ [])) (sym wide) (back_more hashes h (length tops) links (link_at tops (chain_of h (length tops))) size (are.begin (chain_of h (length tops)) within) are.back));
    }
