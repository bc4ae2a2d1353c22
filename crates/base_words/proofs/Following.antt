-- Along a chain no number with a hash is passed over.
use Rattle.std.proofs.Common.{◌≡◌, ℕ, ◌+◌, ◌<◌, ◌≤◌, inl, inr, Option, Some, None, List, length, arith, ap, sym, subst, ◌∙◌}
use Rattle.std.proofs.lemmas.Bool.{cases_lt}
use Rattle.base_words.specs.declared.chains.Link.{Link}
use Rattle.base_words.specs.Chains.{chain_of, link_at, HaveOthers, IsLast, IsLink, GoBack, BeginAtTops}
use Rattle.std.specs.Prelude.{slice_index}

-- none but what a link leads to, and what stands before that, may have a hash; and it is in the hash's chain
pub record IsAlong (hashes : List ℕ) (chains end mark : ℕ) (link : Link) : Type 0 where
  pub within : link.count ≤ end
  pub others : HaveOthers hashes link.count end mark
  pub chain : (k : ℕ) → link.count ≡ k + 1 → chain_of (slice_index hashes k) chains ≡ chain_of mark chains
  pub hash : (k : ℕ) → link.count ≡ k + 1 → slice_index hashes k ≡ link.hash

pub along_first : (hashes : List ℕ) (chains end mark : ℕ) (link : Link) → IsLink hashes chains end (chain_of mark chains) link → IsAlong hashes chains end mark link
along_first hashes chains end mark link is = record {
  within = is.within;
  others = λ k low high same. is.behind k low high (ap (λ h. chain_of h chains) same);
  chain = is.chain;
  hash = is.hash;
}

pub along_next : (hashes : List ℕ) (chains end mark : ℕ) (links : List Link) (link : Link) (n : ℕ) → GoBack hashes chains end links → link.count ≡ n + 1 → (link.hash ≡ mark → ⊥) → IsAlong hashes chains end mark link → IsAlong hashes chains end mark (link_at links n)
along_next hashes chains end mark links link n back is isnt a =
    let w = a.within in
    let less : n < end = omega (arith, is, w) in
    let b = back n less in
    let low = b.within in
    record {
      within = omega (arith, low, less);
      others = λ k from to same. elim (cases_lt k n) [
        | inl before ↦ b.behind k from before (ap (λ h. chain_of h chains) same ∙ sym (a.chain n is))
        | inr behind ↦ elim (cases_lt n k) [
          | inl past ↦ a.others k (omega (arith, past, is)) to same
          | inr not_past ↦ (let k_is : k ≡ n = omega (arith, behind, not_past) in isnt (sym (a.hash n is) ∙ ap (slice_index hashes) (sym k_is) ∙ same))
        ]
      ];
      chain = λ k at. b.chain k at ∙ a.chain n is;
      hash = b.hash;
    }

pub along_none : (hashes : List ℕ) (chains end mark : ℕ) (link : Link) → link.count ≡ 0 → IsAlong hashes chains end mark link → IsLast hashes end mark None
along_none hashes chains end mark link is a = λ k low high same. a.others k (omega (arith, is)) high same

pub along_found : (hashes : List ℕ) (chains end mark : ℕ) (link : Link) (n : ℕ) → link.count ≡ n + 1 → link.hash ≡ mark → IsAlong hashes chains end mark link → IsLast hashes end mark (Some n)
along_found hashes chains end mark link n is same a = let w = a.within in ((omega (arith, is, w)), (a.hash n is ∙ same, λ k low high. a.others k (omega (arith, is, low)) high))

-- what is found along the chain of a number from that number on
pub before_is : (hashes : List ℕ) (chains n mark : ℕ) (links : List Link) (from : Link) (found : Option ℕ) → GoBack hashes chains (length hashes) links → n < length hashes → from ≡ link_at links n → mark ≡ slice_index hashes n
    → ((hs : List ℕ) (cs end : ℕ) → GoBack hs cs end links → IsLink hs cs end (chain_of mark cs) from → IsLast hs end mark found) → IsLast hashes n (slice_index hashes n) found
before_is hashes chains n mark links from found back within from_is mark_is follows =
    let link : IsLink hashes chains n (chain_of mark chains) from = subst (λ l. IsLink hashes chains n (chain_of mark chains) l) (sym from_is) (subst (λ m. IsLink hashes chains n (chain_of m chains) (link_at links n)) (sym mark_is) (back n within)) in
    subst (λ m. IsLast hashes n m found) mark_is (follows hashes chains n (λ k less. back k (omega (arith, less, within))) link)

-- what is found along the chain of a hash from its top on
pub last_is : (hashes : List ℕ) (mark : ℕ) (tops links : List Link) (from : Link) (found : Option ℕ) → BeginAtTops hashes (length hashes) tops → GoBack hashes (length tops) (length hashes) links → chain_of mark (length tops) < length tops → from ≡ link_at tops (chain_of mark (length tops))
    → ((hs : List ℕ) (cs end : ℕ) → GoBack hs cs end links → IsLink hs cs end (chain_of mark cs) from → IsLast hs end mark found) → IsLast hashes (length hashes) mark found
last_is hashes mark tops links from found begin back within from_is follows =
    follows hashes (length tops) (length hashes) back (subst (λ l. IsLink hashes (length tops) (length hashes) (chain_of mark (length tops)) l) (sym from_is) (begin (chain_of mark (length tops)) within))
