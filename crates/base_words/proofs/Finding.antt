-- A name that is found by its hash.
use Rattle.std.proofs.Common.{◌≡◌, ℕ, ◌+◌, ◌<◌, ◌≤◌, inl, inr, true, false, Option, Some, None, List, [], length, map, slice_index, arith, refl, ap, sym, subst, ◌∙◌}
use Rattle.std.proofs.lemmas.Bool.{cases_lt, cases_Bool}
use Rattle.std.proofs.lemmas.List.{get_or-map}
use Rattle.std.specs.Prelude.{slice_index_or, fold}
use Rattle.std.specs.Cmp.Lexicographic.{bytes_decides}
use Rattle.base_words.specs.declared.table.Case.{Case}
use Rattle.base_words.specs.declared.table.Case.TheVariants as case
use Rattle.base_words.specs.Tables.{key, is_alike, mixed, hash_of}
use Rattle.base_words.specs.Chains.{HaveOthers, IsLast}
use Rattle.base_words.specs.Found.{AreOthers, IsFound}

-- names that are one have one hash
same_hash : (letters : Case) (a b : List ℕ) → key letters a ≡ key letters b → hash_of a ≡ hash_of b
unfolding hash_of
same_hash case.Counts a b same = ap hash_of same
same_hash case.HasNoMeaning a b same = ap (fold mixed 2166136261) same

alike_hash : (letters : Case) (a b : List ℕ) → is_alike letters a b ≡ true → hash_of a ≡ hash_of b
alike_hash letters a b alike = same_hash letters a b ((bytes_decides (key letters a) (key letters b)).0 alike)

-- one more than a number that was found, and 0 for none
abbrev pub count_of : Option ℕ → ℕ
count_of None = 0
count_of (Some k) = k + 1

-- behind what was found no name is one with this
pub record IsSearched (letters : Case) (names : List (List ℕ)) (name : List ℕ) (found : Option ℕ) : Type 0 where
  pub within : count_of found ≤ length names
  pub others : AreOthers letters names (count_of found) (length names) name
  pub hash : (k : ℕ) → found ≡ Some k → hash_of (slice_index_or names k []) ≡ hash_of name

hash_at : (names : List (List ℕ)) (hashes : List ℕ) (k : ℕ) → hashes ≡ map hash_of names → k < length names → slice_index hashes k ≡ hash_of (slice_index_or names k [])
hash_at names hashes k are less = ap (λ hs. slice_index hs k) are ∙ get_or-map hash_of names k [] 0 less

-- names whose hash isn't that of a name aren't one with it
unlike : (letters : Case) (names : List (List ℕ)) (hashes : List ℕ) (name : List ℕ) (from end : ℕ) → hashes ≡ map hash_of names → end ≤ length names → HaveOthers hashes from end (hash_of name) → AreOthers letters names from end name
unlike letters names hashes name from end are few others k low high =
    elim (cases_Bool (is_alike letters name (slice_index_or names k []))) [
      | inl alike ↦ absurd (others k low high (hash_at names hashes k are (omega (arith, high, few)) ∙ sym (alike_hash letters name (slice_index_or names k []) alike)))
      | inr isnt ↦ isnt
    ]

searched : (letters : Case) (names : List (List ℕ)) (hashes : List ℕ) (name : List ℕ) (end : ℕ) (found : Option ℕ) → hashes ≡ map hash_of names → end ≤ length names → AreOthers letters names end (length names) name → IsLast hashes end (hash_of name) found → IsSearched letters names name found
searched letters names hashes name end None are few others is = record {
  within = omega arith;
  others = λ k low high. elim (cases_lt k end) [
    | inl less ↦ unlike letters names hashes name 0 end are few is k low less
    | inr past ↦ others k past high
  ];
  hash = λ k no. absurd (cc no);
}
searched letters names hashes name end (Some n) are few others is =
    let less = is.0 in
    record {
      within = omega (arith, less, few);
      others = λ k low high. elim (cases_lt k end) [
        | inl before ↦ unlike letters names hashes name (n + 1) end are few is.1.1 k low before
        | inr past ↦ others k past high
      ];
      hash = λ k at. (let same : n ≡ k = cc at in ap (λ m. hash_of (slice_index_or names m [])) (sym same) ∙ sym (hash_at names hashes n are (omega (arith, less, few))) ∙ is.1.0);
    }

pub searched_first : (letters : Case) (names : List (List ℕ)) (hashes : List ℕ) (name : List ℕ) (found : Option ℕ) → hashes ≡ map hash_of names → length hashes ≡ length names → IsLast hashes (length hashes) (hash_of name) found → IsSearched letters names name found
searched_first letters names hashes name found are long is = searched letters names hashes name (length hashes) found are (omega (arith, long)) (λ k low high. absurd (omega (arith, low, high, long))) is

pub searched_next : (letters : Case) (names : List (List ℕ)) (hashes : List ℕ) (name : List ℕ) (k : ℕ) (found : Option ℕ) → hashes ≡ map hash_of names → IsSearched letters names name (Some k) → is_alike letters name (slice_index_or names k []) ≡ false → IsLast hashes k (slice_index hashes k) found → IsSearched letters names name found
searched_next letters names hashes name k found are so_far isnt is =
    let within = so_far.within in
    let same : slice_index hashes k ≡ hash_of name = hash_at names hashes k are (omega (arith, within)) ∙ so_far.hash k refl in
    searched letters names hashes name k found are (omega (arith, within))
    (λ j low high. elim (cases_lt k j) [
      | inl past ↦ so_far.others j (omega (arith, past)) high
      | inr last ↦ (let at : j ≡ k = omega (arith, last, low) in ap (λ m. is_alike letters name (slice_index_or names m [])) at ∙ isnt)
    ])
    (subst (λ h. IsLast hashes k h found) same is)

pub found_none : (letters : Case) (names : List (List ℕ)) (name : List ℕ) → IsSearched letters names name None → IsFound letters names name None
found_none letters names name is = is.others

pub found_some : (letters : Case) (names : List (List ℕ)) (name : List ℕ) (k : ℕ) → IsSearched letters names name (Some k) → is_alike letters name (slice_index_or names k []) ≡ true → IsFound letters names name (Some k)
found_some letters names name k is alike = let within = is.within in ((omega (arith, within)), alike)
