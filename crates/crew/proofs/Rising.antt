-- Numbers of jobs that rise.
use Rattle.std.proofs.Common.{◌≡◌, ℕ, ◌+◌, ◌<◌, ◌≤◌, List, [], ◌∷◌, ◌++◌, length, slice_index_or, arith, ap, sym, ◌∙◌, ⊎_elim, length-append, map, take, subst}
use Rattle.std.proofs.lemmas.Bool.{cases_eq}
use Rattle.std.proofs.lemmas.List.{get_or_append_left, get_or_push, map_more}
use Rattle.crew.specs.Runs.{IsRisingBelow}

pub none_rise : {S : Type 0} (number : S → ℕ) → IsRisingBelow number 0 []
none_rise number = record {
  apart = λ i j d lt inside. absurd (omega (arith, inside));
  below = λ i d inside. absurd (omega (arith, inside));
}

-- one more job, whose number is as great as the next
pub rise_more : {S : Type 0} (number : S → ℕ) (next : ℕ) (xs : List S) (x : S) → IsRisingBelow number next xs → next ≤ number x → IsRisingBelow number (number x + 1) (xs ++ x ∷ [])
rise_more {S} number next xs x h up =
    let n : length (xs ++ x ∷ []) ≡ length xs + 1 = length-append xs (x ∷ []) in
    let left : (i : ℕ) (d : S) → i < length xs → number (slice_index_or (xs ++ x ∷ []) i d) ≡ number (slice_index_or xs i d) = (λ i d lt. ap number (get_or_append_left xs (x ∷ []) d i lt)) in
    let end : (i : ℕ) (d : S) → length xs ≡ i → number (slice_index_or (xs ++ x ∷ []) i d) ≡ number x = (λ i d e. ap number (get_or_push xs x d i e)) in
    record {
      apart = λ i j d lt inside e. ⊎_elim
          (λ (p : length xs ≡ j). let a = left i d (omega arith) in let b = end j d p in let c = h.below i d (omega arith) in omega arith)
          (λ (p : length xs ≡ j → ⊥). h.apart i j d lt (omega arith) (sym (left i d (omega arith)) ∙ e ∙ left j d (omega arith)))
          (cases_eq (length xs) j);
      below = λ i d inside. ⊎_elim
          (λ (p : length xs ≡ i). let b = end i d p in omega arith)
          (λ (p : length xs ≡ i → ⊥). let a = left i d (omega arith) in let c = h.below i d (omega arith) in omega arith)
          (cases_eq (length xs) i);
    }

-- one more job of a list
pub rise_next : {S J : Type 0} (number : S → ℕ) (f : J → S) (next m : ℕ) (jobs : List J) (n : ℕ) (job : J) → IsRisingBelow number next (map f (take n jobs)) → number (f job) ≡ m → next ≤ m
    → n < length jobs → job ≡ slice_index_or jobs n job → IsRisingBelow number (m + 1) (map f (take (n + 1) jobs))
rise_next {S} {J} number f next m jobs n job h is up inside at =
    let P : J → Type 0 = λ j. IsRisingBelow number (m + 1) (map f (take n jobs) ++ f j ∷ []) in
    let Q : ℕ → Type 0 = λ k. IsRisingBelow number (k + 1) (map f (take n jobs) ++ f job ∷ []) in
    rw (map_more f jobs n job inside) (subst P at (subst Q is (rise_more number next (map f (take n jobs)) (f job) h (omega (arith, is, up)))))
