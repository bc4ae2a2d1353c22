-- Flags as bits of words, and marks of which one is set.
use Rattle.std.proofs.Common.{◌≡◌, ◌≢◌, ℕ, zero, suc, ◌+◌, ◌*◌, ◌/◌, ◌%◌, ◌-◌, ◌^◌, ◌<◌, ◌≤◌, inl, inr, Bool, true, false, Some, List, [], ◌∷◌, length, slice_get, slice_set, get_or, set, replicate, eqb, arith, refl, sym, ap, ◌∙◌, w64, ext_get_or, length-set, get_or-set_same, get_or-set_other, eq-eqb}
use Rattle.std.proofs.lemmas.List.{length-replicate, get_or-replicate}
use Rattle.std.proofs.lemmas.List.FromFn.{length-map-range_with_len, get_or-map-range_with_len}
use Rattle.std.proofs.lemmas.Bool.{cases_eq, cases_lt}
use Rattle.std.proofs.lemmas.Nat.{and_le_r}
use Rattle.std.proofs.lemmas.Nat.Bits.{bit_at_lowest, bit_at-suc, bit_at_and, bit_at_set_same, bit_at_set_other, bit_at-zero, bit_at-trailing_zeros}
use Rattle.std.proofs.lemmas.Option.{slice_get-get_or}
use Rattle.std.specs.Prelude.{bit_and, bit_or}
use Rattle.std.specs.Int.{bit_at, trailing_zeros}
use Rattle.alarm_bank.specs.Marks.{bit_of, flags_of, AreMarks}

-- a mark that isn't set after one was set is another, and wasn't set before
pub unmarked_set : (marks : List Bool) (at n : ℕ) → slice_get (slice_set marks at true) n ≡ Some false → (n ≢ at) × (slice_get marks n ≡ Some false)
unmarked_set [] at n h = absurd (cc h)
unmarked_set (m ∷ marks) zero zero h = absurd (cc h)
unmarked_set (m ∷ marks) zero (suc n) h = (λ e. absurd (omega (arith, e)), h)
unmarked_set (m ∷ marks) (suc at) zero h = (λ e. absurd (omega (arith, e)), h)
unmarked_set (m ∷ marks) (suc at) (suc n) h = let r = unmarked_set marks at n h in (λ e. r.0 (omega (arith, e)), r.1)

-- any other mark stays
pub others_stay : (marks : List Bool) (at n : ℕ) → n ≢ at → slice_get (slice_set marks at true) n ≡ slice_get marks n
others_stay [] at n h = refl
others_stay (m ∷ marks) zero zero h = absurd (h refl)
others_stay (m ∷ marks) zero (suc n) h = refl
others_stay (m ∷ marks) (suc at) zero h = refl
others_stay (m ∷ marks) (suc at) (suc n) h = others_stay marks at n (λ e. h (ap suc e))

-- there is a flag for each place
pub length-flags_of : (count : ℕ) (words : List ℕ) → length (flags_of count words) ≡ count
unfolding flags_of
length-flags_of count words = length-map-range_with_len (bit_of words) 0 count

-- a place's flag is its bit
pub get_or-flags_of : (count : ℕ) (words : List ℕ) (k : ℕ) → k < count → get_or (flags_of count words) k false ≡ bit_of words k
unfolding flags_of
get_or-flags_of count words k h = get_or-map-range_with_len (bit_of words) 0 count k k false h (omega arith)

pub slice_get-flags_of : (count : ℕ) (words : List ℕ) (k : ℕ) → k < count → slice_get (flags_of count words) k ≡ Some (bit_of words k)
slice_get-flags_of count words k h = slice_get-get_or (flags_of count words) k false (omega (arith, h, length-flags_of count words)) ∙ ap Some (get_or-flags_of count words k h)

-- a word without a bit
pub bit_none : (words : List ℕ) (n : ℕ) → get_or words (n / 64) 0 ≡ 0 → bit_of words n ≡ false
bit_none words n none = ap (λ x. eqb (bit_at x (n % 64)) 1) none ∙ ap (λ x. eqb x 1) (bit_at-zero (n % 64))

-- words without a bit are marks of which none is set
pub flags_of_none : (count : ℕ) (words : List ℕ) → ((n : ℕ) → get_or words n 0 ≡ 0) → flags_of count words ≡ replicate count false
flags_of_none count words none =
    ext_get_or false _ _ (length-flags_of count words ∙ sym (length-replicate count false))
    (λ k h.
    let within : k < count = rw length-flags_of at h in
    get_or-flags_of count words k within ∙ bit_none words k (none (k / 64)) ∙ sym (get_or-replicate count k false false within))

pub marks_none : (count : ℕ) (words : List ℕ) → length words ≡ count / 64 + 1 → ((n : ℕ) → get_or words n 0 ≡ 0) → AreMarks count words
marks_none count words room none = record { room = room; rest = λ n h. bit_none words n (none (n / 64)) }

module _ (words : List ℕ) (n word : ℕ) (within : n / 64 < length words) (read : word ≡ get_or words (n / 64) 0) where
  abbrev pub new : ℕ
  new = bit_or word (1 * 2 ^ (n % 64) % 2 ^ 64)

  -- a bit that was set
  bit_set : bit_of (set words (n / 64) new) n ≡ true
  bit_set = ap (λ x. eqb (bit_at x (n % 64)) 1) (get_or-set_same words (n / 64) new 0 (omega (arith, within))) ∙ eq-eqb _ 1 (bit_at_set_same w64 word (n % 64) (omega arith))

  -- any other bit stays
  bit_stays : (k : ℕ) → k ≢ n → bit_of (set words (n / 64) new) k ≡ bit_of words k
  bit_stays k other =
      elim (cases_eq (k / 64) (n / 64)) [
        | inl row ↦
            ap (λ x. eqb (bit_at (get_or (set words (n / 64) new) x 0) (k % 64)) 1) row
            ∙ ap (λ x. eqb (bit_at x (k % 64)) 1) (get_or-set_same words (n / 64) new 0 (omega (arith, within)))
            ∙ ap (λ x. eqb x 1) (bit_at_set_other w64 word (n % 64) (omega arith) (k % 64) (λ same. other (omega (arith, same, row))))
            ∙ ap (λ x. eqb (bit_at x (k % 64)) 1) (read ∙ ap (λ x. get_or words x 0) (sym row))
        | inr apart ↦ ap (λ x. eqb (bit_at x (k % 64)) 1) (get_or-set_other words (n / 64) (k / 64) new 0 apart)
      ]

  -- a bit that is set is a mark that is set
  pub flags_of-set : (count : ℕ) → n < count → flags_of count (set words (n / 64) new) ≡ set (flags_of count words) n true
  flags_of-set count there =
      ext_get_or false _ _ (length-flags_of count _ ∙ sym (length-flags_of count words) ∙ sym (length-set (flags_of count words) n true))
      (λ k h.
      let low : k < count = rw length-flags_of at h in
      get_or-flags_of count _ k low
      ∙ (elim (cases_eq k n) as (λ _. bit_of (set words (n / 64) new) k ≡ get_or (set (flags_of count words) n true) k false) [
        | inl same ↦ rw same (bit_set ∙ sym (get_or-set_same (flags_of count words) n true false (omega (arith, there, length-flags_of count words))))
        | inr other ↦ bit_stays k other ∙ sym (get_or-flags_of count words k low) ∙ sym (get_or-set_other (flags_of count words) n k true false other)
      ]))

  pub marks_set : (count : ℕ) → n < count → AreMarks count words → AreMarks count (set words (n / 64) new)
  marks_set count there is = record {
    room = length-set words (n / 64) new ∙ is.room;
    rest = λ k h. bit_stays k (λ same. absurd (omega (arith, same, h, there))) ∙ is.rest k h;
  }

-- a number with lowest bit f, and one less: it hasn't that bit
one_less_at : (f n : ℕ) → bit_at n f ≡ 1 → ((j : ℕ) → j < f → bit_at n j ≡ 0) → bit_at (n - 1) f ≡ 0
one_less_at zero n is below = omega (arith, bit_at_lowest n, bit_at_lowest (n - 1), is)
one_less_at (suc f) n is below =
    let even : n % 2 ≡ 0 = sym (bit_at_lowest n) ∙ below 0 (omega arith) in
    let half : (n - 1) / 2 ≡ n / 2 - 1 = omega (arith, even) in
    bit_at-suc (n - 1) f ∙ ap (λ x. bit_at x f) half ∙ one_less_at f (n / 2) (sym (bit_at-suc n f) ∙ is) (λ j l. sym (bit_at-suc n j) ∙ below (suc j) (omega (arith, l)))

-- and has the bits past it
one_less_past : (f n i : ℕ) → bit_at n f ≡ 1 → ((j : ℕ) → j < f → bit_at n j ≡ 0) → f < i → bit_at (n - 1) i ≡ bit_at n i
one_less_past zero n zero is below past = absurd (omega (arith, past))
one_less_past zero n (suc i) is below past =
    let odd : n % 2 ≡ 1 = sym (bit_at_lowest n) ∙ is in
    let half : (n - 1) / 2 ≡ n / 2 = omega (arith, odd) in
    bit_at-suc (n - 1) i ∙ ap (λ x. bit_at x i) half ∙ sym (bit_at-suc n i)
one_less_past (suc f) n zero is below past = absurd (omega (arith, past))
one_less_past (suc f) n (suc i) is below past =
    let even : n % 2 ≡ 0 = sym (bit_at_lowest n) ∙ below 0 (omega arith) in
    let half : (n - 1) / 2 ≡ n / 2 - 1 = omega (arith, even) in
    bit_at-suc (n - 1) i ∙ ap (λ x. bit_at x i) half ∙ one_less_past f (n / 2) i (sym (bit_at-suc n f) ∙ is) (λ j l. sym (bit_at-suc n j) ∙ below (suc j) (omega (arith, l))) (omega (arith, past)) ∙ sym (bit_at-suc n i)

-- without its lowest bit a number has no bit up to there, and the same ones past it
taken_off : (f n i : ℕ) → bit_at n f ≡ 1 → ((j : ℕ) → j < f → bit_at n j ≡ 0) → i < f + 1 → bit_at (bit_and n (n - 1)) i ≡ 0
taken_off f n i is below low = elim (cases_lt i f) [
  | inl less ↦ omega (arith, bit_at_and n (n - 1) i, below i less)
  | inr past ↦ let same : i ≡ f = omega (arith, low, past) in rw same (omega (arith, bit_at_and n (n - 1) f, one_less_at f n is below))
]

left_past : (f n i : ℕ) → bit_at n f ≡ 1 → ((j : ℕ) → j < f → bit_at n j ≡ 0) → f < i → bit_at (bit_and n (n - 1)) i ≡ bit_at n i
left_past f n i is below past = omega (arith, bit_at_and n (n - 1) i, one_less_past f n i is below past)

-- it is a lesser number
pub less_left : (n : ℕ) → 0 < n → bit_and n (n - 1) < n
less_left n some = omega (arith, and_le_r n (n - 1), some)

-- what is left of a word when the bits of the places before one are taken off
pub record IsLeft (words : List ℕ) (index left place : ℕ) : Type 0 where
  pub low : index * 64 ≤ place
  pub high : place ≤ index * 64 + 64
  pub gone : (b : ℕ) → index * 64 + b < place → bit_at left b ≡ 0
  pub same : (b : ℕ) → place ≤ index * 64 + b → bit_at left b ≡ bit_at (get_or words index 0) b

-- all of it
pub left_all : (words : List ℕ) (index word : ℕ) → word ≡ get_or words index 0 → IsLeft words index word (index * 64)
left_all words index word read = record {
  low = omega arith;
  high = omega arith;
  gone = λ b l. absurd (omega (arith, l));
  same = λ b h. ap (λ x. bit_at x b) read;
}

-- the bit of a place of a word
bit_in : (words : List ℕ) (index n : ℕ) → index * 64 ≤ n → n < index * 64 + 64 → bit_of words n ≡ eqb (bit_at (get_or words index 0) (n - index * 64)) 1
bit_in words index n low high =
    let row : n / 64 ≡ index = omega (arith, low, high) in
    let column : n % 64 ≡ n - index * 64 = omega (arith, low, high) in
    ap (λ x. eqb (bit_at (get_or words x 0) (n % 64)) 1) row ∙ ap (λ x. eqb (bit_at (get_or words index 0) x) 1) column

module _ (words : List ℕ) (index left place : ℕ) (is : IsLeft words index left place) where
  -- the bit of a place from there on
  bit_left : (n : ℕ) → place ≤ n → n < index * 64 + 64 → bit_of words n ≡ eqb (bit_at left (n - index * 64)) 1
  bit_left n above under =
      let low = is.low in
      bit_in words index n (omega (arith, low, above)) under ∙ ap (λ x. eqb x 1) (sym (is.same (n - index * 64) (omega (arith, low, above))))

  -- where nothing is left, no bit from there on is set
  pub none_left : left ≡ 0 → (n : ℕ) → place ≤ n → n < index * 64 + 64 → bit_of words n ≡ false
  none_left none n above under = bit_left n above under ∙ ap (λ x. eqb (bit_at x (n - index * 64)) 1) none ∙ ap (λ x. eqb x 1) (bit_at-zero (n - index * 64))

  -- otherwise the first bit that is set is the lowest of what is left
  module _ (some : 0 < left) (small : left < 2 ^ 64) where
    is_lowest : (trailing_zeros w64 left < 64) × (bit_at left (trailing_zeros w64 left) ≡ 1) × ((i : ℕ) → i < trailing_zeros w64 left → bit_at left i ≡ 0)
    is_lowest = bit_at-trailing_zeros w64 left some small

    pub first_high : trailing_zeros w64 left < 64
    first_high = is_lowest.0

    pub first_low : place ≤ index * 64 + trailing_zeros w64 left
    first_low = elim (cases_lt (index * 64 + trailing_zeros w64 left) place) [
      | inl less ↦ absurd (omega (arith, is.gone (trailing_zeros w64 left) less, is_lowest.1))
      | inr past ↦ past
    ]

    pub first_set : bit_of words (index * 64 + trailing_zeros w64 left) ≡ true
    first_set =
        bit_left (index * 64 + trailing_zeros w64 left) first_low (omega (arith, is_lowest.0))
        ∙ ap (λ x. eqb (bit_at left x) 1) (back (index * 64) (trailing_zeros w64 left))
        ∙ eq-eqb _ 1 is_lowest.1
      where
        back : (a b : ℕ) → a + b - a ≡ b
        back a b = omega arith

    pub first_clear : (n : ℕ) → place ≤ n → n < index * 64 + trailing_zeros w64 left → bit_of words n ≡ false
    first_clear n above before =
        let low = is.low in
        bit_left n above (omega (arith, is_lowest.0, before)) ∙ ap (λ x. eqb x 1) (is_lowest.2 (n - index * 64) (omega (arith, low, above, before)))

    -- what is left behind it
    pub left_next : IsLeft words index (bit_and left (left - 1)) (index * 64 + trailing_zeros w64 left + 1)
    left_next = record {
      low = omega arith;
      high = omega (arith, is_lowest.0);
      gone = λ b l. taken_off (trailing_zeros w64 left) left b is_lowest.1 is_lowest.2 (omega (arith, l));
      same = λ b h. left_past (trailing_zeros w64 left) left b is_lowest.1 is_lowest.2 (omega (arith, h)) ∙ is.same b (omega (arith, h, first_low));
    }

-- a bit that is set is that of a place
pub set_within : (count : ℕ) (words : List ℕ) (n : ℕ) → AreMarks count words → bit_of words n ≡ true → n < count
set_within count words n are is_set = elim (cases_lt n count) [
  | inl less ↦ less
  | inr past ↦ absurd (cc (sym is_set ∙ are.rest n past))
]

-- the mark of a place is its bit
pub mark_bit : (marks : List Bool) (words : List ℕ) (n : ℕ) (b : Bool) → marks ≡ flags_of (length marks) words → n < length marks → bit_of words n ≡ b → slice_get marks n ≡ Some b
mark_bit marks words n b flags within bit = ap (λ m. slice_get m n) flags ∙ slice_get-flags_of (length marks) words n within ∙ ap Some bit

-- there are no marks without a place
pub flags_of_zero : (words : List ℕ) → flags_of 0 words ≡ []
unfolding flags_of
flags_of_zero words = refl
