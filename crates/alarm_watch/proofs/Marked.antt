-- What marking the alarms of changed globals leaves.
use Rattle.std.proofs.Common.{◌≡◌, ◌≢◌, ℕ, zero, suc, ◌+◌, ◌≤◌, ℤ, inl, inr, ◌⊎◌, Bool, true, false, Option, Some, List, [], ◌∷◌, length, slice_get, slice_index, slice_set, arith, refl, ap, sym, ◌∙◌, length-set}
use Rattle.std.proofs.lemmas.Bool.{cases_lt}
use Rattle.alarm_watch.specs.Chains.{HasKey, HaveRanges, StandsIn, ChangesAreMarked, ChangesOfAreMarked}

-- a mark that isn't set after one was set is another, and wasn't set before
pub unmarked_set : (marks : List Bool) (at n : ℕ) → slice_get (slice_set marks at true) n ≡ Some false → (n ≢ at) × (slice_get marks n ≡ Some false)
unmarked_set [] at n h = absurd (cc h)
unmarked_set (m ∷ marks) zero zero h = absurd (cc h)
unmarked_set (m ∷ marks) zero (suc n) h = (λ e. absurd (omega (arith, e)), h)
unmarked_set (m ∷ marks) (suc at) zero h = (λ e. absurd (omega (arith, e)), h)
unmarked_set (m ∷ marks) (suc at) (suc n) h = let r = unmarked_set marks at n h in (λ e. r.0 (omega (arith, e)), r.1)

-- the alarms of some globals, from one up to before another, are marked where the global changed
pub record MarkedFrom (count : ℕ) (starts alarms : List ℕ) (old new : ℕ → ℤ) (from to : ℕ) (before marks : List Bool) : Type 0 where
  pub size : length marks ≡ count
  pub kept : (n : ℕ) → slice_get marks n ≡ Some false → slice_get before n ≡ Some false
  pub marked : (keys : List (Option ℕ)) → HaveRanges keys starts alarms → ChangesOfAreMarked from to keys old new marks

pub from_none : (count : ℕ) (starts alarms : List ℕ) (old new : ℕ → ℤ) (from : ℕ) (marks : List Bool) → length marks ≡ count → MarkedFrom count starts alarms old new from from marks marks
from_none count starts alarms old new from marks size = record { size = size; kept = λ n h. h; marked = λ keys a n g low less has unmarked. absurd (omega (arith, low, less)) }

-- some globals more, whose alarms are marked if they changed
pub from_more : (count : ℕ) (starts alarms : List ℕ) (old new : ℕ → ℤ) (from i j : ℕ) (before marks after : List Bool) → length after ≡ count → ((n : ℕ) → slice_get after n ≡ Some false → slice_get marks n ≡ Some false)
    → ((keys : List (Option ℕ)) → HaveRanges keys starts alarms → ChangesOfAreMarked i j keys old new after)
    → MarkedFrom count starts alarms old new from i before marks → MarkedFrom count starts alarms old new from j before after
from_more count starts alarms old new from i j before marks after size kept here m = record {
  size = size;
  kept = λ n h. m.kept n (kept n h);
  marked = λ keys a n g low less has unmarked. elim (cases_lt g i) [
    | inl below ↦ m.marked keys a n g low below has (kept n unmarked)
    | inr high ↦ here keys a n g (omega (arith, high)) less has unmarked
  ];
}

-- one global more
pub from_next : (count : ℕ) (starts alarms : List ℕ) (old new : ℕ → ℤ) (from i : ℕ) (before marks after : List Bool) → length after ≡ count → ((n : ℕ) → slice_get after n ≡ Some false → slice_get marks n ≡ Some false)
    → ((keys : List (Option ℕ)) (n : ℕ) → HaveRanges keys starts alarms → HasKey keys n i → slice_get after n ≡ Some false → old i ≡ new i)
    → MarkedFrom count starts alarms old new from i before marks → MarkedFrom count starts alarms old new from (i + 1) before after
from_next count starts alarms old new from i before marks after size kept here m =
    from_more count starts alarms old new from i (i + 1) before marks after size kept (λ keys a n g low less has unmarked. let g_is : g ≡ i = omega (arith, less, low) in rw g_is (here keys n a (rw g_is at has) unmarked)) m

-- those beyond the last chain need no mark
pub from_all : (count : ℕ) (starts alarms : List ℕ) (old new : ℕ → ℤ) (from i end : ℕ) (before marks : List Bool) → ((end ≤ i) ⊎ (length starts ≤ i + 1)) → MarkedFrom count starts alarms old new from i before marks
    → (keys : List (Option ℕ)) → HaveRanges keys starts alarms → ChangesOfAreMarked from end keys old new marks
from_all count starts alarms old new from i end before marks all m keys a n g low less has unmarked =
    elim (cases_lt g i) [
      | inl below ↦ m.marked keys a n g low below has unmarked
      | inr high ↦ elim all [
        | inl ended ↦ absurd (omega (arith, high, ended, less))
        | inr past_all ↦ let there = a.there g n has in absurd (omega (arith, past_all, high, there))
      ]
    ]

-- the globals below one and those from it on are all
pub all_marked : (count : ℕ) (starts alarms : List ℕ) (old new : ℕ → ℤ) (i end : ℕ) (before marks after : List Bool) → length starts ≤ end → MarkedFrom count starts alarms old new 0 i before marks
    → ((n : ℕ) → slice_get after n ≡ Some false → slice_get marks n ≡ Some false) → ((keys : List (Option ℕ)) → HaveRanges keys starts alarms → ChangesOfAreMarked i end keys old new after)
    → (keys : List (Option ℕ)) → HaveRanges keys starts alarms → ChangesAreMarked keys old new after
all_marked count starts alarms old new i end before marks after long m kept here keys a n g has unmarked =
    elim (cases_lt g i) [
      | inl below ↦ m.marked keys a n g (omega arith) below has (kept n unmarked)
      | inr high ↦ elim (cases_lt g end) [
        | inl less ↦ here keys a n g (omega (arith, high)) less has unmarked
        | inr beyond ↦ let there = a.there g n has in absurd (omega (arith, long, beyond, there))
      ]
    ]

-- alarms of a list are marked from one place up to before another
pub record MarkedBetween (alarms : List ℕ) (start to : ℕ) (before marks : List Bool) : Type 0 where
  pub size : length marks ≡ length before
  pub kept : (n : ℕ) → slice_get marks n ≡ Some false → slice_get before n ≡ Some false
  pub marked : (n : ℕ) → StandsIn alarms start to n → slice_get marks n ≡ Some false → ⊥

pub between_none : (alarms : List ℕ) (start : ℕ) (marks : List Bool) → MarkedBetween alarms start start marks marks
between_none alarms start marks = record { size = refl; kept = λ n h. h; marked = λ n s unmarked. (let low = s.low in let high = s.high in absurd (omega (arith, low, high))) }

pub between_next : (alarms : List ℕ) (start at : ℕ) (before marks : List Bool) → MarkedBetween alarms start at before marks → MarkedBetween alarms start (at + 1) before (slice_set marks (slice_index alarms at) true)
between_next alarms start at before marks m = record {
  size = length-set marks (slice_index alarms at) true ∙ m.size;
  kept = λ n h. m.kept n (unmarked_set marks (slice_index alarms at) n h).1;
  marked = λ n s unmarked.
      let u = unmarked_set marks (slice_index alarms at) n unmarked in
      let high = s.high in
      elim (cases_lt s.place at) [
        | inl less ↦ m.marked n (record { place = s.place; low = s.low; high = less; is = s.is }) u.1
        | inr last ↦ (let is : s.place ≡ at = omega (arith, last, high) in u.0 (sym s.is ∙ ap (slice_index alarms) is))
      ];
}
