-- The first node of a tree has the least of its leaves.
use Rattle.std.proofs.Common.{◌≡◌, ℕ, zero, suc, ◌+◌, ◌-◌, ◌*◌, ◌/◌, ◌%◌, ◌<◌, ◌≤◌, ◌⊎◌, inl, inr, List, slice_index, drop, min, arith, refl, length-drop}
use Rattle.std.proofs.lemmas.Bool.{cases_lt}
use Rattle.std.proofs.lemmas.List.{get_or-drop}
use Rattle.alarm_bank.specs.Shelves.{IsTree, IsLeastOf}

pub parity : (j : ℕ) → (j ≡ 2 * (j / 2)) ⊎ (j ≡ 2 * (j / 2) + 1)
parity j = elim (cases_lt (j % 2) 1) [ inl h ↦ inl (omega arith) | inr h ↦ inr (omega arith) ]

pub left : (tree : List ℕ) (count i j : ℕ) → IsTree tree count → j ≡ 2 * i → 1 ≤ i → i < count → slice_index tree i ≤ slice_index tree j
left tree count i j t e low high = let n = t.nodes i low high in rw e (omega (arith, n))

pub right : (tree : List ℕ) (count i j : ℕ) → IsTree tree count → j ≡ 2 * i + 1 → 1 ≤ i → i < count → slice_index tree i ≤ slice_index tree j
right tree count i j t e low high = let n = t.nodes i low high in rw e (omega (arith, n))

pub below : (tree : List ℕ) (count fuel j : ℕ) → IsTree tree count → j ≤ fuel → 1 ≤ j → j < 2 * count → slice_index tree 1 ≤ slice_index tree j
below tree count zero j t h low high = absurd (omega arith)
below tree count (suc fuel) j t h low high =
    elim (cases_lt 1 j) [
      | inl more ↦ elim (parity j) [
        | inl e ↦ let k : slice_index tree (j / 2) ≤ slice_index tree j = left tree count (j / 2) j t e (omega arith) (omega arith) in
            let r : slice_index tree 1 ≤ slice_index tree (j / 2) = below tree count fuel (j / 2) t (omega arith) (omega arith) (omega arith) in omega (arith, k, r)
        | inr e ↦ let k : slice_index tree (j / 2) ≤ slice_index tree j = right tree count (j / 2) j t e (omega arith) (omega arith) in
            let r : slice_index tree 1 ≤ slice_index tree (j / 2) = below tree count fuel (j / 2) t (omega arith) (omega arith) (omega arith) in omega (arith, k, r)
      ]
      | inr one ↦ let e : j ≡ 1 = omega arith in rw e (omega arith)
    ]

pub there : (tree : List ℕ) (count fuel i : ℕ) → IsTree tree count → 2 * count ≤ i + fuel → 1 ≤ i → i < 2 * count → (k : ℕ) × (count ≤ k) × (k < 2 * count) × (slice_index tree k ≡ slice_index tree i)
there tree count zero i t h low high = absurd (omega arith)
there tree count (suc fuel) i t h low high =
    elim (cases_lt i count) [
      | inr leaf ↦ (i, leaf, high, refl)
      | inl inner ↦ let n : slice_index tree i ≡ min (slice_index tree (2 * i)) (slice_index tree (2 * i + 1)) = t.nodes i low inner in
          elim (cases_lt (slice_index tree (2 * i)) (slice_index tree (2 * i + 1))) [
            | inl h₁ ↦ let r = there tree count fuel (2 * i) t (omega arith) (omega arith) (omega arith) in (r.0, r.1, r.2, omega (arith, r.3, n))
            | inr h₂ ↦ let r = there tree count fuel (2 * i + 1) t (omega arith) (omega arith) (omega arith) in (r.0, r.1, r.2, omega (arith, r.3, n))
          ]
    ]

pub least : (none : ℕ) (tree : List ℕ) (count : ℕ) → 0 < count → IsTree tree count → IsLeastOf none (slice_index tree 1) (drop count tree)
least none tree count some t = record {
  below = λ k h. let b : slice_index tree 1 ≤ slice_index tree (count + k) = below tree count (count + k) (count + k) t (omega arith) (omega arith) (omega (arith, length-drop count tree, t.size)) in rw (get_or-drop count tree k 0) b;
  there = λ _. let r = there tree count (2 * count) 1 t (omega arith) (omega arith) (omega arith) in
      let e : count + (r.0 - count) ≡ r.0 = omega (arith, r.1) in
      (r.0 - count, omega (arith, length-drop count tree, t.size, r.1, r.2), rw (get_or-drop count tree (r.0 - count) 0) (rw e r.3));
}
