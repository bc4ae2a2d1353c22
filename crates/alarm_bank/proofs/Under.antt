-- Places below a node.
use Rattle.std.proofs.Common.{◌≡◌, ℕ, zero, suc, ◌+◌, ◌*◌, ◌/◌, ◌<◌, ◌≤◌, ◌⊎◌, inl, inr, List, slice_index, arith, refl}
use Rattle.std.proofs.lemmas.Bool.{cases_lt}
use Rattle.alarm_bank.specs.Shelves.{IsTree, IsUnder}
use Rattle.alarm_bank.proofs.Trees.{parity, left, right}

-- a node is no greater than a place below it
pub under_low : (k node place : ℕ) → IsUnder k node place → node ≤ place
under_low zero node place u = omega (arith, u)
under_low (suc k) node place u = elim u [
  | inl l ↦ let h = under_low k (2 * node) place l in omega (arith, h)
  | inr r ↦ let h = under_low k (2 * node + 1) place r in omega (arith, h)
]

-- a node has a number no greater than that of a place below it
pub under_least : (tree : List ℕ) (count k node place : ℕ) → IsTree tree count → 1 ≤ node → place < 2 * count → IsUnder k node place → slice_index tree node ≤ slice_index tree place
under_least tree count zero node place t low high u = rw u (omega arith)
under_least tree count (suc k) node place t low high u = elim u [
  | inl l ↦ let h = under_low k (2 * node) place l in let r = under_least tree count k (2 * node) place t (omega arith) high l in
      let s = left tree count node (2 * node) t refl low (omega (arith, h)) in omega (arith, r, s)
  | inr l ↦ let h = under_low k (2 * node + 1) place l in let r = under_least tree count k (2 * node + 1) place t (omega arith) high l in
      let s = right tree count node (2 * node + 1) t refl low (omega (arith, h)) in omega (arith, r, s)
]

-- a place below a place below a node
under_more : (k node place next : ℕ) → IsUnder k node place → IsUnder 1 place next → IsUnder (suc k) node next
under_more zero node place next u v = rw u at v
under_more (suc k) node place next u v = elim u [ inl l ↦ inl (under_more k (2 * node) place next l v) | inr r ↦ inr (under_more k (2 * node + 1) place next r v) ]

-- each place is below the first node
pub under_first : (fuel place : ℕ) → place ≤ fuel → 1 ≤ place → (k : ℕ) × IsUnder k 1 place
under_first zero place h low = absurd (omega arith)
under_first (suc fuel) place h low =
    elim (cases_lt 1 place) [
      | inl more ↦ let u = under_first fuel (place / 2) (omega arith) (omega arith) in (suc u.0, under_more u.0 1 (place / 2) place u.1 (parity place))
      | inr one ↦ (zero, omega arith)
    ]

-- a place that isn't an inner node is below such a node at no step, if at any
pub under_leaf : (count k node place : ℕ) → count ≤ node → place < 2 * count → IsUnder k node place → place ≡ node
under_leaf count zero node place leaf high u = u
under_leaf count (suc k) node place leaf high u = elim u [
  | inl l ↦ let h = under_low k (2 * node) place l in absurd (omega (arith, h))
  | inr r ↦ let h = under_low k (2 * node + 1) place r in absurd (omega (arith, h))
]

-- a place below a node is the node, or below one of the two under it
pub under_cases : (k node place : ℕ) → IsUnder k node place → (place ≡ node) ⊎ ((j : ℕ) × (IsUnder j (2 * node) place ⊎ IsUnder j (2 * node + 1) place))
under_cases zero node place u = inl u
under_cases (suc k) node place u = inr (k, u)
