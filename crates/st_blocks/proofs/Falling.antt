-- Steps that never lead to a greater component.
use Rattle.std.proofs.Common.{◌≡◌, ◌∙◌, ap, refl, ℕ, ◌+◌, ◌<◌, ◌≤◌, nat_lt, nat_eq, eq-eqb, Bool, true, false, List, [], ◌∷◌, length, get_or, arith, inl, inr}
use Rattle.std.specs.List.{list_any}
use Rattle.std.proofs.Math.Nat.{eq-or-lt_of_le}
use Rattle.std.proofs.lemmas.Bool.{ltb-false, le-ltb}
use Rattle.st_blocks.specs.Chains.{Among, Leads, HoldsItself}
use Rattle.st_blocks.specs.Graphs.{Graph, next_of}
use Rattle.st_blocks.specs.Components.{rises, NeverRises}
use Rattle.st_blocks.proofs.Lists.{any_among, none_among, le_of_lt_more}
use Rattle.st_blocks.proofs.Rows.{next_behind, lt_or_le}

none_any : (p : ℕ → Bool) (xs : List ℕ) → ((x : ℕ) → p x ≡ false) → list_any p xs ≡ false
none_any p [] none = refl
none_any p (x ∷ xs) none = rw (none x) (none_any p xs none)

-- none rises up to one more
pub rises_more : (graph : Graph) (components : List ℕ) (a : ℕ) → ((b : ℕ) → b < a → rises graph components b ≡ false) → rises graph components a ≡ false → (b : ℕ) → b < a + 1 → rises graph components b ≡ false
rises_more graph components a before here b below =
    elim (eq-or-lt_of_le (le_of_lt_more b a below)) [
      | inl is ↦ ap (rises graph components) is ∙ here
      | inr less ↦ before b less
    ]

pub rises_whole : (graph : Graph) (components : List ℕ) (n : ℕ) → ((b : ℕ) → b < n → rises graph components b ≡ false) → length graph ≤ n → NeverRises graph components
rises_whole graph components n before over a =
    elim (lt_or_le a n) [
      | inl below ↦ before a below
      | inr behind ↦ ap (list_any (λ w. nat_lt (get_or components a 0) (get_or components w 0))) (next_behind graph a (omega (arith, over, behind)))
    ]

module _ (graph : Graph) (components : List ℕ) (never : NeverRises graph components) where
  step_falls : (a w : ℕ) → Among (next_of graph a) w → get_or components w 0 ≤ get_or components a 0
  step_falls a w here = ltb-false (get_or components a 0) (get_or components w 0) (none_among (λ v. nat_lt (get_or components a 0) (get_or components v 0)) (next_of graph a) w (never a) here)

  leads_falls : (a : ℕ) (path : List ℕ) (b : ℕ) → Leads (next_of graph) a path b → get_or components b 0 ≤ get_or components a 0
  leads_falls a [] b l = step_falls a b l
  leads_falls a (c ∷ path) b l =
      let first = step_falls a c l.0 in
      let rest = leads_falls c path b l.1 in
      omega (arith, first, rest)

  within_at : (a w : ℕ) → Among (next_of graph a) w → get_or components a 0 ≤ get_or components w 0 → list_any (λ v. nat_eq (get_or components v 0) (get_or components a 0)) (next_of graph a) ≡ true
  within_at a w here back =
      let falls = step_falls a w here in
      any_among (λ v. nat_eq (get_or components v 0) (get_or components a 0)) (next_of graph a) w here (eq-eqb (get_or components w 0) (get_or components a 0) (omega (arith, back, falls)))

  within_by : (a : ℕ) (path : List ℕ) → Leads (next_of graph) a path a → list_any (λ v. nat_eq (get_or components v 0) (get_or components a 0)) (next_of graph a) ≡ true
  within_by a [] l = within_at a a l (omega arith)
  within_by a (c ∷ path) l = within_at a c l.0 (leads_falls c path a l.1)

  -- what holds itself has a step within its component
  pub holds_within : (a : ℕ) → HoldsItself (next_of graph) a → list_any (λ v. nat_eq (get_or components v 0) (get_or components a 0)) (next_of graph a) ≡ true
  holds_within a h = within_by a h.0 h.1

-- without components nothing rises
pub none_rises : (graph : Graph) (components : List ℕ) → components ≡ [] → NeverRises graph components
none_rises graph components none a = ap (λ (l : List ℕ). rises graph l a) none ∙ none_any (λ w. nat_lt (get_or [] a 0) (get_or [] w 0)) (next_of graph a) (λ w. le-ltb 0 0 (omega arith))
