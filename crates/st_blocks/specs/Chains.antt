-- Which block types hold which: chains of instances, over any values that have a list of what they declare.
use Rattle.std.specs.Prelude.{◌≡◌, ◌⊎◌, ℕ, zero, suc, max, Bool, true, List, [], ◌∷◌}
use Rattle.std.specs.List.{list_any}

-- a value stands in a list
abbrev pub Among : {V : Type 0} → List V → V → Type 0
Among [] v = ⊥
Among (x ∷ xs) v = (x ≡ v) ⊎ Among xs v

-- the greatest value of a list's elements, or 0
abbrev pub greatest : {V : Type 0} → (V → ℕ) → List V → ℕ
greatest f [] = 0
greatest f (x ∷ xs) = max (f x) (greatest f xs)

module _ {V : Type 0} (next : V → List V) where
  -- a list leads from one to another, each standing in what the one before declares
  abbrev pub Leads : V → List V → V → Type 0
  Leads a [] b = Among (next a) b
  Leads a (c ∷ path) b = Among (next a) c × Leads c path b

  -- some list leads from one to another
  abbrev pub Reaches : V → V → Type 0
  Reaches a b = (path : List V) × Leads a path b

  -- it holds itself, directly or through others
  abbrev pub HoldsItself : V → Type 0
  HoldsItself a = Reaches a a

  -- there is a chain of so many steps from it, each to what the one before declares
  abbrev pub has_chain : ℕ → V → Bool
  has_chain zero a = true
  has_chain (suc k) a = list_any (has_chain k) (next a)

  -- how deep it is, as far as so many levels show it: 1 more than the deepest of what it declares, or 1 if it declares nothing
  abbrev pub depth : ℕ → V → ℕ
  depth zero a = 0
  depth (suc k) a = suc (greatest (depth k) (next a))
