-- The values and the standard blocks of a source, each with the number of its path.
use Rattle.std.specs.Prelude.{◌≡◌, ℕ, Option, List, [], ◌∷◌, ◌++◌, nat_eq}
use Rattle.std.specs.HashMap.{get, hash_map_len}
use Rattle.plant_types.specs.Values.{Path}
use Rattle.logic_source.specs.Layout.{ClockAt}
use Rattle.logic_source.specs.Ranges.{KindAt}
use Rattle.logic_carry.specs.declared.lists.ValueAt.{ValueAt}
use Rattle.logic_carry.specs.declared.lists.StandardAt.{StandardAt}
use Rattle.logic_carry.specs.declared.lists.Listed.{Listed}
use Rattle.logic_carry.specs.Paths.{Grows, AreNumbered, IsAt, IsPlace}

-- these are values of kinds, each with the number of its path, in order
abbrev pub AreValues : (List ℕ → Option ℕ) → (ℕ → Option ℕ) → List ValueAt → List KindAt → Type 0
AreValues words numbers [] [] = Unit {0}
AreValues words numbers [] (k ∷ ks) = ⊥
AreValues words numbers (v ∷ vs) [] = ⊥
AreValues words numbers (v ∷ vs) (k ∷ ks) = IsPlace words numbers v.path k.path k.bounds × (v.kind ≡ k.kind) × (v.bounds ≡ k.bounds) × AreValues words numbers vs ks

-- these are standard blocks, each with the number of its path, in order
abbrev pub AreStandards : (List ℕ → Option ℕ) → (ℕ → Option ℕ) → List StandardAt → List ClockAt → Type 0
AreStandards words numbers [] [] = Unit {0}
AreStandards words numbers [] (c ∷ cs) = ⊥
AreStandards words numbers (s ∷ ss) [] = ⊥
AreStandards words numbers (s ∷ ss) (c ∷ cs) = IsAt words numbers s.path c.path × (s.of ≡ c.of) × AreStandards words numbers ss cs

-- to what was listed by an older table these kinds and standard blocks were added, by a newer one
pub record Lists (words : List ℕ → Option ℕ) (old new : ℕ → Option ℕ) (values values' : List ValueAt) (standards standards' : List StandardAt) (kinds : List KindAt) (clocks : List ClockAt) : Type 0 where
  pub grows : Grows old new
  pub values_are : (before : List KindAt) → AreValues words old values before → AreValues words new values' (before ++ kinds)
  pub standards_are : (before : List ClockAt) → AreStandards words old standards before → AreStandards words new standards' (before ++ clocks)

-- the numbers of paths in a list
abbrev pub numbers_in : Listed → ℕ → Option ℕ
numbers_in listed = get nat_eq listed.numbers

-- each path has one number in a list
abbrev pub IsListing : Listed → Type 0
IsListing listed = AreNumbered (numbers_in listed) (hash_map_len listed.numbers)

-- a path has a number in a list
abbrev pub HasPath : (List ℕ → Option ℕ) → Listed → ℕ → Path → Type 0
HasPath words listed n path = IsAt words (numbers_in listed) n path

-- these kinds and standard blocks were added to a list
abbrev pub Adds : (List ℕ → Option ℕ) → (old new : Listed) → List KindAt → List ClockAt → Type 0
Adds words old new kinds clocks = Lists words (numbers_in old) (numbers_in new) old.values.items new.values.items old.standards.items new.standards.items kinds clocks
