-- Block types as numbers, as the code has them: for each the numbers to which it leads.
use Rattle.std.specs.Prelude.{◌≡◌, ℕ, ◌<◌, true, false, List, [], Option, Some, None, slice_get, length, Vec, take}
use Rattle.std.specs.Global.{Global}
use Rattle.std.specs.List.{All}
use Rattle.st_blocks.specs.Chains.{Among, HoldsItself, has_chain}
use Rattle.st_blocks.specs.Blocks.{Once}
use Rattle.st_blocks.specs.declared.faults.NestingFault.{NestingFault}
use Rattle.st_blocks.specs.declared.faults.NestingFault.TheVariants as fault

-- a row of numbers for each number
abbrev pub Graph : Type 0
Graph = List (Vec ℕ Global)

-- the numbers of a row, if it is there
abbrev pub items_or : Option (Vec ℕ Global) → List ℕ
items_or None = []
items_or (Some row) = row.items

-- the numbers to which a number leads
abbrev pub next_of : Graph → ℕ → List ℕ
next_of graph a = items_or (slice_get graph a)

-- each number in a row has a row
abbrev pub InRange : Graph → ℕ → Type 0
InRange graph n = All (λ row. All (λ w. w < n) row.items) graph

-- each number is listed once, after those to which it leads
pub record IsNumberOrder (graph : Graph) (order : List ℕ) : Type 0 where
  pub whole : (a : ℕ) → a < length graph → Among order a
  pub once : Once order
  pub after : (k a b : ℕ) → slice_get order k ≡ Some a → Among (next_of graph a) b → Among (take k order) b

-- some number has a chain of so many steps
abbrev pub IsDeep : Graph → ℕ → Type 0
IsDeep graph k = (a : ℕ) × (a < length graph) × (has_chain (next_of graph) k a ≡ true)

-- no number has a chain of so many steps
abbrev pub IsShallow : Graph → ℕ → Type 0
IsShallow graph k = (a : ℕ) → a < length graph → has_chain (next_of graph) k a ≡ false

-- the first number that holds itself, or that none does
abbrev pub FirstHolder : Graph → Option ℕ → Type 0
FirstHolder graph (Some a) = (a < length graph) × HoldsItself (next_of graph) a × ((b : ℕ) → b < a → HoldsItself (next_of graph) b → ⊥)
FirstHolder graph None = (b : ℕ) → b < length graph → HoldsItself (next_of graph) b → ⊥

-- an order where no number has a chain of so many steps, or that one has
abbrev pub LevelsOrder : Graph → ℕ → Option (Vec ℕ Global) → Type 0
LevelsOrder graph k (Some order) = IsNumberOrder graph order.items × IsShallow graph k
LevelsOrder graph k None = IsDeep graph k

-- none holds itself, none has a chain of 16 steps, and the order is one
pub record IsSound (graph : Graph) (order : List ℕ) : Type 0 where
  pub apart : (b : ℕ) → b < length graph → HoldsItself (next_of graph) b → ⊥
  pub shallow : IsShallow graph 16
  pub ordered : IsNumberOrder graph order

-- the first number that holds itself, or else that one has a chain of 16 steps
abbrev pub IsGraphFault : Graph → NestingFault → Type 0
IsGraphFault graph fault.Memory = Unit {0}
IsGraphFault graph (fault.HoldsItself a) = FirstHolder graph (Some a)
IsGraphFault graph fault.TooDeep = FirstHolder graph None × IsDeep graph 16
