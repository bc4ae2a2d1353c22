-- Block types by name: which hold themselves, which are too deep, and an order of the others.
use Rattle.std.specs.Prelude.{◌≡◌, ℕ, suc, true, if◌then◌else◌, List, [], ◌∷◌, map, Option, Some, None, option_map, slice_get, take}
use Rattle.std.specs.Str.{bytes_eq}
use Rattle.plant_types.specs.Words.{folded}
use Rattle.st_blocks.specs.Chains.{Among, HoldsItself, has_chain}

-- a block type: its name, and for each instance that it declares the word of the instance's type
pub record PlainBlock : Type 0 where
  pub name : List ℕ
  pub instances : List (List ℕ)

-- the number, from 0, of the first block type whose name is a word in small letters
abbrev pub first_of : List PlainBlock → List ℕ → Option ℕ
first_of [] word = None
first_of (block ∷ blocks) word = if bytes_eq word (folded block.name) then Some 0 else option_map suc (first_of blocks word)

-- the types, in small letters, of the instances that the first block type of a name declares; a standard block declares none
abbrev pub declared_in : List PlainBlock → List ℕ → List (List ℕ)
declared_in [] word = []
declared_in (block ∷ blocks) word = if bytes_eq word (folded block.name) then map folded block.instances else declared_in blocks word

-- a block type holds itself: its instances lead to it, directly or through those that they declare
abbrev pub BlockHoldsItself : List PlainBlock → PlainBlock → Type 0
BlockHoldsItself blocks block = HoldsItself (declared_in blocks) (folded block.name)

-- a block type is more than 16 deep: a standard block is 1 deep, another 1 more than its deepest instance, or 1
abbrev pub TooDeep : List PlainBlock → PlainBlock → Type 0
TooDeep blocks block = has_chain (declared_in blocks) 16 (folded block.name) ≡ true

-- no block type holds itself
abbrev pub NoneHoldsItself : List PlainBlock → Type 0
NoneHoldsItself blocks = (i : ℕ) (block : PlainBlock) → slice_get blocks i ≡ Some block → BlockHoldsItself blocks block → ⊥

-- no block type is too deep
abbrev pub NoneTooDeep : List PlainBlock → Type 0
NoneTooDeep blocks = (i : ℕ) (block : PlainBlock) → slice_get blocks i ≡ Some block → TooDeep blocks block → ⊥

-- no number is listed twice
abbrev pub Once : List ℕ → Type 0
Once [] = Unit {0}
Once (a ∷ numbers) = (Among numbers a → ⊥) × Once numbers

-- numbers of block types in an order in which each stands after those that it declares
pub record IsOrder (blocks : List PlainBlock) (order : List ℕ) : Type 0 where
  -- each is the first block type of its name
  pub first : (a : ℕ) → Among order a → (block : PlainBlock) × (slice_get blocks a ≡ Some block) × (first_of blocks (folded block.name) ≡ Some a)
  -- the first block type of each name is listed
  pub whole : (word : List ℕ) (a : ℕ) → first_of blocks word ≡ Some a → Among order a
  -- none is listed twice
  pub once : Once order
  -- the block type of each of its instances is listed before it, unless it is a standard block
  pub after : (k a b : ℕ) (block : PlainBlock) (word : List ℕ) → slice_get order k ≡ Some a → slice_get blocks a ≡ Some block → Among block.instances word → first_of blocks (folded word) ≡ Some b → Among (take k order) b

-- block types without a fault, in an order in which each stands after those that it declares
pub record AreOrdered (blocks : List PlainBlock) (order : List ℕ) : Type 0 where
  pub apart : NoneHoldsItself blocks
  pub shallow : NoneTooDeep blocks
  pub ordered : IsOrder blocks order
