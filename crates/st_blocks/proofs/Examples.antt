-- Worked examples of block types, each computed by hand from its rule.
use Rattle.std.proofs.Common.{◌≡◌, ◌+◌, ℕ, zero, suc, true, false, List, [], ◌∷◌, Some, None, codes, refl, inl}
use Rattle.st_blocks.specs.Chains.{has_chain, depth}
use Rattle.st_blocks.specs.Blocks.{PlainBlock, first_of, declared_in, BlockHoldsItself}

abbrev block : List ℕ → List (List ℕ) → PlainBlock
block name instances = record { name = name; instances = instances }

-- A has an instance of B, written b, and B one of TON
abbrev nested : List PlainBlock
nested = block (codes "A") (codes "b" ∷ []) ∷ block (codes "B") (codes "TON" ∷ []) ∷ []

pub a_declares_b : declared_in nested (codes "a") ≡ codes "b" ∷ []
a_declares_b = refl

pub b_is_second : first_of nested (codes "b") ≡ Some 1
b_is_second = refl

-- a standard block is none of them, and declares none
pub standard_is_none : first_of nested (codes "ton") ≡ None
standard_is_none = refl

pub standard_declares_none : declared_in nested (codes "ton") ≡ []
standard_declares_none = refl

-- TON is 1 deep, B 2 and A 3
pub nested_depth : depth (declared_in nested) 16 (codes "a") ≡ 3
nested_depth = refl

pub nested_chain : has_chain (declared_in nested) 2 (codes "a") ≡ true
nested_chain = refl

pub nested_no_chain : has_chain (declared_in nested) 3 (codes "a") ≡ false
nested_no_chain = refl

-- A has an instance of B, and B one of A
abbrev mutual_pair : List PlainBlock
mutual_pair = block (codes "A") (codes "B" ∷ []) ∷ block (codes "B") (codes "A" ∷ []) ∷ []

pub a_holds_itself : BlockHoldsItself mutual_pair (block (codes "A") (codes "B" ∷ []))
a_holds_itself = (codes "b" ∷ [], (inl refl, inl refl))

-- a name twice: the first counts, which has no instances
abbrev twice : List PlainBlock
twice = block (codes "A") [] ∷ block (codes "a") (codes "A" ∷ []) ∷ []

pub first_counts : first_of twice (codes "a") ≡ Some 0
first_counts = refl

pub first_declares : declared_in twice (codes "a") ≡ []
first_declares = refl

-- so many block types, each with an instance of the next, and the last with one of a standard block
abbrev row_of_blocks : ℕ → ℕ → List PlainBlock
row_of_blocks letter zero = []
row_of_blocks letter (suc n) = block (letter ∷ []) (((letter + 1) ∷ []) ∷ []) ∷ row_of_blocks (letter + 1) n

-- 15 of them are 16 deep with the standard block, and 16 are 17 deep
pub fifteen_blocks : has_chain (declared_in (row_of_blocks 97 15)) 16 (97 ∷ []) ≡ false
fifteen_blocks = refl

pub fifteen_depth : depth (declared_in (row_of_blocks 97 15)) 20 (97 ∷ []) ≡ 16
fifteen_depth = refl

pub sixteen_blocks : has_chain (declared_in (row_of_blocks 97 16)) 16 (97 ∷ []) ≡ true
sixteen_blocks = refl
