-- Rules that go by cases on a block type: what they give, where no block type holds itself.
use Rattle.std.specs.Prelude.{◌≡◌, ◌<◌, ℕ, zero, suc, List, length, Some, slice_get, take}
use Rattle.std.specs.List.{All}
use Rattle.std.specs.Option.{option_map_or}
use Rattle.st_blocks.specs.Chains.{Among}
use Rattle.st_blocks.specs.Blocks.{Once}
use Rattle.logic_source.specs.declared.logic.Instance.{Instance}
use Rattle.logic_source.specs.declared.logic.BlockRef.TheVariants.{Declared}
use Rattle.logic_source.specs.Source.{PlainRoutine, Source}

-- what a rule gives for the block type of a number, so many levels deep: it may ask for the block types that this one declares
abbrev pub levels : {A : Type 0} → A → ((ℕ → A) → PlainRoutine → A) → List PlainRoutine → (depth n : ℕ) → A
levels none rule blocks zero n = none
levels none rule blocks (suc d) n = option_map_or (rule (levels none rule blocks d)) (slice_get blocks n) none

-- what a rule gives for the block type of a number: as many levels as there are block types are all, since none holds itself
abbrev pub by_type : {A : Type 0} → A → ((ℕ → A) → PlainRoutine → A) → List PlainRoutine → ℕ → A
by_type none rule blocks n = levels none rule blocks (length blocks) n

-- a routine has an instance of the declared block type of a number
abbrev pub Declares : PlainRoutine → ℕ → Type 0
Declares r n = (i : Instance) × Among r.instances i × (i.of ≡ Declared n)

-- each declared block type that a routine has an instance of is one of these
abbrev pub DeclaresThere : List PlainRoutine → PlainRoutine → Type 0
DeclaresThere blocks r = (n : ℕ) → Declares r n → n < length blocks

-- a source has the block types of all its instances
pub record HasItsTypes (source : Source) : Type 0 where
  pub in_programs : All (DeclaresThere source.blocks) source.programs
  pub in_blocks : All (DeclaresThere source.blocks) source.blocks

-- a rule asks only for block types that the routine declares
abbrev pub AsksDeclared : {A : Type 0} → ((ℕ → A) → PlainRoutine → A) → Type 0
AsksDeclared {A} rule = (f g : ℕ → A) (r : PlainRoutine) → ((n : ℕ) → Declares r n → f n ≡ g n) → rule f r ≡ rule g r

-- an order lists each block type once, after those that it declares
pub record AreBelow (blocks : List PlainRoutine) (order : List ℕ) : Type 0 where
  -- each number of a block type is listed, and no other
  pub whole : (n : ℕ) → n < length blocks → Among order n
  pub within : (n : ℕ) → Among order n → n < length blocks
  -- none is listed twice
  pub once : Once order
  -- the block types that one declares are listed before it
  pub after : (k a b : ℕ) (r : PlainRoutine) → slice_get order k ≡ Some a → slice_get blocks a ≡ Some r → Declares r b → b < length blocks → Among (take k order) b
