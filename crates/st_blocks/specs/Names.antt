-- Block types' names as numbers, as the code has them.
use Rattle.std.specs.Prelude.{◌≡◌, ℕ, suc, nat_eq, Bool, false, if◌then◌else◌, List, [], map, length, Option, Some, None, unwrap_or, slice_get}
use Rattle.plant_types.specs.Words.{folded}
use Rattle.st_blocks.specs.Blocks.{PlainBlock, first_of}
use Rattle.st_blocks.specs.Graphs.{Graph, next_of}

-- a look-up finds the first block type of each name
abbrev pub IsNaming : List PlainBlock → (List ℕ → Option ℕ) → Type 0
IsNaming blocks find = (word : List ℕ) → find word ≡ first_of blocks (folded word)

-- what one look-up finds, or else another
abbrev pub found_or : Option ℕ → Option ℕ → Option ℕ
found_or None other = other
found_or (Some a) other = Some a

-- the number of the first block type of a name in small letters; that of a standard block, or of none, is behind all
abbrev pub number : List PlainBlock → List ℕ → ℕ
number blocks word = unwrap_or (first_of blocks word) (length blocks)

-- a number is that of a block type's name
abbrev pub is_numbered : List PlainBlock → ℕ → Option PlainBlock → Bool
is_numbered blocks a None = false
is_numbered blocks a (Some block) = nat_eq (number blocks (folded block.name)) a

-- whether a block type is the first of its name
abbrev pub is_first : List PlainBlock → ℕ → Bool
is_first blocks a = is_numbered blocks a (slice_get blocks a)

-- the numbers of a block type's instances; none where there is no block type
abbrev pub numbers_at : List PlainBlock → Option PlainBlock → List ℕ
numbers_at blocks None = []
numbers_at blocks (Some block) = map (λ word. number blocks (folded word)) block.instances

-- those of the block type of a number; none for one whose name an earlier one has
abbrev pub row_at : List PlainBlock → ℕ → List ℕ
row_at blocks a = if is_first blocks a then numbers_at blocks (slice_get blocks a) else []

-- the rows of the block types, and behind them that of the standard blocks
pub record IsGraph (blocks : List PlainBlock) (graph : Graph) : Type 0 where
  pub long : length graph ≡ suc (length blocks)
  pub row : (a : ℕ) → next_of graph a ≡ row_at blocks a
