-- The block types that the programs of a source reach: through instances, or through calls.
use Rattle.std.specs.Prelude.{◌≡◌, ℕ, ◌||◌, not, Bool, true, false, if◌then◌else◌, List, [], ◌∷◌, ◌++◌, get_or, set, length, replicate, slice_get, Some}
use Rattle.std.specs.Option.{option_map_or}
use Rattle.st_blocks.specs.Chains.{Among}
use Rattle.logic_source.specs.declared.logic.Instance.{Instance}
use Rattle.logic_source.specs.declared.logic.BlockRef.{BlockRef}
use Rattle.logic_source.specs.declared.logic.BlockRef.TheVariants.{Declared}
use Rattle.logic_source.specs.Source.{PlainRoutine, Source}
use Rattle.logic_source.specs.Paths.{is_called}

-- a routine asks for a block type: it has an instance of it, and calls that instance if calls alone count
abbrev pub AsksFor : (calls : Bool) → PlainRoutine → ℕ → Type 0
AsksFor calls r n = (i : Instance) × Among r.instances i × (i.of ≡ Declared n) × (calls ≡ true → is_called r i.name ≡ true)

-- programs reach a block type: one of them asks for it, or a block type does that they reach
pub data Reaches (calls : Bool) (source : Source) : ℕ → Type 0 where
  by_program : (k n : ℕ) (p : PlainRoutine) → slice_get source.programs k ≡ Some p → AsksFor calls p n → Reaches calls source n
  by_block : (a n : ℕ) (r : PlainRoutine) → Reaches calls source a → slice_get source.blocks a ≡ Some r → AsksFor calls r n → Reaches calls source n

-- a number is flagged
abbrev pub flagged : List Bool → ℕ → Bool
flagged flags n = get_or flags n false

-- each block type that a program asks for is flagged, and each that a flagged one asks for
pub record AreReached (calls : Bool) (source : Source) (flags : List Bool) : Type 0 where
  pub by_programs : (k n : ℕ) (p : PlainRoutine) → slice_get source.programs k ≡ Some p → AsksFor calls p n → flagged flags n ≡ true
  pub by_blocks : (a n : ℕ) (r : PlainRoutine) → slice_get source.blocks a ≡ Some r → flagged flags a ≡ true → AsksFor calls r n → flagged flags n ≡ true

-- an instance of a name counts
abbrev pub counts : Bool → PlainRoutine → List ℕ → Bool
counts calls r name = not calls || is_called r name

-- the number of the block type of an instance that counts; none of a standard block
abbrev pub number_of : Bool → BlockRef → List ℕ
number_of true (Declared n) = n ∷ []
number_of _ _ = []

-- the same of instances in turn, each counted by its name
abbrev pub numbers_of : (List ℕ → Bool) → List Instance → List ℕ
numbers_of counted [] = []
numbers_of counted (i ∷ is) = number_of (counted i.name) i.of ++ numbers_of counted is

-- flags after numbers were flagged; nothing is past the last flag
abbrev pub flag_all : List Bool → List ℕ → List Bool
flag_all flags [] = flags
flag_all flags (n ∷ ns) = flag_all (set flags n true) ns

-- flags after those that a routine asks for were flagged
abbrev pub flag_asked : Bool → List Bool → PlainRoutine → List Bool
flag_asked calls flags r = flag_all flags (numbers_of (counts calls r) r.instances)

-- the same of programs in turn
abbrev pub flag_programs : Bool → List Bool → List PlainRoutine → List Bool
flag_programs calls flags [] = flags
flag_programs calls flags (p ∷ ps) = flag_programs calls (flag_asked calls flags p) ps

-- flags after those that the block type of a number asks for were flagged, if it is flagged
abbrev pub flag_onward : Bool → List PlainRoutine → ℕ → List Bool → List Bool
flag_onward calls blocks n flags = if flagged flags n then option_map_or (flag_asked calls flags) (slice_get blocks n) flags else flags

-- the same of the block types of an order, the last first
abbrev pub flag_back : Bool → List PlainRoutine → List ℕ → List Bool → List Bool
flag_back calls blocks [] flags = flags
flag_back calls blocks (n ∷ ns) flags = flag_onward calls blocks n (flag_back calls blocks ns flags)

-- the flags of the block types that programs reach
abbrev pub reached : Bool → (programs blocks : List PlainRoutine) → List ℕ → List Bool
reached calls programs blocks order = flag_back calls blocks order (flag_programs calls (replicate (length blocks) false) programs)
