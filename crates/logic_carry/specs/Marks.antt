-- Block types that hold nothing.
use Rattle.std.specs.Prelude.{◌≡◌, ◌==◌, ◌&&◌, if◌then◌else◌, ℕ, Bool, true, false, List, length, get_or, set, Some, slice_get}
use Rattle.std.specs.List.{list_all}
use Rattle.logic_source.specs.declared.logic.BlockRef.{BlockRef}
use Rattle.logic_source.specs.declared.logic.BlockRef.TheVariants.{Ton, Tof, RTrig, Declared}
use Rattle.logic_carry.specs.declared.words.NamedInstance.{NamedInstance}
use Rattle.logic_carry.specs.declared.words.Shape.{Shape}

-- an instance is of a block type that is marked
abbrev pub is_marked : List Bool → BlockRef → Bool
is_marked marks Ton = false
is_marked marks Tof = false
is_marked marks RTrig = false
is_marked marks (Declared n) = get_or marks n false

-- a routine holds nothing: it has no variables and no arrays, and its instances are of block types that are marked
abbrev pub holds_nothing : List Bool → Shape → Bool
holds_nothing marks shape = ((length shape.own.items == 0) && (length shape.rows.items == 0)) && list_all (λ (p : NamedInstance). is_marked marks p.of) shape.parts.items

-- the marks after a block type was marked, if it is to be
abbrev pub marked_one : List Bool → ℕ → Bool → List Bool
marked_one marks number mark = if mark then set marks number true else marks

-- each block type that is marked holds nothing
abbrev pub AreMarked : List Bool → List Shape → Type 0
AreMarked marks shapes = (n : ℕ) (shape : Shape) → get_or marks n false ≡ true → slice_get shapes n ≡ Some shape → holds_nothing marks shape ≡ true
