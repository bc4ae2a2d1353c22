-- The function blocks of all sources, and where each is declared.
use Rattle.std.specs.Prelude.{ℕ, suc, if◌then◌else◌, List, [], ◌∷◌, ◌++◌, flat_map, Some}
use Rattle.st_blocks.specs.Blocks.{PlainBlock}
use Rattle.st_names.specs.Sort.{Sort}
use Rattle.st_names.specs.Sort.TheVariants as sort
use Rattle.st_names.specs.Units.{PlainDeclaration, PlainSection, PlainPou, PlainUnit}
use Rattle.st_names.specs.Shared.{is_block}
use Rattle.st_names.specs.declared.place.UnitPlace.{UnitPlace}

-- the block type that instances are declared as
abbrev pub sort_types : Sort → List (List ℕ)
sort_types (sort.Kind kind) = []
sort_types (sort.Block word) = word ∷ []
sort_types (sort.Array bounds kind) = []

abbrev pub declaration_types : PlainDeclaration → List (List ℕ)
declaration_types d = sort_types d.sort

-- the block types that a section's declarations name, in order of text
abbrev pub section_types : PlainSection → List (List ℕ)
section_types s = flat_map declaration_types s.declarations

abbrev pub block_of : PlainPou → PlainBlock
block_of p = record { name = p.name; instances = flat_map section_types p.sections }

-- a function block with the block types that its declarations name; a program is none
abbrev pub pou_blocks : PlainPou → List PlainBlock
pou_blocks p = if is_block p.kind then block_of p ∷ [] else []

-- the function blocks of a source's blocks and programs, in order of text
abbrev pub blocks_among : List PlainPou → List PlainBlock
blocks_among ps = flat_map pou_blocks ps

-- the function blocks of all sources, in order of text
abbrev pub blocks_of : List PlainUnit → List PlainBlock
blocks_of units = flat_map (λ u. blocks_among u.pous) units

-- where the function blocks among a source's blocks and programs are declared, from a number on
abbrev pub places_among : (source n : ℕ) → List PlainPou → List UnitPlace
places_among source n [] = []
places_among source n (p ∷ ps) = if is_block p.kind then record { source = source; pou = Some n } ∷ places_among source (suc n) ps else places_among source (suc n) ps

-- where the function blocks of all sources are declared, from a source on
abbrev pub block_places : (source : ℕ) → List PlainUnit → List UnitPlace
block_places source [] = []
block_places source (u ∷ us) = places_among source 0 u.pous ++ block_places (suc source) us
