-- The blocks and programs of a plant's units, in order of text.
use Rattle.std.specs.Prelude.{ℕ, not, List, map, flat_map, filter}
use Rattle.plant_types.specs.Words.{folded}
use Rattle.st_typing.specs.Units.{PlainPou, PlainUnit}
use Rattle.st_typing.specs.Shared.{is_block}

-- the blocks and programs of all units, in order of text
abbrev pub pous_of : List PlainUnit → List PlainPou
pous_of units = flat_map (λ u. u.pous) units

-- the blocks among blocks and programs
abbrev pub block_pous : List PlainPou → List PlainPou
block_pous pous = filter (λ p. is_block p.kind) pous

-- the programs among blocks and programs
abbrev pub program_pous : List PlainPou → List PlainPou
program_pous pous = filter (λ p. not (is_block p.kind)) pous

-- the names of all block types as declared; the number of a block type counts from 0 in this list
abbrev pub block_names : List PlainUnit → List (List ℕ)
block_names units = map (λ (p : PlainPou). p.name) (block_pous (pous_of units))

-- the word of a block or program: its name in small letters
abbrev pub pou_word : PlainPou → List ℕ
pou_word p = folded p.name
