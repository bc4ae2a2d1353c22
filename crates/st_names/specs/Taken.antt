-- Names that are taken: the later declaration is at fault.
use Rattle.std.specs.Prelude.{ℕ, suc, Bool, false, ◌||◌, List, [], ◌∷◌, ◌++◌, map, take, get_or, length, slice_get, Option, Some, None, option_map, option_and_then, codes}
use Rattle.std.specs.List.{list_any, range_with_len}
use Rattle.std.specs.Str.{bytes_eq}
use Rattle.plant_types.specs.Words.{folded, same_word}
use Rattle.st_parser.specs.Units.{PlainPou, PlainUnit}
use Rattle.st_names.specs.First.{first_that}
use Rattle.st_names.specs.DeclaredNames.{declared_in, declared_words}
use Rattle.st_names.specs.declared.place.UnitPlace.{UnitPlace}

-- a name is that of a standard block (IEC 61131-3)
abbrev pub is_standard : List ℕ → Bool
is_standard name = same_word name (codes "TON") || same_word name (codes "TOF") || same_word name (codes "R_TRIG")

-- a word is in a list of words
abbrev pub is_among : List (List ℕ) → List ℕ → Bool
is_among words word = list_any (bytes_eq word) words

-- a word, in small letters, is that of a standard block or was declared earlier
abbrev pub is_taken : List (List ℕ) → List ℕ → Bool
is_taken earlier word = is_standard word || is_among earlier word

-- a word is in a list twice
abbrev pub repeats : List (List ℕ) → Bool
repeats [] = false
repeats (word ∷ words) = is_among words word || repeats words

-- one or else another place
abbrev pub or_place : Option UnitPlace → Option UnitPlace → Option UnitPlace
or_place (Some place) other = Some place
or_place None other = other

-- the words that a source shares, in order of text
abbrev pub global_words : PlainUnit → List (List ℕ)
global_words unit = declared_words (declared_in unit.globals)

abbrev pub pou_words : PlainUnit → List (List ℕ)
pou_words unit = map (λ p. folded p.name) unit.pous

-- a name that sources share: the unit that declares it, and its word in small letters
pub record Naming : Type 0 where
  pub place : UnitPlace
  pub word : List ℕ

abbrev pub naming : UnitPlace → List ℕ → Naming
naming place word = record { place = place; word = word }

-- the names of the blocks and programs of a source, from a number on
abbrev pub pou_namings : (source n : ℕ) → List PlainPou → List Naming
pou_namings source n [] = []
pou_namings source n (p ∷ ps) = naming (record { source = source; pou = Some n }) (folded p.name) ∷ pou_namings source (suc n) ps

-- the names that sources share, from a source on, in order of text: of a source those of its globals, and then those of its blocks and programs
abbrev pub namings : ℕ → List PlainUnit → List Naming
namings source [] = []
namings source (unit ∷ units) = map (naming (record { source = source; pou = None })) (global_words unit) ++ (pou_namings source 0 unit.pous ++ namings (suc source) units)

-- the word of a number is taken: it is that of a standard block, or an earlier one is the same
abbrev pub is_taken_at : List (List ℕ) → ℕ → Bool
is_taken_at words k = is_taken (take k words) (get_or words k [])

-- the unit of the name of a number
abbrev pub place_at : List Naming → ℕ → Option UnitPlace
place_at names k = option_map (λ (n : Naming). n.place) (slice_get names k)

-- the unit of the first of names that is taken
abbrev pub first_place : List Naming → Option UnitPlace
first_place names = option_and_then (place_at names) (first_that (is_taken_at (map (λ (n : Naming). n.word) names)) (range_with_len 0 (length names)))

-- the first unit, in order of text, that declares a name which an earlier declaration of all sources has, or a standard block
abbrev pub first_taken : List PlainUnit → Option UnitPlace
first_taken units = first_place (namings 0 units)
