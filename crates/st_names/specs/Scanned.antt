-- How the code finds the first name that is taken: it goes through the names in order of text, with the words before each.
use Rattle.std.specs.Prelude.{ℕ, suc, Bool, false, ◌||◌, if◌then◌else◌, List, [], ◌∷◌, ◌++◌, Option, Some, None}
use Rattle.plant_types.specs.Words.{folded}
use Rattle.st_parser.specs.Units.{PlainPou, PlainUnit}
use Rattle.st_names.specs.Taken.{is_taken, or_place, global_words, pou_words}
use Rattle.st_names.specs.declared.place.UnitPlace.{UnitPlace}

-- one of the words is taken, by an earlier one of them too
abbrev pub one_taken : List (List ℕ) → List (List ℕ) → Bool
one_taken earlier [] = false
one_taken earlier (word ∷ words) = is_taken earlier word || one_taken (earlier ++ word ∷ []) words

-- the first block or program of a source, from a number on, whose name is taken
abbrev pub first_taken_pou : ℕ → ℕ → List (List ℕ) → List PlainPou → Option UnitPlace
first_taken_pou source n earlier [] = None
first_taken_pou source n earlier (p ∷ ps) =
    if is_taken earlier (folded p.name) then Some (record { source = source; pou = Some n }) else first_taken_pou source (suc n) (earlier ++ folded p.name ∷ []) ps

-- the first of a source's units that declares a name which is taken
abbrev pub first_taken_of : ℕ → List (List ℕ) → PlainUnit → Option UnitPlace
first_taken_of source earlier unit =
    if one_taken earlier (global_words unit) then Some (record { source = source; pou = None }) else first_taken_pou source 0 (earlier ++ global_words unit) unit.pous

-- the first unit, from a source on, that declares a name which is taken
abbrev pub first_taken_after : ℕ → List (List ℕ) → List PlainUnit → Option UnitPlace
first_taken_after source earlier [] = None
first_taken_after source earlier (unit ∷ units) =
    or_place (first_taken_of source earlier unit) (first_taken_after (suc source) (earlier ++ global_words unit ++ pou_words unit) units)
