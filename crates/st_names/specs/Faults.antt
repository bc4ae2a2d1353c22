-- The first unit, in order of text, that is at fault.
use Rattle.std.specs.Prelude.{ℕ, suc, Bool, true, false, ◌&&◌, ◌||◌, ◌==◌, nat_lt, if◌then◌else◌, List, [], ◌∷◌, Option, Some, None}
use Rattle.st_parser.specs.Units.{PlainSection, PlainPou, PlainUnit}
use Rattle.st_names.specs.declared.place.UnitPlace.{UnitPlace}
use Rattle.st_names.specs.Taken.{first_taken, or_place}
use Rattle.st_names.specs.Known.{globals_misnamed, pou_misnamed}

module _ (bad_globals : List PlainSection → Bool) (bad_pou : PlainPou → Bool) where
  -- the first block or program of a source, from a number on, that is bad
  abbrev pub first_pou : (source n : ℕ) → List PlainPou → Option UnitPlace
  first_pou source n [] = None
  first_pou source n (p ∷ ps) = if bad_pou p then Some (record { source = source; pou = Some n }) else first_pou source (suc n) ps

  -- the first unit, from a source on, that is bad: a source's globals come before its blocks and programs
  abbrev pub first_unit : (source : ℕ) → List PlainUnit → Option UnitPlace
  first_unit source [] = None
  first_unit source (unit ∷ units) =
      if bad_globals unit.globals then Some (record { source = source; pou = None }) else or_place (first_pou source 0 unit.pous) (first_unit (suc source) units)

-- one unit of a source comes before another: its globals before its blocks and programs
abbrev pub is_earlier_pou : Option ℕ → Option ℕ → Bool
is_earlier_pou a None = false
is_earlier_pou None (Some n) = true
is_earlier_pou (Some m) (Some n) = nat_lt m n

-- one unit comes before another, in order of text
abbrev pub is_earlier : UnitPlace → UnitPlace → Bool
is_earlier a b = nat_lt a.source b.source || ((a.source == b.source) && is_earlier_pou a.pou b.pou)

-- the earlier of two units, either of which may be missing
abbrev pub earlier : Option UnitPlace → Option UnitPlace → Option UnitPlace
earlier None b = b
earlier (Some a) None = Some a
earlier (Some a) (Some b) = if is_earlier b a then Some b else Some a

-- the first unit with a fault of names (C6): it declares a name that is taken, declares one of its own twice, names what isn't there, or gives an input or takes an output of a call twice
abbrev pub first_misnamed : List PlainUnit → Option UnitPlace
first_misnamed units = earlier (first_taken units) (first_unit (globals_misnamed units) (pou_misnamed units) 0 units)
