-- The names by which units are reported.
use Rattle.std.specs.Prelude.{ℕ, List, [], codes, Option, Some, None, slice_get}
use Rattle.std.specs.Option.{option_map_or}
use Rattle.st_names.specs.declared.place.UnitPlace.{UnitPlace}
use Rattle.st_parser.specs.Units.{PlainPou, PlainUnit}

-- the name of the block or program of a number, as declared
abbrev pub pou_name : List PlainPou → ℕ → List ℕ
pou_name pous number = option_map_or (λ (p : PlainPou). p.name) (slice_get pous number) []

-- the name of a block or program of a source, or of its globals
abbrev pub name_in : PlainUnit → Option ℕ → List ℕ
name_in unit None = codes "VAR_GLOBAL"
name_in unit (Some number) = pou_name unit.pous number

-- the name of a unit by its place
abbrev pub unit_name : List PlainUnit → UnitPlace → List ℕ
unit_name units place = option_map_or (λ unit. name_in unit place.pou) (slice_get units place.source) []
