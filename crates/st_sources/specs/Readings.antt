-- What sources read as, each by itself.
use Rattle.std.specs.Prelude.{⊤, ℕ, ◌+◌, List, [], ◌∷◌, MatchResult, slice_index_or}
use Rattle.std.specs.declared.result.Result.{Result}
use Rattle.st_parser.specs.declared.unit.Unit.{Unit as Tree}
use Rattle.st_parser.specs.Units.{view_unit}
use Rattle.st_sources.specs.declared.fault.SourceFault.{SourceFault}
use Rattle.st_sources.specs.Sources.{HasUnit, IsTextFault}

-- what the text of the source of a number reads as: its unit, or why it has none
abbrev pub IsReading : ℕ → List ℕ → Result Tree SourceFault → Type 0
IsReading number text reading = MatchResult reading (λ unit. HasUnit text (view_unit unit)) (IsTextFault number text)

-- the same of one of some texts
abbrev pub IsReadingAt : ℕ → List (List ℕ) → Result Tree SourceFault → Type 0
IsReadingAt number texts reading = IsReading number (slice_index_or texts number []) reading

-- what each of some texts reads as, in order, from a number on
abbrev pub AreReadings : ℕ → List (List ℕ) → List (Result Tree SourceFault) → Type 0
AreReadings number [] [] = ⊤
AreReadings number [] (reading ∷ readings) = ⊥
AreReadings number (text ∷ texts) [] = ⊥
AreReadings number (text ∷ texts) (reading ∷ readings) = IsReading number text reading × AreReadings (number + 1) texts readings
