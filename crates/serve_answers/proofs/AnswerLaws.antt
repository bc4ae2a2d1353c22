-- What answers are made of.
use Rattle.std.proofs.Common.{◌≡◌, ℕ, suc, Bool, true, false, List, [], ◌∷◌, length, ap, refl}
use Rattle.std.specs.Str.{IsUtf8, is_utf8}
use Rattle.plant_types.specs.declared.values.Place.{Place}
use Rattle.plant_types.specs.declared.values.Trap.{Trap}
use Rattle.serve_answers.specs.Answers.{spots_of}
use Rattle.logic_source.specs.Source.{Source}
use Rattle.logic_source.specs.Paths.{path_text}
use Rattle.engine.specs.VmLogicRuns.{place_spot}
use Rattle.engine.specs.Plants.{PlainPlant}
use Rattle.engine.specs.Names.{body_path}
use Rattle.engine.proofs.NamedRows as rows
use Rattle.std.proofs.lemmas.Str.{IsUtf8-from_is_utf8}

not_text : (v : Bool) (bytes : List ℕ) → is_utf8 bytes ≡ v → (IsUtf8 bytes → ⊥) → v ≡ false
not_text true bytes e n = absurd (n (IsUtf8-from_is_utf8 bytes e))
not_text false bytes e n = refl

-- bytes that are no text
pub is_utf8-none : (bytes : List ℕ) → (IsUtf8 bytes → ⊥) → is_utf8 bytes ≡ false
is_utf8-none bytes n = not_text (is_utf8 bytes) bytes refl n

-- the path of a body, as it is printed, is that of its number
pub path_is : (plant : PlainPlant) (place : Place) → body_path plant place.path ≡ path_text (place_spot plant.source place).path
path_is plant place = rows.path_is plant place

-- as many spots as places
pub spots_length : (source : Source) (faults : List (Place × Trap)) → length (spots_of source faults) ≡ length faults
spots_length source [] = refl
spots_length source (f ∷ faults) = ap suc (spots_length source faults)
