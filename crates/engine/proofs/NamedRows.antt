-- The text of a row is that of the row by names.
use Rattle.std.proofs.Common.{◌≡◌, ℕ, zero, suc, ◌++◌, List, [], ◌∷◌, map, codes, ap, refl}
use Rattle.std.specs.Prelude.{slice_index_or}
use Rattle.std.specs.Fmt.{decimal}
use Rattle.base_stamps.specs.Stamps.{stamp}
use Rattle.plant_types.specs.declared.values.Place.{Place}
use Rattle.plant_types.specs.Values.{Path}
use Rattle.logic_source.specs.Paths.{paths_of, path_text}
use Rattle.engine_system.specs.VmLogicRuns.{place_spot}
use Rattle.engine_system.specs.Plants.{PlainPlant}
use Rattle.engine_system.specs.Names.{body_path}
use Rattle.journal_core.specs.Bodies.{fault_body, body_text, row_text}
use Rattle.journal_core.specs.declared.row.Entry.{Entry}
use Rattle.journal_core.specs.declared.row.Entry.TheVariants as entry
use Rattle.journal_core.specs.declared.row.Row.{Row}
use Rattle.engine.specs.Journal.{named_entry, named_row, entry_text, named_text, name_of}

-- the text of the path of a number
path_of_number : (paths : List Path) (n : ℕ) → slice_index_or (map path_text paths) n [] ≡ path_text (slice_index_or paths n [])
path_of_number [] n = refl
path_of_number (path ∷ paths) zero = refl
path_of_number (path ∷ paths) (suc n) = path_of_number paths n

-- the path of a body, as it is printed, is that of its number
pub path_is : (plant : PlainPlant) (place : Place) → body_path plant place.path ≡ path_text (place_spot plant.source place).path
path_is plant place = path_of_number (paths_of plant.source) place.path

-- the body of a row, with the name that a plant has for it, is that of the row by names
entry_same : (plant : PlainPlant) (e : Entry) → body_text e (name_of plant e) ≡ entry_text (named_entry plant e)
entry_same plant (entry.Fault place trap) = ap (λ (path : List ℕ). fault_body path place.statement trap) (path_is plant place)
entry_same plant (entry.Alarm alarm change) = refl
entry_same plant (entry.Order console verb target refused) = refl
entry_same plant (entry.Reload kept fresh) = refl

-- and so is its text
pub text_same : (epoch : ℕ) (plant : PlainPlant) (row : Row) → row_text epoch row (name_of plant row.entry) ≡ named_text epoch (named_row plant row)
text_same epoch plant row = ap (λ (body : List ℕ). decimal row.number ++ codes " " ++ stamp epoch row.moment ++ codes " " ++ body) (entry_same plant row.entry)
