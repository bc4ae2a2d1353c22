-- Which consoles may order the alarms of an area.
use Rattle.std.specs.Prelude.{◌≡◌, ℕ, ◌==◌, Bool, ◌&&◌, List, [], map, slice_index_or}
use Rattle.std.specs.List.{list_any, filter}
use Rattle.plant_file.specs.declared.console.ListedConsole.{ListedConsole}

-- whether a console has this number and this area
abbrev pub has_area : ℕ → ℕ → ListedConsole → Bool
has_area number area console = (console.number == number) && list_any (λ a. a == area) console.areas

-- the numbers of the consoles that have an area, in order
abbrev pub orderers_of : List ListedConsole → ℕ → List ℕ
orderers_of consoles area = map (λ (console : ListedConsole). console.number) (filter (λ console. list_any (λ a. a == area) console.areas) consoles)

-- lists of numbers, one for each area, say of each number whether a console with it may order the area's alarms
abbrev pub SayWho : List ListedConsole → List (List ℕ) → Type 0
SayWho consoles lists = (number area : ℕ) → list_any (λ n. n == number) (slice_index_or lists area []) ≡ list_any (has_area number area) consoles
