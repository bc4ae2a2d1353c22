-- Worked examples, each worked out by hand from the rules.
use Rattle.std.proofs.Common.{◌≡◌, ℕ, pos, List, [], ◌∷◌, Some, None, codes, refl}
use Rattle.std.specs.Str.{chars, is_utf8}
use Rattle.toml.specs.Data.{Data, string, integer, array, table, Items, no_items, item, Members, no_members, member}
use Rattle.toml.proofs.OnLiterals.{toml_on_literals}
use Rattle.plant_file.specs.declared.console.ListedConsole.{ListedConsole}
use Rattle.plant_file.specs.PlantFiles.{plant_file}
use Rattle.plant_file.specs.Read.{document_in, plant_file_in}

abbrev console : ℕ → List ℕ → ListedConsole
console number areas = record { number = number; areas = areas }

abbrev console_table : ℕ → Items → Data
console_table number areas = table (member (codes "areas") (array areas) (member (codes "number") (integer (pos number)) no_members))

-- the document of a plant with these areas, and these consoles
abbrev document : Items → Items → Members
document areas consoles =
    member (codes "alarms") (string (codes "alarms.csv")) (member (codes "areas") (array areas) (member (codes "console") (array consoles)
    (member (codes "epoch") (string (codes "2024-01-01T00:00:00Z")) (member (codes "name") (string (codes "P")) (member (codes "sources") (array (item (string (codes "p.st")) no_items)) no_members)))))

abbrev north : Data
north = string (codes "north")

abbrev south : Data
south = string (codes "south")

-- console 1 has the first area, console 2 the second
pub two_consoles : plant_file (document (item north (item south no_items)) (item (console_table 1 (item north no_items)) (item (console_table 2 (item south no_items)) no_items)))
    ≡ Some (record {
      name = codes "P";
      epoch = codes "2024-01-01T00:00:00Z";
      areas = codes "north" ∷ codes "south" ∷ [];
      sources = codes "p.st" ∷ [];
      alarms = codes "alarms.csv";
      consoles = console 1 (0 ∷ []) ∷ console 2 (1 ∷ []) ∷ [];
    })
two_consoles = refl

-- an area stands in the list twice
pub area_twice : plant_file (document (item north (item north no_items)) no_items) ≡ None
area_twice = refl

-- an area of a console isn't listed
pub area_not_listed : plant_file (document (item north no_items) (item (console_table 1 (item south no_items)) no_items)) ≡ None
area_not_listed = refl

-- two consoles have one number
pub number_twice : plant_file (document (item north no_items) (item (console_table 1 no_items) (item (console_table 1 (item north no_items)) no_items))) ≡ None
number_twice = refl

-- a text that has all keys but `console`
pub no_consoles : plant_file_in (codes "name='n'\nepoch=''\nareas=['a']\nsources=[]\nalarms='x'")
    ≡ Some (record { name = codes "n"; epoch = []; areas = codes "a" ∷ []; sources = []; alarms = codes "x"; consoles = [] })
unfolding toml_on_literals is_utf8 chars
no_consoles = refl

-- a text that is no document
pub no_document : document_in (codes "name=") ≡ None
unfolding toml_on_literals is_utf8 chars
no_document = refl
