-- What the document of a plant file says (this profile): the keys that it has, and the rule of each. Lengths are in bytes, and texts compare exactly.
use Rattle.std.specs.Prelude.{◌≡◌, ℕ, ◌<◌, ◌≤◌, ℤ, pos, negsuc, nat_le, nat_eq, Bool, true, false, not, ◌&&◌, List, [], ◌∷◌, length, map, position, Option, Some, None, is_some, if◌then◌else◌, codes, All}
use Rattle.std.specs.List.{list_any, list_all}
use Rattle.std.specs.Str.{bytes_eq}
use Rattle.plant_types.specs.Words.{is_tag, is_sized}
use Rattle.toml.specs.Data.{Items, no_items, item, Members, no_members, member, get_member, as_str, as_integer, as_array, as_table}
use Rattle.plant_types.specs.Options.{◌>>=◌}
use Rattle.plant_file.specs.Lists.{passing, repeats}
use Rattle.plant_file.specs.declared.console.ListedConsole.{ListedConsole}

-- a plant file: the plant's name, the text of its epoch, its areas, the files of its sources and of its alarms, and its consoles, whose areas are numbers in `areas`, from 0
pub record PlainPlantFile : Type 0 where
  pub name : List ℕ
  pub epoch : List ℕ
  pub areas : List (List ℕ)
  pub sources : List (List ℕ)
  pub alarms : List ℕ
  pub consoles : List ListedConsole

-- a table has no other keys than these
abbrev pub has_only : List (List ℕ) → Members → Bool
has_only keys no_members = true
has_only keys (member key value members) = list_any (bytes_eq key) keys && has_only keys members

-- a key is there
abbrev pub has_key : List ℕ → Members → Bool
has_key key members = is_some (get_member key members)

-- the text under a key
abbrev pub text_at : List ℕ → Members → Option (List ℕ)
text_at key members = get_member key members >>= as_str

-- the integer under a key
abbrev pub integer_at : List ℕ → Members → Option ℤ
integer_at key members = get_member key members >>= as_integer

-- the list under a key
abbrev pub list_at : List ℕ → Members → Option Items
list_at key members = get_member key members >>= as_array

-- the texts of a list, in order; none if an item is no text
abbrev pub texts : Items → Option (List (List ℕ))
texts no_items = Some []
texts (item value items) = as_str value >>= (λ text. texts items >>= (λ more. Some (text ∷ more)))

-- the texts under a key, none of which stands there twice
abbrev pub texts_at : List ℕ → Members → Option (List (List ℕ))
texts_at key members = list_at key members >>= texts >>= passing (λ all. not (repeats bytes_eq all))

-- `name`: a text of 1 to 64 bytes
abbrev pub name_in : Members → Option (List ℕ)
name_in members = text_at (codes "name") members >>= passing (is_sized 1 64)

-- `epoch`: a text
abbrev pub epoch_in : Members → Option (List ℕ)
epoch_in members = text_at (codes "epoch") members

-- `areas`: a list of texts that have the form of tags
abbrev pub areas_in : Members → Option (List (List ℕ))
areas_in members = texts_at (codes "areas") members >>= passing (list_all is_tag)

-- `sources`: a list of texts of 1 to 255 bytes
abbrev pub sources_in : Members → Option (List (List ℕ))
sources_in members = texts_at (codes "sources") members >>= passing (list_all (is_sized 1 255))

-- `alarms`: a text of 1 to 255 bytes
abbrev pub alarms_in : Members → Option (List ℕ)
alarms_in members = text_at (codes "alarms") members >>= passing (is_sized 1 255)

-- the numbers of names in a list, from 0; none if one isn't there
abbrev pub numbers_of : List (List ℕ) → List (List ℕ) → Option (List ℕ)
numbers_of areas [] = Some []
numbers_of areas (name ∷ names) = position (bytes_eq name) areas >>= (λ number. numbers_of areas names >>= (λ more. Some (number ∷ more)))

-- a console's number is 1 to 999999999
abbrev pub console_number : ℤ → Option ℕ
console_number (pos n) = passing (λ number. nat_le 1 number && nat_le number 999999999) n
console_number (negsuc n) = None

-- `number` of a console
abbrev pub number_in : Members → Option ℕ
number_in members = integer_at (codes "number") members >>= console_number

-- a console is a table with a number and a list of areas, each of which is an area of the plant
abbrev pub console_of : List (List ℕ) → Members → Option ListedConsole
console_of areas members =
    if has_only (codes "number" ∷ codes "areas" ∷ []) members
    then number_in members >>= (λ number. texts_at (codes "areas") members >>= numbers_of areas >>= (λ its. Some (record { number = number; areas = its })))
    else None

-- the consoles of a list, in order
abbrev pub consoles_of : List (List ℕ) → Items → Option (List ListedConsole)
consoles_of areas no_items = Some []
consoles_of areas (item value items) = as_table value >>= console_of areas >>= (λ console. consoles_of areas items >>= (λ more. Some (console ∷ more)))

-- a number is that of two consoles
abbrev pub numbers_clash : List ListedConsole → Bool
numbers_clash consoles = repeats nat_eq (map (λ (console : ListedConsole). console.number) consoles)

-- `console`: a list of consoles, no two of one number; none where the key is missing
abbrev pub consoles_in : List (List ℕ) → Members → Option (List ListedConsole)
consoles_in areas members =
    if has_key (codes "console") members
    then list_at (codes "console") members >>= consoles_of areas >>= passing (λ consoles. not (numbers_clash consoles))
    else Some []

-- the keys of a plant file
abbrev pub file_keys : List (List ℕ)
file_keys = codes "name" ∷ codes "epoch" ∷ codes "areas" ∷ codes "sources" ∷ codes "alarms" ∷ codes "console" ∷ []

-- the plant file that a document is: it has these keys and no other, and what stands under each is right
abbrev pub plant_file : Members → Option PlainPlantFile
plant_file members =
    if has_only file_keys members
    then name_in members >>= (λ name. epoch_in members >>= (λ epoch. areas_in members >>= (λ areas. sources_in members >>= (λ sources. alarms_in members >>= (λ alarms. consoles_in areas members >>= (λ consoles.
    Some (record { name = name; epoch = epoch; areas = areas; sources = sources; alarms = alarms; consoles = consoles })))))))
    else None

-- what holds of each console of a plant file
pub record IsConsole (listed : List (List ℕ)) (console : ListedConsole) : Type 0 where
  pub lowest : 1 ≤ console.number
  pub highest : console.number ≤ 999999999
  pub areas : All (λ area. area < length listed) console.areas
  pub areas_once : repeats nat_eq console.areas ≡ false

-- what holds of each plant file
pub record IsPlantFile (file : PlainPlantFile) : Type 0 where
  pub name : is_sized 1 64 file.name ≡ true
  pub areas : list_all is_tag file.areas ≡ true
  pub areas_once : repeats bytes_eq file.areas ≡ false
  pub sources : list_all (is_sized 1 255) file.sources ≡ true
  pub sources_once : repeats bytes_eq file.sources ≡ false
  pub alarms : is_sized 1 255 file.alarms ≡ true
  pub consoles : All (IsConsole file.areas) file.consoles
  pub consoles_once : numbers_clash file.consoles ≡ false
