-- Paths by numbers: each has one, by that of the path that it goes on from and that of its first name's word.
use Rattle.std.specs.Prelude.{◌≡◌, ◌<◌, ◌≤◌, ◌+◌, ◌*◌, ℕ, ℤ, pos, ◌+ℤ◌, Option, Some, None, List, [], ◌∷◌}
use Rattle.plant_types.specs.Words.{folded}
use Rattle.plant_types.specs.declared.values.Bounds.{Bounds}
use Rattle.plant_types.specs.Values.{Path}
use Rattle.logic_source.specs.Worlds.{index_word}

-- what has a number in a table has the same in a later one
abbrev pub Grows : {K : Type 0} → (K → Option ℕ) → (K → Option ℕ) → Type 0
Grows {K} old new = (k : K) (n : ℕ) → old k ≡ Some n → new k ≡ Some n

-- the key of a path in a table: by the numbers of the path that it goes on from and of its first name's word
abbrev pub path_key : ℕ → ℕ → ℕ
path_key parent word = parent * 18446744073709551616 + word

-- a table of paths has each number once, and none of them is 0, which is that of the empty path
pub record AreNumbered (numbers : ℕ → Option ℕ) (count : ℕ) : Type 0 where
  pub from_one : (key n : ℕ) → numbers key ≡ Some n → 1 ≤ n
  pub within : (key n : ℕ) → numbers key ≡ Some n → n ≤ count
  pub once : (key other n : ℕ) → numbers key ≡ Some n → numbers other ≡ Some n → key ≡ other

-- a word is that of a number
pub record HasWord (words : List ℕ → Option ℕ) (word : ℕ) (name : List ℕ) : Type 0 where
  pub spelled : List ℕ
  pub same : folded spelled ≡ name
  pub found : words spelled ≡ Some word
  pub small : word < 9223372036854775808

-- a path has a number: the empty one 0, and each other that of its key
abbrev pub IsAt : (List ℕ → Option ℕ) → (ℕ → Option ℕ) → ℕ → Path → Type 0
IsAt words numbers n [] = n ≡ 0
IsAt words numbers n (name ∷ path) = (parent : ℕ) × (word : ℕ) × HasWord words word name × (numbers (path_key parent word) ≡ Some n) × IsAt words numbers parent path

-- a table of words has one number for a word in any letter case
abbrev pub Respects : (List ℕ → Option ℕ) → Type 0
Respects words = (a b : List ℕ) → folded a ≡ folded b → words a ≡ words b

-- and one word for a number
abbrev pub TellsWords : (List ℕ → Option ℕ) → Type 0
TellsWords words = (a b : List ℕ) (n : ℕ) → words a ≡ Some n → words b ≡ Some n → folded a ≡ folded b

-- how far an index is from the least one
abbrev pub IsIndex : ℤ → ℕ → Type 0
IsIndex index shift = pos shift ≡ index +ℤ pos 2147483648

-- the number that stands for an array's element in the place of a word's, by how far its index is from the least one: all numbers of words are below
abbrev pub element_word : ℕ → ℕ
element_word shift = 9223372036854775808 + shift

-- the path of an array's element has a number: that of the key of the array's path and of the element's index
pub record IsElement (words : List ℕ → Option ℕ) (numbers : ℕ → Option ℕ) (n : ℕ) (path : Path) : Type 0 where
  pub index : ℤ
  pub shift : ℕ
  pub shift_is : IsIndex index shift
  pub array : Path
  pub path_is : path ≡ index_word index ∷ array
  pub parent : ℕ
  pub array_at : IsAt words numbers parent array
  pub found : numbers (path_key parent (element_word shift)) ≡ Some n
  pub small : shift < 9223372036854775808

-- a value has the number of its path: a variable, or an element of an array
abbrev pub IsPlace : (List ℕ → Option ℕ) → (ℕ → Option ℕ) → ℕ → Path → Option Bounds → Type 0
IsPlace words numbers n path None = IsAt words numbers n path
IsPlace words numbers n path (Some bounds) = IsElement words numbers n path
