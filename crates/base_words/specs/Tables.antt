-- Names in a list, and which of them is one with a name.
use Rattle.std.specs.Prelude.{◌*◌, ◌%◌, ℕ, Bool, List, Option, position, fold, bit_xor}
use Rattle.std.specs.List.{list_any}
use Rattle.std.specs.Str.{bytes_eq}
use Rattle.plant_types.specs.Words.{folded}
use Rattle.base_words.specs.declared.table.Case.{Case}
use Rattle.base_words.specs.declared.table.Case.TheVariants as case

-- what two names have alike that are one: their bytes, and where letter case has no meaning these in small letters
abbrev pub key : Case → List ℕ → List ℕ
key case.Counts name = name
key case.HasNoMeaning name = folded name

-- whether two names are one
abbrev pub is_alike : Case → List ℕ → List ℕ → Bool
is_alike letters a b = bytes_eq (key letters a) (key letters b)

-- names, and whether letter case has a meaning in them
pub record PlainTable : Type 0 where
  pub letters : Case
  pub names : List (List ℕ)

-- the number of the first name that is one with this
abbrev pub number_of : PlainTable → List ℕ → Option ℕ
number_of table name = position (is_alike table.letters name) table.names

-- whether a name is one with one of them
abbrev pub has_name : PlainTable → List ℕ → Bool
has_name table name = list_any (is_alike table.letters name) table.names

-- a hash with one more byte, of 32 bits (FNV-1a)
abbrev pub mixed : ℕ → ℕ → ℕ
mixed hash byte = bit_xor hash byte * 16777619 % 4294967296

-- a name's hash: of its bytes in small letters
unfoldable pub hash_of : List ℕ → ℕ
hash_of name = fold mixed 2166136261 (folded name)
