-- Names and keywords, in which letter case has no meaning; and tags.
use Rattle.std.specs.Prelude.{◌==◌, ◌||◌, ◌&&◌, ◌∷◌, [], List, ℕ, nat_le, Bool, false, length, map}
use Rattle.std.specs.List.{list_all}
use Rattle.std.specs.Str.{bytes_eq}
use Rattle.std.specs.Char.{is_ascii_digit, is_ascii_alphabetic, is_ascii_alphanumeric, to_ascii_lowercase}

-- a word in lower case
abbrev pub folded : List ℕ → List ℕ
folded word = map to_ascii_lowercase word

-- whether two words are the same in lower case
abbrev pub same_word : List ℕ → List ℕ → Bool
same_word a b = bytes_eq (folded a) (folded b)

-- whether a name may begin with this byte: a letter or an underscore
abbrev pub is_letter : ℕ → Bool
is_letter b = is_ascii_alphabetic b || (b == 95)

-- whether a name may go on with this byte: a letter, an underscore or a digit
abbrev pub is_name_byte : ℕ → Bool
is_name_byte b = is_letter b || is_ascii_digit b

-- whether bytes have the form of a name: a letter or underscore, then letters, digits and underscores
abbrev pub is_name : List ℕ → Bool
is_name [] = false
is_name (b ∷ bs) = is_letter b && list_all is_name_byte bs

-- a text of so many bytes
abbrev pub is_sized : (low high : ℕ) → List ℕ → Bool
is_sized low high text = nat_le low (length text) && nat_le (length text) high

-- whether a tag may have a byte: an ASCII letter, digit, `_`, `-` or `.`
abbrev pub is_tag_byte : ℕ → Bool
is_tag_byte b = is_ascii_alphanumeric b || (b == 95) || (b == 45) || (b == 46)

-- whether a text has the form of a tag, or of the name of an area: 1 to 32 such bytes
abbrev pub is_tag : List ℕ → Bool
is_tag text = is_sized 1 32 text && list_all is_tag_byte text
