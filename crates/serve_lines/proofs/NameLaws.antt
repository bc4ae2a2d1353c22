-- The bytes of a name are those of a text.
use Rattle.std.proofs.Common.{◌≡◌, ℕ, zero, suc, lit<, get_or, Bool, true, false, List, [], ◌∷◌, arith, ◌<◌, ◌&&◌}
use Rattle.std.specs.List.{list_all}
use Rattle.std.specs.Str.{IsUtf8}
use Rattle.std.proofs.lemmas.Str.{IsUtf8-from_ascii}
use Rattle.std.proofs.lemmas.Bool.Decides.{nat_tests}
use Rattle.plant_types.specs.Words.{is_name, is_name_byte, is_letter}

pub and_left : (a b : Bool) → (a && b) ≡ true → a ≡ true
and_left true b e = cc
and_left false b e = e

pub and_rest : (a b : Bool) → (a && b) ≡ true → b ≡ true
and_rest true b e = e
and_rest false b e = cc

letter_small : (b : ℕ) → is_letter b ≡ true → b < 128
letter_small b h = grind (arith, nat_tests)

byte_small : (b : ℕ) → is_name_byte b ≡ true → b < 128
byte_small b h = grind (arith, nat_tests)

all_small : (bs : List ℕ) → list_all is_name_byte bs ≡ true → (i : ℕ) → get_or bs i 0 < 128
all_small [] h i = lit< tt
all_small (b ∷ bs) h zero = byte_small b (and_left _ _ h)
all_small (b ∷ bs) h (suc i) = all_small bs (and_rest _ _ h) i

name_small : (name : List ℕ) → is_name name ≡ true → (i : ℕ) → get_or name i 0 < 128
name_small [] h i = lit< tt
name_small (b ∷ bs) h zero = letter_small b (and_left _ _ h)
name_small (b ∷ bs) h (suc i) = all_small bs (and_rest _ _ h) i

-- a name's bytes are ASCII, and so the bytes of a text
pub name_utf8 : (name : List ℕ) → is_name name ≡ true → IsUtf8 name
name_utf8 name h = IsUtf8-from_ascii name (name_small name h)
