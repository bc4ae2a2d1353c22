-- Which fields are UTF-8.
use Rattle.std.proofs.Common.{◌≡◌, ℕ, zero, suc, lit<, get_or, Bool, true, false, List, [], ◌∷◌, arith, ◌<◌, ◌&&◌, sym, inl, inr, Result, Ok, Err}
use Rattle.std.specs.Prelude.{MatchResult, is_ok, nat_le, length, ◌||◌}
use Rattle.std.specs.List.{list_all}
use Rattle.std.specs.Str.{IsUtf8, is_utf8}
use Rattle.std.proofs.lemmas.Bool.{cases_Bool}
use Rattle.std.proofs.lemmas.Bool.Decides.{nat_tests}
use Rattle.std.proofs.lemmas.Str.{IsUtf8-nil, IsUtf8-from_ascii, IsUtf8-from_is_utf8, is_utf8-from_IsUtf8}
use Rattle.plant_types.specs.Words.{is_name, is_name_byte, is_letter, is_tag, is_tag_byte}
use Rattle.alarm_db.specs.Forms.{is_empty, is_text, is_text_byte}

-- the test of a text as UTF-8
pub utf8_test : {S E : Type 0} (P : S → Type 0) (Q : E → Type 0) (bs : List ℕ) (r : Result S E) → MatchResult r (λ s. P s × IsUtf8 bs) (λ e. ¬ (IsUtf8 bs) × Q e) → is_ok r ≡ is_utf8 bs
utf8_test P Q bs (Ok s) h = sym (is_utf8-from_IsUtf8 bs h.1)
utf8_test P Q bs (Err e) h =
    elim (cases_Bool (is_utf8 bs)) [
      | inl so ↦ absurd (h.0 (IsUtf8-from_is_utf8 bs so))
      | inr not_so ↦ sym not_so
    ]

pub and_left : (a b : Bool) → (a && b) ≡ true → a ≡ true
and_left true b e = cc
and_left false b e = e

pub and_right : (a b : Bool) → (a && b) ≡ true → b ≡ true
and_right true b e = e
and_right false b e = cc

-- bytes that pass a test of ASCII bytes are ASCII
all_small : (p : ℕ → Bool) → ((b : ℕ) → p b ≡ true → b < 128) → (bs : List ℕ) → list_all p bs ≡ true → (i : ℕ) → get_or bs i 0 < 128
all_small p small [] h i = lit< tt
all_small p small (b ∷ bs) h zero = small b (and_left _ _ h)
all_small p small (b ∷ bs) h (suc i) = all_small p small bs (and_right _ _ h) i

tag_byte_small : (b : ℕ) → is_tag_byte b ≡ true → b < 128
tag_byte_small b h = grind (arith, nat_tests)

letter_small : (b : ℕ) → is_letter b ≡ true → b < 128
letter_small b h = grind (arith, nat_tests)

name_byte_small : (b : ℕ) → is_name_byte b ≡ true → b < 128
name_byte_small b h = grind (arith, nat_tests)

name_small : (name : List ℕ) → is_name name ≡ true → (i : ℕ) → get_or name i 0 < 128
name_small [] h i = lit< tt
name_small (b ∷ bs) h zero = letter_small b (and_left _ _ h)
name_small (b ∷ bs) h (suc i) = all_small is_name_byte name_byte_small bs (and_right _ _ h) i

pub tag_utf8 : (field : List ℕ) → is_tag field ≡ true → IsUtf8 field
tag_utf8 field h = IsUtf8-from_ascii field (all_small is_tag_byte tag_byte_small field (and_right (nat_le 1 (length field) && nat_le (length field) 32) (list_all is_tag_byte field) h))

pub name_utf8 : (field : List ℕ) → is_name field ≡ true → IsUtf8 field
name_utf8 field h = IsUtf8-from_ascii field (name_small field h)

pub text_utf8 : (field : List ℕ) → is_text field ≡ true → IsUtf8 field
text_utf8 field h = IsUtf8-from_is_utf8 field (and_right (nat_le (length field) 200 && list_all is_text_byte field) (is_utf8 field) h)

pub word_utf8 : (field : List ℕ) → (is_empty field || is_name field) ≡ true → IsUtf8 field
word_utf8 [] h = IsUtf8-nil
word_utf8 (b ∷ bs) h = name_utf8 (b ∷ bs) h
