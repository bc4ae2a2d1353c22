-- A number that std parses is the one that the definition reads.
use Rattle.std.proofs.Common.{◌≡◌, ◌<◌, ◌^◌, ◌&&◌, ℕ, Bool, true, false, refl, List, length, Option, Some, None, Result, Ok, Err, nat_lt, lt-ltb, ltb-true}
use Rattle.std.specs.Prelude.{option_and_then}
use Rattle.std.specs.Str.{all_ascii_digits}
use Rattle.std.specs.Str.Parse.{IsNumeral, ParsesUnsigned, digits_value, without_leading_plus}
use Rattle.std.proofs.lemmas.Str.Parse.{numerals_by_value, tells_all_ascii_digits}
use Rattle.clap.specs.Words.{ReadsOne}
use Rattle.serve_arguments.specs.Choices.{is_worker_count, worker_count}

both : (a b : Bool) → a ≡ true → b ≡ true → (a && b) ≡ true
both true b p q = q
both false b p q = p

left : (a b : Bool) → (a && b) ≡ true → a ≡ true
left true b e = refl
left false b e = e

right : (a b : Bool) → (a && b) ≡ true → b ≡ true
right true b e = e
right false b e = absurd (cc e)

abbrev Fits : List ℕ → Type 0
Fits ds = IsNumeral 10 ds × (digits_value 10 ds < 2 ^ 32)

fits : (text : List ℕ) → is_worker_count text ≡ true → Fits (without_leading_plus text)
fits text e =
    let ds = without_leading_plus text in
    let more = right (nat_lt 0 (length ds)) _ e in
    let own = numerals_by_value _ tells_all_ascii_digits in
    ((ltb-true 0 (length ds) (left (nat_lt 0 (length ds)) _ e), own.to ds (left (all_ascii_digits ds) _ more)), ltb-true (digits_value 10 ds) (2 ^ 32) (right (all_ascii_digits ds) _ more))

is_one : (text : List ℕ) → Fits (without_leading_plus text) → is_worker_count text ≡ true
is_one text f =
    let ds = without_leading_plus text in
    let own = numerals_by_value _ tells_all_ascii_digits in
    both (nat_lt 0 (length ds)) _ (lt-ltb 0 (length ds) f.0.0) (both (all_ascii_digits ds) _ (own.from ds f.0.1) (lt-ltb (digits_value 10 ds) (2 ^ 32) f.1))

module _ {E : Type 0} (gives : List ℕ → Result ℕ E → Type 0) (parses : (text : List ℕ) (r : Result ℕ E) → gives text r → ParsesUnsigned 32 10 text r) where
  read : (text : List ℕ) (r : Option ℕ) → ReadsOne gives text r → r ≡ worker_count text
  read text (Some n) h =
      let p = parses text (Ok n) h in
      let yes' = is_one text p.0 in
      rw (yes', p.1) refl
  read text None h = go (is_worker_count text) refl
    where
      go : (b : Bool) → is_worker_count text ≡ b → None ≡ worker_count text
      go true e = absurd (parses text (Err h.0) h.1 (fits text e))
      go false e = rw e refl

  pub worker_count_read : (o : Option (List ℕ)) (r : Option ℕ) → (o ≡ None → r ≡ None) → ((text : List ℕ) → o ≡ Some text → ReadsOne gives text r) → r ≡ option_and_then worker_count o
  worker_count_read None r none value = none refl
  worker_count_read (Some text) r none value = read text r (value text refl)
