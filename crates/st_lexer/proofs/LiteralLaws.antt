-- Typed literals: the words that begin them, how many bytes they have, and their values.
use Rattle.std.proofs.Common.{◌≡◌, ℕ, zero, suc, ◌+◌, ◌^◌, ◌<◌, ◌≤◌, ◌==◌, nat_le, nat_lt, ℤ, Bool, true, false, not, ◌&&◌, ◌||◌, cond, List, [], ◌∷◌, ◌++◌, length, take, drop, Option, Some, None, refl, sym, ap, ◌∙◌, subst, arith, inl, inr, codes, FitsSigned, w32, length-take, length-take-le, length-drop}
use Rattle.std.specs.Char.{is_digit, to_ascii_lowercase}
use Rattle.std.specs.List.{list_all, list_any}
use Rattle.std.specs.Str.{bytes_eq}
use Rattle.std.proofs.lemmas.Bool.{and_parts, and_from, or_left, or_right, or_cases, or_from, cases_Bool, eqb-true, leb-true, ltb-true, le-leb, lt-ltb, false_from_ne_true, cond-true, cond-false}
use Rattle.std.proofs.lemmas.Bool.Decides.{nat_tests}
use Rattle.std.proofs.lemmas.List.{take-append-drop, take-append-le, drop-append-le, drop-drop, length-map, append-nil, take_all}
use Rattle.std.proofs.lemmas.List.Sums.{prefix_len-le-length}
use Rattle.std.proofs.lemmas.Option.{cond_some, same_Some, option_and_then_some}
use Rattle.plant_types.specs.Words.{is_letter, is_name_byte, is_name, folded, same_word}
use Rattle.st_lexer.specs.Bytes.{is_tied, begins_by, stands_apart}
use Rattle.st_lexer.specs.Numbers.{IsInteger}
use Rattle.st_lexer.specs.Literals.{begins_word, signed, IsSigned, unsigned, plus, minus, IsDint, is_truth}
use Rattle.plant_types.specs.Options.{◌>>=◌}
use Rattle.st_lexer.specs.ReadingLiterals.{parse_integer, signed_within, parse_dint, parse_truth, tied_len, signed_len, pointed_len, timed_len, lettered_len}
use Rattle.st_lexer.proofs.Classes.{same_folded, name_byte_folded, first_lower, truth_first, no_truth}
use Rattle.st_lexer.proofs.WordLaws.{tied_over, apart_none, tied_apart, name_tied}
use Rattle.st_lexer.proofs.NumberLaws.{integer_tied, integer_some, integer_sound, integer_complete}

abbrev hash : ℕ → Bool
hash b = b == 35

-- ---- letter case changes nothing
hash_folded_byte : (b : ℕ) → hash (to_ascii_lowercase b) ≡ hash b
hash_folded_byte b = grind (arith, nat_tests)

tied_folded_byte : (b : ℕ) → is_tied (to_ascii_lowercase b) ≡ is_tied b
unfolding is_tied
tied_folded_byte b = ap (λ x. x || hash (to_ascii_lowercase b)) (name_byte_folded b) ∙ ap (λ x. is_name_byte b || x) (hash_folded_byte b)

tied_folded : (bs : List ℕ) → list_all is_tied (folded bs) ≡ list_all is_tied bs
tied_folded [] = refl
tied_folded (b ∷ bs) = ap (λ x. x && list_all is_tied (folded bs)) (tied_folded_byte b) ∙ ap (λ x. is_tied b && x) (tied_folded bs)

hash_folded : (bs : List ℕ) → list_any hash (folded bs) ≡ list_any hash bs
hash_folded [] = refl
hash_folded (b ∷ bs) = ap (λ x. x || list_any hash (folded bs)) (hash_folded_byte b) ∙ ap (λ x. hash b || x) (hash_folded bs)

-- ---- a word that begins the bytes
pub record Fronted (word bs : List ℕ) : Type 0 where
  pub long : length word ≤ length bs
  pub same : folded (take (length word) bs) ≡ folded word

pub fronted : (word bs : List ℕ) → begins_word word bs ≡ true → Fronted word bs
fronted word bs h =
    let same = same_folded (take (length word) bs) word h in
    let size : length (take (length word) bs) ≡ length word = sym (length-map (take (length word) bs) to_ascii_lowercase) ∙ ap length same ∙ length-map word to_ascii_lowercase in
    let least = length-take (length word) bs in
    record { long = omega arith; same = same }

pub begins_on : (word bs rest : List ℕ) → begins_word word bs ≡ true → begins_word word (bs ++ rest) ≡ true
begins_on word bs rest h = ap (λ x. same_word x word) (take-append-le (length word) bs rest (fronted word bs h).long) ∙ h

front_tied : (word text : List ℕ) → begins_word word text ≡ true → list_all is_tied (folded word) ≡ true → list_all is_tied (take (length word) text) ≡ true
front_tied word text h tied = sym (tied_folded (take (length word) text)) ∙ ap (list_all is_tied) (fronted word text h).same ∙ tied

front_over : (word text : List ℕ) → begins_word word text ≡ true → list_all is_tied (folded word) ≡ true → tied_len text ≡ length word + tied_len (drop (length word) text)
front_over word text h tied =
    let size = length-take-le (length word) text (fronted word text h).long in
    ap tied_len (sym (take-append-drop (length word) text)) ∙ tied_over (take (length word) text) (drop (length word) text) (front_tied word text h tied) ∙ ap (λ n. n + tied_len (drop (length word) text)) size

-- ---- no word has a `#`
byte_no_hash : (b : ℕ) → is_name_byte b ≡ true → hash b ≡ false
byte_no_hash b h = grind (arith, nat_tests)

bytes_no_hash : (bs : List ℕ) → list_all is_name_byte bs ≡ true → (k : ℕ) → list_any hash (take k bs) ≡ false
bytes_no_hash [] h zero = refl
bytes_no_hash [] h (suc k) = refl
bytes_no_hash (b ∷ bs) h zero = refl
bytes_no_hash (b ∷ bs) h (suc k) =
    let parts = and_parts (is_name_byte b) (list_all is_name_byte bs) h in
    or_from (hash b) (list_any hash (take k bs)) (byte_no_hash b parts.0) (bytes_no_hash bs parts.1 k)

pub name_bytes : (bs : List ℕ) → is_name bs ≡ true → list_all is_name_byte bs ≡ true
name_bytes [] h = refl
name_bytes (b ∷ bs) h = let parts = and_parts (is_letter b) (list_all is_name_byte bs) h in and_from (is_name_byte b) (list_all is_name_byte bs) (or_left (is_letter b) _ parts.0) parts.1

pub name_no_hash : (bs : List ℕ) → is_name bs ≡ true → list_any hash bs ≡ false
name_no_hash bs h = ap (list_any hash) (sym (take_all (length bs) bs (omega arith))) ∙ bytes_no_hash bs (name_bytes bs h) (length bs)

-- so a word that stands apart isn't begun by one with a `#`
pub word_no_front : (word bs rest : List ℕ) → is_name bs ≡ true → stands_apart rest ≡ true → list_all is_tied (folded word) ≡ true → list_any hash (folded word) ≡ true → begins_word word (bs ++ rest) ≡ false
word_no_front word bs rest name apart tied hashed = false_from_ne_true (begins_word word (bs ++ rest)) (λ h.
    let over = front_over word (bs ++ rest) h tied in
    let own = tied_over bs rest (name_tied bs name) in
    let none = apart_none rest apart in
    let near : length word ≤ length bs = omega arith in
    let has : list_any hash (take (length word) (bs ++ rest)) ≡ true = sym (hash_folded (take (length word) (bs ++ rest))) ∙ ap (list_any hash) (fronted word (bs ++ rest) h).same ∙ hashed in
    no_truth (sym (bytes_no_hash bs (name_bytes bs name) (length word)) ∙ ap (list_any hash) (sym (take-append-le (length word) bs rest near)) ∙ has))

pub front_no_name : (word bs : List ℕ) → begins_word word bs ≡ true → list_all is_tied (folded word) ≡ true → list_any hash (folded word) ≡ true → is_name bs ≡ false
front_no_name word bs h tied hashed = false_from_ne_true (is_name bs) (λ name.
    no_truth (sym (word_no_front word bs [] name refl tied hashed) ∙ ap (begins_word word) (append-nil bs) ∙ h))

pub hash_no_name : (bs word : List ℕ) → same_word bs word ≡ true → list_any hash (folded word) ≡ true → is_name bs ≡ false
hash_no_name bs word h hashed = false_from_ne_true (is_name bs) (λ name.
    no_truth (sym (name_no_hash bs name) ∙ sym (hash_folded bs) ∙ ap (list_any hash) (same_folded bs word h) ∙ hashed))

-- ---- the three words exclude each other
not_both : (n a b : ℕ) → n ≡ a → n ≡ b → (a ≡ b → ⊥) → ⊥
not_both n a b x y no' = no' (sym x ∙ y)

apart_values : (n : ℕ) → n ≡ 100 → n ≡ 116 → ⊥
apart_values n x y = omega arith

apart_seconds : (n : ℕ) → n ≡ 35 → n ≡ 105 → ⊥
apart_seconds n x y = omega arith

second_lower : (w v : ℕ) (ws : List ℕ) (b c : ℕ) (bs : List ℕ) → begins_word (w ∷ v ∷ ws) (b ∷ c ∷ bs) ≡ true → to_ascii_lowercase c ≡ to_ascii_lowercase v
second_lower w v ws b c bs h = eqb-true (to_ascii_lowercase c) (to_ascii_lowercase v) (and_parts (to_ascii_lowercase c == to_ascii_lowercase v) (bytes_eq (folded (take (length ws) bs)) (folded ws)) (and_parts (to_ascii_lowercase b == to_ascii_lowercase w) _ h).1).0

pub short_no_dint : (text : List ℕ) → begins_word (codes "T#") text ≡ true → begins_word (codes "DINT#") text ≡ false
short_no_dint [] h = no_truth h
short_no_dint (b ∷ bs) h = false_from_ne_true _ (λ d. apart_values (to_ascii_lowercase b) (first_lower 68 (codes "INT#") b bs d) (first_lower 84 (codes "#") b bs h))

pub long_no_dint : (text : List ℕ) → begins_word (codes "TIME#") text ≡ true → begins_word (codes "DINT#") text ≡ false
long_no_dint [] h = no_truth h
long_no_dint (b ∷ bs) h = false_from_ne_true _ (λ d. apart_values (to_ascii_lowercase b) (first_lower 68 (codes "INT#") b bs d) (first_lower 84 (codes "IME#") b bs h))

pub long_no_short : (text : List ℕ) → begins_word (codes "TIME#") text ≡ true → begins_word (codes "T#") text ≡ false
long_no_short [] h = no_truth h
long_no_short (b ∷ []) h = let w = (fronted (codes "TIME#") (b ∷ []) h).long in absurd (omega arith)
long_no_short (b ∷ c ∷ bs) h = false_from_ne_true _ (λ s. apart_seconds (to_ascii_lowercase c) (second_lower 84 35 [] b c bs s) (second_lower 84 73 (codes "ME#") b c bs h))

-- ---- how far: the lengths by their cases
abbrev third_len : List ℕ → ℕ
third_len text = cond (begins_word (codes "TIME#") text) (5 + timed_len (drop 5 text)) (tied_len text)

abbrev second_len : List ℕ → ℕ
second_len text = cond (begins_word (codes "T#") text) (2 + timed_len (drop 2 text)) (third_len text)

pub dint_len : (text : List ℕ) → begins_word (codes "DINT#") text ≡ true → lettered_len text ≡ 5 + signed_len (drop 5 text)
unfolding lettered_len
dint_len text h = cond-true (begins_word (codes "DINT#") text) (5 + signed_len (drop 5 text)) (second_len text) h

pub short_len : (text : List ℕ) → begins_word (codes "T#") text ≡ true → lettered_len text ≡ 2 + timed_len (drop 2 text)
unfolding lettered_len
short_len text h = cond-false (begins_word (codes "DINT#") text) (5 + signed_len (drop 5 text)) (second_len text) (short_no_dint text h) ∙ cond-true (begins_word (codes "T#") text) (2 + timed_len (drop 2 text)) (third_len text) h

pub long_len : (text : List ℕ) → begins_word (codes "TIME#") text ≡ true → lettered_len text ≡ 5 + timed_len (drop 5 text)
unfolding lettered_len
long_len text h = cond-false (begins_word (codes "DINT#") text) (5 + signed_len (drop 5 text)) (second_len text) (long_no_dint text h) ∙ cond-false (begins_word (codes "T#") text) (2 + timed_len (drop 2 text)) (third_len text) (long_no_short text h) ∙ cond-true (begins_word (codes "TIME#") text) (5 + timed_len (drop 5 text)) (tied_len text) h

pub plain_len : (text : List ℕ) → begins_word (codes "DINT#") text ≡ false → begins_word (codes "T#") text ≡ false → begins_word (codes "TIME#") text ≡ false → lettered_len text ≡ tied_len text
unfolding lettered_len
plain_len text d s l = cond-false (begins_word (codes "DINT#") text) (5 + signed_len (drop 5 text)) (second_len text) d ∙ cond-false (begins_word (codes "T#") text) (2 + timed_len (drop 2 text)) (third_len text) s ∙ cond-false (begins_word (codes "TIME#") text) (5 + timed_len (drop 5 text)) (tied_len text) l

-- ---- how far: where a length ends
pub record IsEnd (text : List ℕ) (n : ℕ) : Type 0 where
  pub least : tied_len text ≤ n
  pub within : n ≤ length text
  pub ends : stands_apart (drop n text) ≡ true

tied_end : (text : List ℕ) → IsEnd text (tied_len text)
tied_end text = record { least = omega arith; within = prefix_len-le-length is_tied text; ends = tied_apart text }

tied_one : (b : ℕ) (bs : List ℕ) → tied_len (b ∷ bs) ≤ 1 + tied_len bs
tied_one b bs = elim (cases_Bool (is_tied b)) [
  | inl yes' ↦ (let e : tied_len (b ∷ bs) ≡ 1 + tied_len bs = cond-true (is_tied b) (1 + tied_len bs) 0 yes' in omega arith)
  | inr no' ↦ (let e : tied_len (b ∷ bs) ≡ 0 = cond-false (is_tied b) (1 + tied_len bs) 0 no' in omega arith)
]

tied_shift : (k : ℕ) (text : List ℕ) → tied_len text ≤ k + tied_len (drop k text)
tied_shift zero text = omega arith
tied_shift (suc k) [] = omega arith
tied_shift (suc k) (b ∷ bs) = let one = tied_one b bs in let more = tied_shift k bs in omega arith

after_end : (k : ℕ) (text : List ℕ) (n : ℕ) → k ≤ length text → IsEnd (drop k text) n → IsEnd text (k + n)
after_end k text n w e =
    let shift = tied_shift k text in
    let least = e.least in
    let within = e.within in
    let size = length-drop k text in
    record {
      least = omega arith;
      within = omega arith;
      ends = ap stands_apart (sym (drop-drop n k text)) ∙ e.ends;
    }

abbrev sign : ℕ → Bool
sign b = b == 45 || b == 43

sign_not_tied : (b : ℕ) → sign b ≡ true → is_tied b ≡ false
unfolding is_tied
sign_not_tied b h = elim (or_cases (b == 45) (b == 43) h) [
  | inl minus' ↦ ap (λ c. is_name_byte c || hash c) (eqb-true b 45 minus')
  | inr plus' ↦ ap (λ c. is_name_byte c || hash c) (eqb-true b 43 plus')
]

tied_no_sign : (b : ℕ) → is_tied b ≡ true → sign b ≡ false
tied_no_sign b h = false_from_ne_true (sign b) (λ s. no_truth (sym (sign_not_tied b s) ∙ h))

pub tied_no_minus : (b : ℕ) → is_tied b ≡ true → (b == 45) ≡ false
tied_no_minus b h = false_from_ne_true (b == 45) (λ m. no_truth (sym (sign_not_tied b (or_left (b == 45) (b == 43) m)) ∙ h))

tied_no_plus : (b : ℕ) → is_tied b ≡ true → (b == 43) ≡ false
tied_no_plus b h = false_from_ne_true (b == 43) (λ m. no_truth (sym (sign_not_tied b (or_right (b == 45) (b == 43) m)) ∙ h))

signed_over : (b : ℕ) (bs : List ℕ) → sign b ≡ true → signed_len (b ∷ bs) ≡ 1 + tied_len bs
unfolding signed_len
signed_over b bs h = cond-true (sign b) (1 + tied_len bs) (tied_len (b ∷ bs)) h

signed_none : (b : ℕ) (bs : List ℕ) → sign b ≡ false → signed_len (b ∷ bs) ≡ tied_len (b ∷ bs)
unfolding signed_len
signed_none b bs h = cond-false (sign b) (1 + tied_len bs) (tied_len (b ∷ bs)) h

signed_nil : signed_len [] ≡ 0
unfolding signed_len
signed_nil = refl

signed_end : (text : List ℕ) → IsEnd text (signed_len text)
signed_end [] = subst (λ n. IsEnd [] n) (sym signed_nil) (tied_end [])
signed_end (b ∷ bs) = elim (cases_Bool (sign b)) [
  | inl yes' ↦ subst (λ n. IsEnd (b ∷ bs) n) (sym (signed_over b bs yes')) (after_end 1 (b ∷ bs) (tied_len bs) (omega arith) (tied_end bs))
  | inr no' ↦ subst (λ n. IsEnd (b ∷ bs) n) (sym (signed_none b bs no')) (tied_end (b ∷ bs))
]

abbrev pub dot : ℕ → Bool
dot b = b == 46

pub pointed_point : (b : ℕ) (bs : List ℕ) → is_tied b ≡ true → (is_digit b 10 && begins_by dot bs) ≡ true → pointed_len (b ∷ bs) ≡ 2 + tied_len (drop 1 bs)
pointed_point b bs tied h = cond-true (is_tied b) (cond (is_digit b 10 && begins_by dot bs) (2 + tied_len (drop 1 bs)) (1 + pointed_len bs)) 0 tied ∙ cond-true (is_digit b 10 && begins_by dot bs) (2 + tied_len (drop 1 bs)) (1 + pointed_len bs) h

pub pointed_on : (b : ℕ) (bs : List ℕ) → is_tied b ≡ true → (is_digit b 10 && begins_by dot bs) ≡ false → pointed_len (b ∷ bs) ≡ 1 + pointed_len bs
pointed_on b bs tied h = cond-true (is_tied b) (cond (is_digit b 10 && begins_by dot bs) (2 + tied_len (drop 1 bs)) (1 + pointed_len bs)) 0 tied ∙ cond-false (is_digit b 10 && begins_by dot bs) (2 + tied_len (drop 1 bs)) (1 + pointed_len bs) h

pub pointed_stop : (b : ℕ) (bs : List ℕ) → is_tied b ≡ false → pointed_len (b ∷ bs) ≡ 0
pointed_stop b bs h = cond-false (is_tied b) (cond (is_digit b 10 && begins_by dot bs) (2 + tied_len (drop 1 bs)) (1 + pointed_len bs)) 0 h

zero_end : (b : ℕ) (bs : List ℕ) → is_tied b ≡ false → IsEnd (b ∷ bs) 0
zero_end b bs h = record {
  least = (let e : tied_len (b ∷ bs) ≡ 0 = cond-false (is_tied b) (1 + tied_len bs) 0 h in omega arith);
  within = omega arith;
  ends = ap not h;
}

begins_some : (bs : List ℕ) → begins_by dot bs ≡ true → 0 < length bs
begins_some [] h = no_truth h
begins_some (b ∷ bs) h = omega arith

pointed_end : (text : List ℕ) → IsEnd text (pointed_len text)
pointed_end [] = tied_end []
pointed_end (b ∷ bs) = elim (cases_Bool (is_tied b)) [
  | inl tied ↦ elim (cases_Bool (is_digit b 10 && begins_by dot bs)) [
    | inl point ↦
        let some = begins_some bs (and_parts (is_digit b 10) (begins_by dot bs) point).1 in
        subst (λ n. IsEnd (b ∷ bs) n) (sym (pointed_point b bs tied point)) (after_end 2 (b ∷ bs) (tied_len (drop 1 bs)) (omega arith) (tied_end (drop 1 bs)))
    | inr none ↦ subst (λ n. IsEnd (b ∷ bs) n) (sym (pointed_on b bs tied none)) (after_end 1 (b ∷ bs) (pointed_len bs) (omega arith) (pointed_end bs))
  ]
  | inr no' ↦ subst (λ n. IsEnd (b ∷ bs) n) (sym (pointed_stop b bs no')) (zero_end b bs no')
]

pub timed_back : (b : ℕ) (bs : List ℕ) → (b == 45) ≡ true → timed_len (b ∷ bs) ≡ 1 + pointed_len bs
unfolding timed_len
timed_back b bs h = cond-true (b == 45) (1 + pointed_len bs) (pointed_len (b ∷ bs)) h

pub timed_ahead : (b : ℕ) (bs : List ℕ) → (b == 45) ≡ false → timed_len (b ∷ bs) ≡ pointed_len (b ∷ bs)
unfolding timed_len
timed_ahead b bs h = cond-false (b == 45) (1 + pointed_len bs) (pointed_len (b ∷ bs)) h

timed_nil : timed_len [] ≡ 0
unfolding timed_len
timed_nil = refl

timed_end : (text : List ℕ) → IsEnd text (timed_len text)
timed_end [] = subst (λ n. IsEnd [] n) (sym timed_nil) (tied_end [])
timed_end (b ∷ bs) = elim (cases_Bool (b == 45)) [
  | inl yes' ↦ subst (λ n. IsEnd (b ∷ bs) n) (sym (timed_back b bs yes')) (after_end 1 (b ∷ bs) (pointed_len bs) (omega arith) (pointed_end bs))
  | inr no' ↦ subst (λ n. IsEnd (b ∷ bs) n) (sym (timed_ahead b bs no')) (pointed_end (b ∷ bs))
]

pub lettered_end : (text : List ℕ) → IsEnd text (lettered_len text)
lettered_end text = elim (cases_Bool (begins_word (codes "DINT#") text)) [
  | inl d ↦ subst (λ n. IsEnd text n) (sym (dint_len text d)) (after_end 5 text (signed_len (drop 5 text)) (fronted (codes "DINT#") text d).long (signed_end (drop 5 text)))
  | inr no_d ↦ elim (cases_Bool (begins_word (codes "T#") text)) [
    | inl s ↦ subst (λ n. IsEnd text n) (sym (short_len text s)) (after_end 2 text (timed_len (drop 2 text)) (fronted (codes "T#") text s).long (timed_end (drop 2 text)))
    | inr no_s ↦ elim (cases_Bool (begins_word (codes "TIME#") text)) [
      | inl l ↦ subst (λ n. IsEnd text n) (sym (long_len text l)) (after_end 5 text (timed_len (drop 5 text)) (fronted (codes "TIME#") text l).long (timed_end (drop 5 text)))
      | inr no_l ↦ subst (λ n. IsEnd text n) (sym (plain_len text no_d no_s no_l)) (tied_end text)
    ]
  ]
]

-- ---- how far: a literal goes to its end, and on over what is tied to it
unsigned_goes : (xs rest : List ℕ) (n : ℕ) → IsInteger xs n → signed_len (xs ++ rest) ≡ length xs + tied_len rest
unsigned_goes [] rest n h = absurd (integer_some n h)
unsigned_goes (x ∷ xs) rest n h =
    let tied = integer_tied (x ∷ xs) n h in
    signed_none x (xs ++ rest) (tied_no_sign x (and_parts (is_tied x) (list_all is_tied xs) tied).0) ∙ tied_over (x ∷ xs) rest tied

sign_goes : (s : ℕ) (digits rest : List ℕ) (n : ℕ) → sign s ≡ true → IsInteger digits n → signed_len (s ∷ (digits ++ rest)) ≡ suc (length digits) + tied_len rest
sign_goes s digits rest n h int =
    let over = tied_over digits rest (integer_tied digits n int) in
    let on = signed_over s (digits ++ rest) h in
    omega arith

signed_goes : (xs rest : List ℕ) (v : ℤ) → IsSigned xs v → signed_len (xs ++ rest) ≡ length xs + tied_len rest
signed_goes xs rest v (unsigned n int e) = unsigned_goes xs rest n int
signed_goes xs rest v (plus digits n is int e) = subst (λ z. signed_len (z ++ rest) ≡ length z + tied_len rest) (sym is) (sign_goes 43 digits rest n refl int)
signed_goes xs rest v (minus digits n is int e) = subst (λ z. signed_len (z ++ rest) ≡ length z + tied_len rest) (sym is) (sign_goes 45 digits rest n refl int)

pub dint_goes : (bs rest : List ℕ) (v : ℤ) → IsDint bs v → lettered_len (bs ++ rest) ≡ length bs + tied_len rest
dint_goes bs rest v h =
    let long = (fronted (codes "DINT#") bs h.prefix).long in
    let on = dint_len (bs ++ rest) (begins_on (codes "DINT#") bs rest h.prefix) in
    let cut = ap signed_len (drop-append-le 5 bs rest long) in
    let over = signed_goes (drop 5 bs) rest v h.is_signed in
    let size = length-drop 5 bs in
    on ∙ ap (λ n. 5 + n) (cut ∙ over) ∙ (let e : 5 + (length (drop 5 bs) + tied_len rest) ≡ length bs + tied_len rest = omega arith in e)

whole_tied : (bs word : List ℕ) → same_word bs word ≡ true → list_all is_tied (folded word) ≡ true → list_all is_tied bs ≡ true
whole_tied bs word h tied = sym (tied_folded bs) ∙ ap (list_all is_tied) (same_folded bs word h) ∙ tied

truth_tied : (value : Bool) (bs : List ℕ) → is_truth value bs ≡ true → list_all is_tied bs ≡ true
unfolding is_tied
truth_tied true bs h = elim (or_cases (same_word bs (codes "BOOL#1")) (same_word bs (codes "BOOL#TRUE")) h) [
  | inl one ↦ whole_tied bs (codes "BOOL#1") one refl
  | inr word ↦ whole_tied bs (codes "BOOL#TRUE") word refl
]
truth_tied false bs h = elim (or_cases (same_word bs (codes "BOOL#0")) (same_word bs (codes "BOOL#FALSE")) h) [
  | inl one ↦ whole_tied bs (codes "BOOL#0") one refl
  | inr word ↦ whole_tied bs (codes "BOOL#FALSE") word refl
]

pub truth_some : (value : Bool) → is_truth value [] ≡ true → ⊥
truth_some true h = no_truth h
truth_some false h = no_truth h

begins_other : (n : ℕ) → n ≡ 98 → n ≡ 100 → ⊥
begins_other n x y = omega arith

begins_else : (n : ℕ) → n ≡ 98 → n ≡ 116 → ⊥
begins_else n x y = omega arith

-- what begins with B is begun by none of the three words
pub record NoWord (text : List ℕ) : Type 0 where
  pub no_dint : begins_word (codes "DINT#") text ≡ false
  pub no_short : begins_word (codes "T#") text ≡ false
  pub no_long : begins_word (codes "TIME#") text ≡ false

pub no_word : (x : ℕ) (ys : List ℕ) → to_ascii_lowercase x ≡ 98 → NoWord (x ∷ ys)
no_word x ys b = record {
  no_dint = false_from_ne_true (begins_word (codes "DINT#") (x ∷ ys)) (λ d. begins_other (to_ascii_lowercase x) b (first_lower 68 (codes "INT#") x ys d));
  no_short = false_from_ne_true (begins_word (codes "T#") (x ∷ ys)) (λ s. begins_else (to_ascii_lowercase x) b (first_lower 84 (codes "#") x ys s));
  no_long = false_from_ne_true (begins_word (codes "TIME#") (x ∷ ys)) (λ l. begins_else (to_ascii_lowercase x) b (first_lower 84 (codes "IME#") x ys l));
}

pub truth_goes : (value : Bool) (bs rest : List ℕ) → is_truth value bs ≡ true → lettered_len (bs ++ rest) ≡ length bs + tied_len rest
truth_goes value [] rest h = absurd (truth_some value h)
truth_goes value (x ∷ xs) rest h =
    let none = no_word x (xs ++ rest) (truth_first value x xs h) in
    plain_len (x ∷ (xs ++ rest)) none.no_dint none.no_short none.no_long ∙ tied_over (x ∷ xs) rest (truth_tied value (x ∷ xs) h)

-- ---- values
above_fits : (n : ℕ) → n < 2147483648 → FitsSigned w32 (signed false n)
above_fits n h = record { sfits = h }

below_fits : (n : ℕ) → n ≤ 2147483648 → FitsSigned w32 (signed true n)
below_fits zero h = record { sfits = omega arith }
below_fits (suc n) h = record { sfits = omega arith }

above_bound : (n : ℕ) → FitsSigned w32 (signed false n) → n < 2147483648
above_bound n h = h.sfits

below_bound : (n : ℕ) → FitsSigned w32 (signed true n) → n ≤ 2147483648
below_bound zero h = omega arith
below_bound (suc n) h = let s = h.sfits in omega arith

dint_signed : (negative : Bool) (n : ℕ) (v : ℤ) → signed_within (2 ^ 31) negative n ≡ Some v → (v ≡ signed negative n) × FitsSigned w32 v
unfolding signed_within
dint_signed true n v h = let parts = cond_some (nat_le n 2147483648) (signed true n) v h in (sym parts.1, subst (λ z. FitsSigned w32 z) parts.1 (below_fits n (leb-true n 2147483648 parts.0)))
dint_signed false n v h = let parts = cond_some (nat_lt n 2147483648) (signed false n) v h in (sym parts.1, subst (λ z. FitsSigned w32 z) parts.1 (above_fits n (ltb-true n 2147483648 parts.0)))

dint_found : (negative : Bool) (n : ℕ) (v : ℤ) → v ≡ signed negative n → FitsSigned w32 v → signed_within (2 ^ 31) negative n ≡ Some v
unfolding signed_within
dint_found true n v e fits = cond-true (nat_le n 2147483648) (Some (signed true n)) None (le-leb n 2147483648 (below_bound n (subst (λ z. FitsSigned w32 z) e fits))) ∙ ap Some (sym e)
dint_found false n v e fits = cond-true (nat_lt n 2147483648) (Some (signed false n)) None (lt-ltb n 2147483648 (above_bound n (subst (λ z. FitsSigned w32 z) e fits))) ∙ ap Some (sym e)

-- the three ways in which a signed integer begins
abbrev minus_by : List ℕ → Option ℤ
minus_by digits = parse_integer digits >>= signed_within (2 ^ 31) true

abbrev plus_by : List ℕ → Option ℤ
plus_by digits = parse_integer digits >>= signed_within (2 ^ 31) false

by_minus : (x : ℕ) (xs : List ℕ) → (x == 45) ≡ true → parse_dint (x ∷ xs) ≡ minus_by xs
unfolding parse_dint
by_minus x xs h = cond-true (x == 45) (minus_by xs) (cond (x == 43) (plus_by xs) (plus_by (x ∷ xs))) h

by_plus : (x : ℕ) (xs : List ℕ) → (x == 45) ≡ false → (x == 43) ≡ true → parse_dint (x ∷ xs) ≡ plus_by xs
unfolding parse_dint
by_plus x xs no' h = cond-false (x == 45) (minus_by xs) (cond (x == 43) (plus_by xs) (plus_by (x ∷ xs))) no' ∙ cond-true (x == 43) (plus_by xs) (plus_by (x ∷ xs)) h

by_none : (x : ℕ) (xs : List ℕ) → (x == 45) ≡ false → (x == 43) ≡ false → parse_dint (x ∷ xs) ≡ plus_by (x ∷ xs)
unfolding parse_dint
by_none x xs no' none = cond-false (x == 45) (minus_by xs) (cond (x == 43) (plus_by xs) (plus_by (x ∷ xs))) no' ∙ cond-false (x == 43) (plus_by xs) (plus_by (x ∷ xs)) none

by_nil : parse_dint [] ≡ plus_by []
unfolding parse_dint
by_nil = refl

integer_signed : (negative : Bool) (digits : List ℕ) (v : ℤ) → (parse_integer digits >>= signed_within (2 ^ 31) negative) ≡ Some v → (n : ℕ) × IsInteger digits n × (v ≡ signed negative n) × FitsSigned w32 v
integer_signed negative digits v h = option_and_then_some (signed_within (2 ^ 31) negative) (parse_integer digits) v h (λ n e rest.
    let s = dint_signed negative n v rest in
    (n, integer_sound digits n e, s.0, s.1))

integer_found : (negative : Bool) (digits : List ℕ) (n : ℕ) (v : ℤ) → IsInteger digits n → v ≡ signed negative n → FitsSigned w32 v → (parse_integer digits >>= signed_within (2 ^ 31) negative) ≡ Some v
integer_found negative digits n v int e fits = ap (λ o. o >>= signed_within (2 ^ 31) negative) (integer_complete digits n int) ∙ dint_found negative n v e fits

pub dint_sound : (bs : List ℕ) (v : ℤ) → parse_dint bs ≡ Some v → IsSigned bs v × FitsSigned w32 v
dint_sound [] v h = let s = integer_signed false [] v (sym by_nil ∙ h) in absurd (integer_some s.0 s.1)
dint_sound (x ∷ xs) v h = elim (cases_Bool (x == 45)) [
  | inl is_minus ↦
      let s = integer_signed true xs v (sym (by_minus x xs is_minus) ∙ h) in
      (minus xs s.0 (ap (λ c. c ∷ xs) (eqb-true x 45 is_minus)) s.1 s.2, s.3)
  | inr no_minus ↦ elim (cases_Bool (x == 43)) [
    | inl is_plus ↦
        let s = integer_signed false xs v (sym (by_plus x xs no_minus is_plus) ∙ h) in
        (plus xs s.0 (ap (λ c. c ∷ xs) (eqb-true x 43 is_plus)) s.1 s.2, s.3)
    | inr no_plus ↦
        let s = integer_signed false (x ∷ xs) v (sym (by_none x xs no_minus no_plus) ∙ h) in
        (unsigned s.0 s.1 s.2, s.3)
  ]
]

unsigned_found : (bs : List ℕ) (n : ℕ) (v : ℤ) → IsInteger bs n → v ≡ signed false n → FitsSigned w32 v → parse_dint bs ≡ Some v
unsigned_found [] n v int e fits = absurd (integer_some n int)
unsigned_found (x ∷ xs) n v int e fits =
    let tied = (and_parts (is_tied x) (list_all is_tied xs) (integer_tied (x ∷ xs) n int)).0 in
    by_none x xs (tied_no_minus x tied) (tied_no_plus x tied) ∙ integer_found false (x ∷ xs) n v int e fits

pub dint_complete : (bs : List ℕ) (v : ℤ) → IsSigned bs v → FitsSigned w32 v → parse_dint bs ≡ Some v
dint_complete bs v (unsigned n int e) fits = unsigned_found bs n v int e fits
dint_complete bs v (plus digits n is int e) fits = ap parse_dint is ∙ by_plus 43 digits refl refl ∙ integer_found false digits n v int e fits
dint_complete bs v (minus digits n is int e) fits = ap parse_dint is ∙ by_minus 45 digits refl ∙ integer_found true digits n v int e fits

-- ---- truths
abbrev truth_of : List ℕ → Option Bool
truth_of word = cond (bytes_eq word (folded (codes "BOOL#1")) || bytes_eq word (folded (codes "BOOL#TRUE"))) (Some true) (cond (bytes_eq word (folded (codes "BOOL#0")) || bytes_eq word (folded (codes "BOOL#FALSE"))) (Some false) None)

truth_is : (bs : List ℕ) → parse_truth bs ≡ truth_of (folded bs)
unfolding parse_truth
truth_is bs = refl

pub truth_complete : (bs : List ℕ) (value : Bool) → is_truth value bs ≡ true → parse_truth bs ≡ Some value
truth_complete bs true h = truth_is bs ∙ elim (or_cases (same_word bs (codes "BOOL#1")) (same_word bs (codes "BOOL#TRUE")) h) as (λ _. truth_of (folded bs) ≡ Some true) [
  | inl one ↦ ap truth_of (same_folded bs (codes "BOOL#1") one)
  | inr word ↦ ap truth_of (same_folded bs (codes "BOOL#TRUE") word)
]
truth_complete bs false h = truth_is bs ∙ elim (or_cases (same_word bs (codes "BOOL#0")) (same_word bs (codes "BOOL#FALSE")) h) as (λ _. truth_of (folded bs) ≡ Some false) [
  | inl one ↦ ap truth_of (same_folded bs (codes "BOOL#0") one)
  | inr word ↦ ap truth_of (same_folded bs (codes "BOOL#FALSE") word)
]

abbrev false_by : List ℕ → Option Bool
false_by bs = cond (is_truth false bs) (Some false) None

pub truth_sound : (bs : List ℕ) (value : Bool) → parse_truth bs ≡ Some value → is_truth value bs ≡ true
unfolding parse_truth
truth_sound bs value h = elim (cases_Bool (is_truth true bs)) [
  | inl yes' ↦ subst (λ z. is_truth z bs ≡ true) (same_Some true value (sym (cond-true (is_truth true bs) (Some true) (false_by bs) yes') ∙ h)) yes'
  | inr no' ↦
      let parts = cond_some (is_truth false bs) false value (sym (cond-false (is_truth true bs) (Some true) (false_by bs) no') ∙ h) in
      subst (λ z. is_truth z bs ≡ true) parts.1 parts.0
]

pub truth_no_name : (value : Bool) (bs : List ℕ) → is_truth value bs ≡ true → is_name bs ≡ false
truth_no_name true bs h = elim (or_cases (same_word bs (codes "BOOL#1")) (same_word bs (codes "BOOL#TRUE")) h) [
  | inl one ↦ hash_no_name bs (codes "BOOL#1") one refl
  | inr word ↦ hash_no_name bs (codes "BOOL#TRUE") word refl
]
truth_no_name false bs h = elim (or_cases (same_word bs (codes "BOOL#0")) (same_word bs (codes "BOOL#FALSE")) h) [
  | inl one ↦ hash_no_name bs (codes "BOOL#0") one refl
  | inr word ↦ hash_no_name bs (codes "BOOL#FALSE") word refl
]
