-- The kind of piece that a first byte begins.
use Rattle.std.proofs.Common.{ℤ, ◌≡◌, ℕ, ◌==◌, Bool, true, false, ◌&&◌, ◌||◌, cond, List, [], ◌∷◌, length, take, drop, refl, sym, ap, ◌∙◌, subst, arith, ◌⊎◌, inl, inr, codes, nat_eq, bytes_eq, Option, Some, None}
use Rattle.std.specs.Char.{is_ascii_digit, is_digit, to_ascii_lowercase}
use Rattle.std.specs.List.{list_all, starts_with}
use Rattle.std.specs.Cmp.Lexicographic.{pointwise}
use Rattle.std.proofs.lemmas.Bool.{and_parts, or_cases, eqb-true, cases_Bool}
use Rattle.std.proofs.lemmas.Bool.Decides.{nat_tests}
use Rattle.std.proofs.lemmas.Option.{same_Some, none-some}
use Rattle.std.proofs.lemmas.Slice.Eq.{bytes_eq-Decides}
use Rattle.std.specs.Option.{option_map}
use Rattle.plant_types.specs.Words.{is_letter, is_name_byte, is_name, folded, same_word}
use Rattle.st_lexer.specs.declared.bytes.First.{First}
use Rattle.st_lexer.specs.declared.bytes.First.TheVariants as f
use Rattle.st_lexer.specs.declared.token.Keyword.{Keyword}
use Rattle.st_lexer.specs.declared.token.Keyword.TheVariants as k
use Rattle.st_lexer.specs.declared.token.Symbol.{Symbol}
use Rattle.st_lexer.specs.declared.token.Symbol.TheVariants as s
use Rattle.plant_types.specs.declared.values.Region.{Region}
use Rattle.st_lexer.specs.declared.token.TokenKind.{TokenKind}
use Rattle.st_lexer.specs.declared.token.TokenKind.TheVariants as t
use Rattle.st_lexer.specs.declared.piece.Piece.{Piece}
use Rattle.st_lexer.specs.declared.piece.Piece.TheVariants as p
use Rattle.st_lexer.specs.Bytes.{is_blank, begins_by, first_of, is_linked}
use Rattle.st_lexer.specs.Tables.{spelling, bytes_of}
use Rattle.st_lexer.specs.Numbers.{base_of, digits_of, is_number, IsInteger}
use Rattle.st_lexer.specs.Addresses.{is_address, is_place, is_size, same_letter, letter_of}
use Rattle.st_lexer.specs.Comments.{is_comment, is_closed, is_one_line}
use Rattle.st_lexer.specs.Literals.{begins_word, is_truth}
use Rattle.st_lexer.specs.Durations.{IsDuration, short, long}
use Rattle.st_lexer.specs.Spellings.{SpellsToken}
use Rattle.st_lexer.specs.Pieces.{IsPiece, is_one_blank}

-- false is not true
pub no_truth : {X : Type 0} → false ≡ true → X
no_truth e = absurd (cc)

-- what a map of an option comes from
pub map_some : {A B : Type 0} (g : A → B) (o : Option A) (y : B) → option_map g o ≡ Some y → (x : A) × (o ≡ Some x) × (g x ≡ y)
map_some g None y h = absurd (none-some y h)
map_some g (Some x) y h = (x, refl, same_Some (g x) y h)

-- the class of first bytes that a kind of token has
abbrev pub class_of_token : TokenKind → First
class_of_token (t.Integer n) = f.Digit
class_of_token (t.Address region) = f.Percent
class_of_token (t.Symbol symbol) = f.Mark
class_of_token _ = f.Letter

abbrev pub class_of : Piece → First
class_of p.Blank = f.Blank
class_of p.Comment = f.Mark
class_of (p.Token kind) = class_of_token kind

-- ---- bytes
blank_first : (b : ℕ) → is_blank b ≡ true → first_of b ≡ f.Blank
unfolding first_of
blank_first b h = ap (λ x. cond x f.Blank (cond (is_letter b) f.Letter (cond (is_ascii_digit b) f.Digit (cond (b == 37) f.Percent f.Mark)))) h

letter_not_blank : (b : ℕ) → is_letter b ≡ true → is_blank b ≡ false
unfolding is_blank
letter_not_blank b h = grind (arith, nat_tests)

digit_not_blank : (b : ℕ) → is_ascii_digit b ≡ true → is_blank b ≡ false
unfolding is_blank
digit_not_blank b h = grind (arith, nat_tests)

digit_not_letter : (b : ℕ) → is_ascii_digit b ≡ true → is_letter b ≡ false
digit_not_letter b h = grind (arith, nat_tests)

pub letter_first : (b : ℕ) → is_letter b ≡ true → first_of b ≡ f.Letter
unfolding first_of
letter_first b h = rw (letter_not_blank b h) (rw h refl)

pub digit_first : (b : ℕ) → is_ascii_digit b ≡ true → first_of b ≡ f.Digit
unfolding first_of
digit_first b h = rw (digit_not_blank b h) (rw (digit_not_letter b h) (rw h refl))

at_first : (b c : ℕ) (class : First) → (b == c) ≡ true → first_of c ≡ class → first_of b ≡ class
at_first b c class h is = ap first_of (eqb-true b c h) ∙ is

-- ---- words without letter case
letter_folded : (b : ℕ) → is_letter (to_ascii_lowercase b) ≡ is_letter b
letter_folded b = grind (arith, nat_tests)

pub name_byte_folded : (b : ℕ) → is_name_byte (to_ascii_lowercase b) ≡ is_name_byte b
name_byte_folded b = grind (arith, nat_tests)

name_bytes_folded : (bs : List ℕ) → list_all is_name_byte (folded bs) ≡ list_all is_name_byte bs
name_bytes_folded [] = refl
name_bytes_folded (b ∷ bs) = rw (name_byte_folded b) (ap (λ x. is_name_byte b && x) (name_bytes_folded bs))

name_folded : (bs : List ℕ) → is_name (folded bs) ≡ is_name bs
name_folded [] = refl
name_folded (b ∷ bs) = rw (letter_folded b) (ap (λ x. is_letter b && x) (name_bytes_folded bs))

spelling_is_name : (k : Keyword) → is_name (folded (spelling k)) ≡ true
spelling_is_name k.And = refl
spelling_is_name k.Array = refl
spelling_is_name k.At = refl
spelling_is_name k.Bool = refl
spelling_is_name k.By = refl
spelling_is_name k.Case = refl
spelling_is_name k.Dint = refl
spelling_is_name k.Do = refl
spelling_is_name k.Else = refl
spelling_is_name k.Elsif = refl
spelling_is_name k.EndCase = refl
spelling_is_name k.EndFor = refl
spelling_is_name k.EndFunctionBlock = refl
spelling_is_name k.EndIf = refl
spelling_is_name k.EndProgram = refl
spelling_is_name k.EndVar = refl
spelling_is_name k.False = refl
spelling_is_name k.For = refl
spelling_is_name k.FunctionBlock = refl
spelling_is_name k.If = refl
spelling_is_name k.Mod = refl
spelling_is_name k.Not = refl
spelling_is_name k.Of = refl
spelling_is_name k.Or = refl
spelling_is_name k.Program = refl
spelling_is_name k.Then = refl
spelling_is_name k.Time = refl
spelling_is_name k.To = refl
spelling_is_name k.True = refl
spelling_is_name k.Var = refl
spelling_is_name k.VarExternal = refl
spelling_is_name k.VarGlobal = refl
spelling_is_name k.VarInput = refl
spelling_is_name k.VarOutput = refl
spelling_is_name k.Xor = refl

pub same_folded : (a b : List ℕ) → same_word a b ≡ true → folded a ≡ folded b
same_folded a b h = (bytes_eq-Decides (folded a) (folded b)).0 h

-- a keyword has the form of a word
pub keyword_is_name : (bs : List ℕ) (k : Keyword) → same_word bs (spelling k) ≡ true → is_name bs ≡ true
keyword_is_name bs k h = sym (name_folded bs) ∙ ap is_name (same_folded bs (spelling k) h) ∙ spelling_is_name k

name_first : (b : ℕ) (bs : List ℕ) → is_name (b ∷ bs) ≡ true → first_of b ≡ f.Letter
name_first b bs h = letter_first b (and_parts (is_letter b) (list_all is_name_byte bs) h).0

-- ---- pieces
-- a comment is of one of three kinds
pub comment_cases : (a b : ℕ) (inner : List ℕ) → is_comment (a ∷ b ∷ inner) ≡ true →
    ((a ≡ 40) × (b ≡ 42) × (is_closed 41 inner ≡ true)) ⊎ (((a ≡ 47) × (b ≡ 42) × (is_closed 47 inner ≡ true)) ⊎ ((a ≡ 47) × (b ≡ 47) × (is_one_line inner ≡ true)))
comment_cases a b inner h = elim (or_cases ((a == 40 && b == 42 && is_closed 41 inner) || (a == 47 && b == 42 && is_closed 47 inner)) (a == 47 && b == 47 && is_one_line inner) h) [
  | inl first ↦ elim (or_cases (a == 40 && b == 42 && is_closed 41 inner) (a == 47 && b == 42 && is_closed 47 inner) first) [
    | inl round ↦ inl (parts 40 42 (is_closed 41 inner) round)
    | inr slashed ↦ inr (inl (parts 47 42 (is_closed 47 inner) slashed))
  ]
  | inr line ↦ inr (inr (parts 47 47 (is_one_line inner) line))
]
  where
    parts : (c d : ℕ) (t : Bool) → (a == c && b == d && t) ≡ true → (a ≡ c) × (b ≡ d) × (t ≡ true)
    parts c d t e =
        let front = and_parts (a == c && b == d) t e in
        let each = and_parts (a == c) (b == d) front.0 in
        (eqb-true a c each.0, eqb-true b d each.1, front.1)

comment_first : (b : ℕ) (bs : List ℕ) → is_comment (b ∷ bs) ≡ true → first_of b ≡ f.Mark
unfolding first_of is_blank
comment_first b [] h = absurd (let e : false ≡ true = h in cc)
comment_first b (c ∷ bs) h = elim (comment_cases b c bs h) [
  | inl round ↦ ap first_of round.0
  | inr other ↦ elim other [ inl slashed ↦ ap first_of slashed.0 | inr line ↦ ap first_of line.0 ]
]

same_heads : (b c : ℕ) (bs cs : List ℕ) → b ∷ bs ≡ c ∷ cs → first_of c ≡ f.Mark → first_of b ≡ f.Mark
same_heads b c bs cs e is = let same : b ≡ c = cc in ap first_of same ∙ is

pub symbol_first : (b : ℕ) (bs : List ℕ) (symbol : Symbol) → b ∷ bs ≡ bytes_of symbol → first_of b ≡ f.Mark
unfolding first_of is_blank
symbol_first b bs s.Becomes e = same_heads b 58 bs (61 ∷ []) e refl
symbol_first b bs s.Gives e = same_heads b 61 bs (62 ∷ []) e refl
symbol_first b bs s.AtMost e = same_heads b 60 bs (61 ∷ []) e refl
symbol_first b bs s.AtLeast e = same_heads b 62 bs (61 ∷ []) e refl
symbol_first b bs s.Unequal e = same_heads b 60 bs (62 ∷ []) e refl
symbol_first b bs s.Range e = same_heads b 46 bs (46 ∷ []) e refl
symbol_first b bs s.Colon e = same_heads b 58 bs ([]) e refl
symbol_first b bs s.Semicolon e = same_heads b 59 bs ([]) e refl
symbol_first b bs s.Comma e = same_heads b 44 bs ([]) e refl
symbol_first b bs s.Open e = same_heads b 40 bs ([]) e refl
symbol_first b bs s.Close e = same_heads b 41 bs ([]) e refl
symbol_first b bs s.OpenBracket e = same_heads b 91 bs ([]) e refl
symbol_first b bs s.CloseBracket e = same_heads b 93 bs ([]) e refl
symbol_first b bs s.Point e = same_heads b 46 bs ([]) e refl
symbol_first b bs s.Plus e = same_heads b 43 bs ([]) e refl
symbol_first b bs s.Minus e = same_heads b 45 bs ([]) e refl
symbol_first b bs s.Times e = same_heads b 42 bs ([]) e refl
symbol_first b bs s.Divide e = same_heads b 47 bs ([]) e refl
symbol_first b bs s.Ampersand e = same_heads b 38 bs ([]) e refl
symbol_first b bs s.Equal e = same_heads b 61 bs ([]) e refl
symbol_first b bs s.Less e = same_heads b 60 bs ([]) e refl
symbol_first b bs s.Greater e = same_heads b 62 bs ([]) e refl

-- the beginning of an integer shows its base
pub data Based (bs : List ℕ) : Type 0 where
  binary : starts_with nat_eq bs (codes "2#") ≡ true → base_of bs ≡ 2 → digits_of bs ≡ drop 2 bs → Based bs
  octal : starts_with nat_eq bs (codes "8#") ≡ true → base_of bs ≡ 8 → digits_of bs ≡ drop 2 bs → Based bs
  hexadecimal : starts_with nat_eq bs (codes "16#") ≡ true → base_of bs ≡ 16 → digits_of bs ≡ drop 3 bs → Based bs
  decimal : base_of bs ≡ 10 → digits_of bs ≡ bs → Based bs

pub based : (bs : List ℕ) → Based bs
based bs = elim (cases_Bool (starts_with nat_eq bs (codes "2#"))) [
  | inl two ↦ binary two (rw two refl) (rw two refl)
  | inr no_two ↦ elim (cases_Bool (starts_with nat_eq bs (codes "8#"))) [
    | inl eight ↦ octal eight (rw no_two (rw eight refl)) (rw no_two (rw eight refl))
    | inr no_eight ↦ elim (cases_Bool (starts_with nat_eq bs (codes "16#"))) [
      | inl sixteen ↦ hexadecimal sixteen (rw no_two (rw no_eight (rw sixteen refl))) (rw no_two (rw no_eight (rw sixteen refl)))
      | inr no_sixteen ↦ decimal (rw no_two (rw no_eight (rw no_sixteen refl))) (rw no_two (rw no_eight (rw no_sixteen refl)))
    ]
  ]
]

decimal_digit : (b : ℕ) → is_digit b 10 ≡ true → is_ascii_digit b ≡ true
decimal_digit b h = grind (arith, nat_tests)

starts_head : (b c : ℕ) (bs cs : List ℕ) → starts_with nat_eq (b ∷ bs) (c ∷ cs) ≡ true → b ≡ c
starts_head b c bs cs h = sym (eqb-true c b (and_parts (c == b) (pointwise nat_eq cs (take (length cs) bs)) h).0)

integer_first : (b : ℕ) (bs : List ℕ) (n : ℕ) → IsInteger (b ∷ bs) n → first_of b ≡ f.Digit
unfolding first_of is_blank
integer_first b bs n h = elim (based (b ∷ bs)) [
  | binary starts base digits ↦ ap first_of (starts_head b 50 bs (35 ∷ []) starts)
  | octal starts base digits ↦ ap first_of (starts_head b 56 bs (35 ∷ []) starts)
  | hexadecimal starts base digits ↦ ap first_of (starts_head b 49 bs (54 ∷ 35 ∷ []) starts)
  | decimal base digits ↦
      let number : is_number 10 (b ∷ bs) ≡ true = subst (λ d. is_number 10 d ≡ true) digits (subst (λ x. is_number x (digits_of (b ∷ bs)) ≡ true) base h.digits) in
      digit_first b (decimal_digit b (and_parts (is_digit b 10) (is_linked (λ c. is_digit c 10) 95 (b ∷ bs)) number).0)
]

address_first : (b : ℕ) (bs : List ℕ) (region : Region) → is_address region (b ∷ bs) ≡ true → first_of b ≡ f.Percent
unfolding first_of is_blank
address_first b [] region h = absurd (let e : false ≡ true = h in cc)
address_first b (l ∷ bs) region h = ap first_of (eqb-true b 37 (and_parts (b == 37) (same_letter l (letter_of region)) (and_parts (b == 37 && same_letter l (letter_of region)) (is_place bs || (begins_by is_size bs && is_place (drop 1 bs))) h).0).0)

blank_is_first : (b : ℕ) (bs : List ℕ) → is_one_blank (b ∷ bs) ≡ true → first_of b ≡ f.Blank
blank_is_first b [] h = blank_first b h
blank_is_first b (c ∷ bs) h = absurd (let e : false ≡ true = h in cc)

-- the first byte of a word that begins the bytes
pub first_lower : (w : ℕ) (ws : List ℕ) (b : ℕ) (bs : List ℕ) → begins_word (w ∷ ws) (b ∷ bs) ≡ true → to_ascii_lowercase b ≡ to_ascii_lowercase w
first_lower w ws b bs h = eqb-true (to_ascii_lowercase b) (to_ascii_lowercase w) (and_parts (to_ascii_lowercase b == to_ascii_lowercase w) (bytes_eq (folded (take (length ws) bs)) (folded ws)) h).0

pub whole_lower : (w : ℕ) (ws : List ℕ) (b : ℕ) (bs : List ℕ) → same_word (b ∷ bs) (w ∷ ws) ≡ true → to_ascii_lowercase b ≡ to_ascii_lowercase w
whole_lower w ws b bs h = eqb-true (to_ascii_lowercase b) (to_ascii_lowercase w) (and_parts (to_ascii_lowercase b == to_ascii_lowercase w) (bytes_eq (folded bs) (folded ws)) h).0

pub lower_first : (b c : ℕ) → is_letter c ≡ true → to_ascii_lowercase b ≡ c → first_of b ≡ f.Letter
lower_first b c letter e = letter_first b (sym (letter_folded b) ∙ ap is_letter e ∙ letter)

pub truth_first : (value : Bool) (b : ℕ) (bs : List ℕ) → is_truth value (b ∷ bs) ≡ true → to_ascii_lowercase b ≡ 98
truth_first true b bs h = elim (or_cases (same_word (b ∷ bs) (codes "BOOL#1")) (same_word (b ∷ bs) (codes "BOOL#TRUE")) h) [
  | inl one ↦ whole_lower 66 (codes "OOL#1") b bs one
  | inr word ↦ whole_lower 66 (codes "OOL#TRUE") b bs word
]
truth_first false b bs h = elim (or_cases (same_word (b ∷ bs) (codes "BOOL#0")) (same_word (b ∷ bs) (codes "BOOL#FALSE")) h) [
  | inl one ↦ whole_lower 66 (codes "OOL#0") b bs one
  | inr word ↦ whole_lower 66 (codes "OOL#FALSE") b bs word
]

pub duration_first : (b : ℕ) (bs : List ℕ) (value : ℤ) → IsDuration (b ∷ bs) value → to_ascii_lowercase b ≡ 116
duration_first b bs value (short begins timed fits) = first_lower 84 (codes "#") b bs begins
duration_first b bs value (long begins timed fits) = first_lower 84 (codes "IME#") b bs begins

token_first : (kind : TokenKind) (b : ℕ) (bs : List ℕ) → SpellsToken kind (b ∷ bs) → first_of b ≡ class_of_token kind
token_first t.Word b bs h = name_first b bs h.form
token_first (t.Keyword k) b bs h = name_first b bs (keyword_is_name (b ∷ bs) k h)
token_first (t.Integer n) b bs h = integer_first b bs n h
token_first (t.Dint value) b bs h = lower_first b 100 refl (first_lower 68 (codes "INT#") b bs h.prefix)
token_first (t.Truth value) b bs h = lower_first b 98 refl (truth_first value b bs h)
token_first (t.Duration value) b bs h = lower_first b 116 refl (duration_first b bs value h)
token_first (t.Address region) b bs h = address_first b bs region h
token_first (t.Symbol symbol) b bs h = symbol_first b bs symbol h

-- the first byte of a piece is of its kind's class
pub opens : (piece : Piece) (b : ℕ) (bs : List ℕ) → IsPiece piece (b ∷ bs) → first_of b ≡ class_of piece
opens p.Blank b bs h = blank_is_first b bs h
opens p.Comment b bs h = comment_first b bs h
opens (p.Token kind) b bs h = token_first kind b bs h
