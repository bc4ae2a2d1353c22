-- What the code finds is the next piece, and where it finds none there is none.
use Rattle.std.proofs.Common.{ℤ, ◌≡◌, ℕ, zero, suc, ◌+◌, ◌<◌, ◌≤◌, ◌==◌, Bool, true, false, not, ◌&&◌, ◌||◌, cond, IsTrue, List, [], ◌∷◌, ◌++◌, length, take, drop, Option, Some, None, refl, sym, ap, ◌∙◌, subst, arith, ◌⊎◌, inl, inr, length-take-le, IfSome, IfNone}
use Rattle.std.specs.Char.{is_ascii_digit}
use Rattle.std.specs.Option.{option_map}
use Rattle.std.specs.List.{list_all}
use Rattle.std.proofs.lemmas.Bool.{and_parts, and_from, or_left, or_cases, cases_Bool, cases_lt, eqb-true, false_from_ne_true, cond-true, cond-false}
use Rattle.std.proofs.lemmas.List.{take-append-drop}
use Rattle.std.proofs.lemmas.List.Sums.{prefix_len-le-length}
use Rattle.std.proofs.lemmas.Option.{cond_some, same_Some, none-some, option_and_then_some, some_pair_parts}
use Rattle.plant_types.specs.Words.{is_letter}
use Rattle.st_lexer.specs.declared.bytes.First.{First}
use Rattle.st_lexer.specs.declared.bytes.First.TheVariants as f
use Rattle.st_lexer.specs.declared.token.Symbol.{Symbol}
use Rattle.plant_types.specs.declared.values.Region.{Region}
use Rattle.st_lexer.specs.declared.token.TokenKind.{TokenKind}
use Rattle.st_lexer.specs.declared.token.TokenKind.TheVariants as t
use Rattle.st_lexer.specs.declared.piece.Piece.{Piece}
use Rattle.st_lexer.specs.declared.piece.Piece.TheVariants as p
use Rattle.st_lexer.specs.Bytes.{is_blank, is_tied, stands_apart, first_of}
use Rattle.st_lexer.specs.Tables.{bytes_of}
use Rattle.st_lexer.specs.Addresses.{is_address}
use Rattle.st_lexer.specs.Comments.{is_closed, is_one_line, is_comment, begins_comment}
use Rattle.st_lexer.specs.Durations.{IsDuration, short, long}
use Rattle.st_lexer.specs.Spellings.{SpellsToken}
use Rattle.st_lexer.specs.Pieces.{is_one_blank, IsPiece, token_may_precede, may_precede, IsNext, IsOver}
use Rattle.plant_types.specs.Options.{◌>>=◌}
use Rattle.st_lexer.specs.ReadingLiterals.{parse_integer, tied_len, lettered_len}
use Rattle.st_lexer.specs.Reading.{word_or_literal, integer_token, parse_address, next_address, closing_len, line_len, single_symbol, double_symbol, symbol_piece, as_symbol, as_comment, first_some, next_mark, front_token, next_by_class, next_piece}
use Rattle.st_lexer.proofs.Classes.{class_of, class_of_token, opens, comment_cases, keyword_is_name, no_truth, map_some}
use Rattle.st_lexer.proofs.WordLaws.{tied_over, apart_none, tied_apart}
use Rattle.st_lexer.proofs.NumberLaws.{integer_tied, integer_some, integer_sound, integer_complete}
use Rattle.st_lexer.proofs.LiteralLaws.{lettered_end, truth_some}
use Rattle.st_lexer.proofs.LetterLaws.{letter_sound, letter_complete, letter_reach, letter_exact}
use Rattle.st_lexer.proofs.AddressLaws.{Reaches, address_reach, address_is}
use Rattle.st_lexer.proofs.MarkLaws.{closing_found, closing_is, line_reach, line_is, comment_begins, single_found, double_found, symbol_length, single_is, double_is}

abbrev pub Found : Type 0
Found = Piece × ℕ

-- ---- a piece has bytes
duration_some : (value : ℤ) → IsDuration [] value → ⊥
duration_some value (short begins timed fits) = no_truth begins
duration_some value (long begins timed fits) = no_truth begins

spells_none : (kind : TokenKind) → SpellsToken kind [] → ⊥
spells_none t.Word h = no_truth h.form
spells_none (t.Keyword k) h = no_truth (keyword_is_name [] k h)
spells_none (t.Integer n) h = integer_some n h
spells_none (t.Dint value) h = no_truth h.prefix
spells_none (t.Truth value) h = truth_some value h
spells_none (t.Duration value) h = duration_some value h
spells_none (t.Address region) h = no_truth h
spells_none (t.Symbol symbol) h = let l = ap length h in let some = (symbol_length symbol).0 in omega arith

fits_none : (piece : Piece) → IsPiece piece [] → ⊥
fits_none p.Blank h = no_truth h
fits_none p.Comment h = no_truth h
fits_none (p.Token kind) h = spells_none kind h

pub fits_some : (piece : Piece) (n : ℕ) (text : List ℕ) → IsPiece piece (take n text) → 0 < n
fits_some piece zero text h = absurd (fits_none piece h)
fits_some piece (suc n) text h = omega arith

-- its first byte is of its class
opens_at : (piece : Piece) (b : ℕ) (bs : List ℕ) (m : ℕ) → IsPiece piece (take m (b ∷ bs)) → first_of b ≡ class_of piece
opens_at piece b bs zero h = absurd (fits_none piece h)
opens_at piece b bs (suc m) h = opens piece b (take m bs) h

-- what begins a comment is a mark
comment_mark : (b : ℕ) (bs : List ℕ) → begins_comment (b ∷ bs) ≡ true → first_of b ≡ f.Mark
unfolding first_of is_blank
comment_mark b [] h = no_truth h
comment_mark b (c ∷ bs) h = elim (or_cases (b == 40 && c == 42) (b == 47 && (c == 42 || c == 47)) h) [
  | inl round ↦ ap first_of (eqb-true b 40 (and_parts (b == 40) (c == 42) round).0)
  | inr slash ↦ ap first_of (eqb-true b 47 (and_parts (b == 47) (c == 42 || c == 47) slash).0)
]

-- ---- blanks
blank_class : (piece : Piece) → class_of piece ≡ f.Blank → piece ≡ p.Blank
blank_class p.Blank e = refl
blank_class p.Comment e = absurd (cc)
blank_class (p.Token (t.Integer n)) e = absurd (cc)
blank_class (p.Token (t.Address region)) e = absurd (cc)
blank_class (p.Token (t.Symbol symbol)) e = absurd (cc)
blank_class (p.Token _) e = absurd (cc)

one_at : (b : ℕ) (bs : List ℕ) (m : ℕ) → is_one_blank (take m (b ∷ bs)) ≡ true → m ≤ length (b ∷ bs) → m ≡ 1
one_at b bs zero h w = no_truth h
one_at b bs (suc zero) h w = refl
one_at b [] (suc (suc m)) h w = absurd (omega arith)
one_at b (c ∷ bs) (suc (suc m)) h w = no_truth h

blank_else : (b : ℕ) → is_blank b ≡ false → first_of b ≡ f.Blank → ⊥
unfolding first_of
blank_else b no' h = elim (cases_Bool (is_letter b)) [
  | inl letter ↦ absurd (let e : f.Letter ≡ f.Blank = sym (rw no' (rw letter refl)) ∙ h in cc)
  | inr no_letter ↦ elim (cases_Bool (is_ascii_digit b)) [
    | inl digit ↦ absurd (let e : f.Digit ≡ f.Blank = sym (rw no' (rw no_letter (rw digit refl))) ∙ h in cc)
    | inr no_digit ↦ elim (cases_Bool (b == 37)) [
      | inl percent ↦ absurd (let e : f.Percent ≡ f.Blank = sym (rw no' (rw no_letter (rw no_digit (rw percent refl)))) ∙ h in cc)
      | inr no_percent ↦ absurd (let e : f.Mark ≡ f.Blank = sym (rw no' (rw no_letter (rw no_digit (rw no_percent refl)))) ∙ h in cc)
    ]
  ]
]

blank_of : (b : ℕ) → first_of b ≡ f.Blank → is_blank b ≡ true
blank_of b h = elim (cases_Bool (is_blank b)) [ inl yes' ↦ yes' | inr no' ↦ absurd (blank_else b no' h) ]

blank_next : (b : ℕ) (bs : List ℕ) → first_of b ≡ f.Blank → IsNext (b ∷ bs) p.Blank 1
blank_next b bs is = record {
  within = omega arith;
  is = blank_of b is;
  longest = λ other m more w h. (let same = blank_class other (sym (opens_at other b bs m h) ∙ is) in let one = one_at b bs m (subst (λ z. IsPiece z (take m (b ∷ bs))) same h) w in omega arith);
  follows = refl;
  comment = λ h. absurd (let e : f.Mark ≡ f.Blank = sym (comment_mark b bs h) ∙ is in cc);
}

blank_only : (b : ℕ) (bs : List ℕ) (piece : Piece) (n : ℕ) → first_of b ≡ f.Blank → IsNext (b ∷ bs) piece n → (let s : Option Found = Some (p.Blank, 1) in s) ≡ Some (piece, n)
blank_only b bs piece n is x =
    let same = blank_class piece (sym (opens_at piece b bs n x.is) ∙ is) in
    let one = one_at b bs n (subst (λ z. IsPiece z (take n (b ∷ bs))) same x.is) x.within in
    ap (λ z. Some (z, 1)) (sym same) ∙ ap (λ i. Some (piece, i)) (sym one)

-- ---- words and literals
-- what a class is whose tokens are words or literals
pub record IsSolid (class : First) : Type 0 where
  pub token : (piece : Piece) → class_of piece ≡ class → (kind : TokenKind) × (piece ≡ p.Token kind)
  pub apart : (kind : TokenKind) → class_of_token kind ≡ class → (rest : List ℕ) → token_may_precede kind rest ≡ stands_apart rest
  pub no_mark : f.Mark ≡ class → ⊥

letter_token : (piece : Piece) → class_of piece ≡ f.Letter → (kind : TokenKind) × (piece ≡ p.Token kind)
letter_token p.Blank e = absurd (cc)
letter_token p.Comment e = absurd (cc)
letter_token (p.Token kind) e = (kind, refl)

digit_token : (piece : Piece) → class_of piece ≡ f.Digit → (kind : TokenKind) × (piece ≡ p.Token kind)
digit_token p.Blank e = absurd (cc)
digit_token p.Comment e = absurd (cc)
digit_token (p.Token kind) e = (kind, refl)

letter_apart : (kind : TokenKind) → class_of_token kind ≡ f.Letter → (rest : List ℕ) → token_may_precede kind rest ≡ stands_apart rest
letter_apart (t.Symbol symbol) e rest = absurd (cc)
letter_apart _ e rest = refl

digit_apart : (kind : TokenKind) → class_of_token kind ≡ f.Digit → (rest : List ℕ) → token_may_precede kind rest ≡ stands_apart rest
digit_apart (t.Symbol symbol) e rest = absurd (cc)
digit_apart _ e rest = refl

letter_solid : IsSolid f.Letter
letter_solid = record { token = letter_token; apart = letter_apart; no_mark = λ e. absurd (cc) }

digit_solid : IsSolid f.Digit
digit_solid = record { token = digit_token; apart = digit_apart; no_mark = λ e. absurd (cc) }

-- how many bytes the tokens of a class have, and which they are
pub record IsReader (class : First) (extent : List ℕ → ℕ) (classify : List ℕ → Option TokenKind) : Type 0 where
  pub solid : IsSolid class
  pub sound : (bs : List ℕ) (kind : TokenKind) → classify bs ≡ Some kind → SpellsToken kind bs
  pub complete : (bs : List ℕ) (kind : TokenKind) → class_of_token kind ≡ class → SpellsToken kind bs → classify bs ≡ Some kind
  pub reach : (kind : TokenKind) (bs rest : List ℕ) → class_of_token kind ≡ class → SpellsToken kind bs → length bs ≤ extent (bs ++ rest)
  pub exact : (kind : TokenKind) (bs rest : List ℕ) → class_of_token kind ≡ class → SpellsToken kind bs → stands_apart rest ≡ true → extent (bs ++ rest) ≡ length bs
  pub ends : (text : List ℕ) → stands_apart (drop (extent text) text) ≡ true
  pub within : (text : List ℕ) → extent text ≤ length text

module _ (class : First) (extent : List ℕ → ℕ) (classify : List ℕ → Option TokenKind) (reader : IsReader class extent classify) where
  -- a piece of the class is a token of the class
  token_at : (b : ℕ) (bs : List ℕ) (piece : Piece) (m : ℕ) → first_of b ≡ class → IsPiece piece (take m (b ∷ bs)) → (kind : TokenKind) × (piece ≡ p.Token kind) × (class_of_token kind ≡ class)
  token_at b bs piece m is h =
      let same = sym (opens_at piece b bs m h) ∙ is in
      let token = reader.solid.token piece same in
      (token.0, token.1, sym (ap class_of token.1) ∙ same)

  reached : (b : ℕ) (bs : List ℕ) (piece : Piece) (m : ℕ) → first_of b ≡ class → m ≤ length (b ∷ bs) → IsPiece piece (take m (b ∷ bs)) → m ≤ extent (b ∷ bs)
  reached b bs piece m is w h =
      let token = token_at b bs piece m is h in
      let text = b ∷ bs in
      let spells : SpellsToken token.0 (take m text) = subst (λ z. IsPiece z (take m text)) token.1 h in
      let far : length (take m text) ≤ extent (take m text ++ drop m text) = reader.reach token.0 (take m text) (drop m text) token.2 spells in
      let size = length-take-le m text w in
      let near : length (take m text) ≤ extent text = subst (λ x. length (take m text) ≤ extent x) (take-append-drop m text) far in
      omega arith

  front_token_next : (b : ℕ) (bs : List ℕ) (kind : TokenKind) → first_of b ≡ class → classify (take (extent (b ∷ bs)) (b ∷ bs)) ≡ Some kind → IsNext (b ∷ bs) (p.Token kind) (extent (b ∷ bs))
  front_token_next b bs kind is h =
      let spells = reader.sound (take (extent (b ∷ bs)) (b ∷ bs)) kind h in
      let same = sym (opens_at (p.Token kind) b bs (extent (b ∷ bs)) spells) ∙ is in
      record {
        within = reader.within (b ∷ bs);
        is = spells;
        longest = λ other m more w fits. (let near = reached b bs other m is w fits in omega arith);
        follows = reader.solid.apart kind same (drop (extent (b ∷ bs)) (b ∷ bs)) ∙ reader.ends (b ∷ bs);
        comment = λ c. absurd (reader.solid.no_mark (sym (comment_mark b bs c) ∙ is));
      }

  pub front_token_sound : (b : ℕ) (bs : List ℕ) (piece : Piece) (n : ℕ) → first_of b ≡ class → front_token extent classify (b ∷ bs) ≡ Some (piece, n) → IsNext (b ∷ bs) piece n
  unfolding front_token
  front_token_sound b bs piece n is h =
      let found = map_some (λ kind. (p.Token kind, extent (b ∷ bs))) (classify (take (extent (b ∷ bs)) (b ∷ bs))) (piece, n) h in
      subst (λ (q : Found). IsNext (b ∷ bs) q.0 q.1) found.2 (front_token_next b bs found.0 is found.1)

  pub front_token_complete : (b : ℕ) (bs : List ℕ) (piece : Piece) (n : ℕ) → first_of b ≡ class → IsNext (b ∷ bs) piece n → front_token extent classify (b ∷ bs) ≡ Some (piece, n)
  unfolding front_token
  front_token_complete b bs piece n is x =
      let text = b ∷ bs in
      let token = token_at b bs piece n is x.is in
      let spells : SpellsToken token.0 (take n text) = subst (λ z. IsPiece z (take n text)) token.1 x.is in
      let apart : stands_apart (drop n text) ≡ true = sym (reader.solid.apart token.0 token.2 (drop n text)) ∙ subst (λ z. may_precede z (drop n text) ≡ true) token.1 x.follows in
      let size = length-take-le n text x.within in
      let end : extent text ≡ n = sym (ap extent (take-append-drop n text)) ∙ reader.exact token.0 (take n text) (drop n text) token.2 spells apart ∙ size in
      let found : classify (take (extent text) text) ≡ Some token.0 = ap (λ i. classify (take i text)) end ∙ reader.complete (take n text) token.0 token.2 spells in
      ap (λ o. option_map (λ kind. (p.Token kind, extent text)) o) found ∙ ap (λ z. Some (z, extent text)) (sym token.1) ∙ ap (λ i. Some (piece, i)) end

-- what is tied together goes as far as it is tied
module _ (kind : TokenKind) (bs rest : List ℕ) (whole : list_all is_tied bs ≡ true) where
  tied_reach : length bs ≤ tied_len (bs ++ rest)
  tied_reach = let e = tied_over bs rest whole in omega arith

  tied_exact : stands_apart rest ≡ true → tied_len (bs ++ rest) ≡ length bs
  tied_exact h = let e = tied_over bs rest whole in let z = apart_none rest h in omega arith

digit_tied : (kind : TokenKind) (bs : List ℕ) → class_of_token kind ≡ f.Digit → SpellsToken kind bs → list_all is_tied bs ≡ true
digit_tied (t.Integer n) bs e h = integer_tied bs n h
digit_tied (t.Address region) bs e h = absurd (cc)
digit_tied (t.Symbol symbol) bs e h = absurd (cc)
digit_tied _ bs e h = absurd (cc)

digit_sound : (bs : List ℕ) (kind : TokenKind) → integer_token bs ≡ Some kind → SpellsToken kind bs
digit_sound bs kind h =
    let found = map_some (λ n. t.Integer n) (parse_integer bs) kind h in
    subst (λ z. SpellsToken z bs) found.2 (integer_sound bs found.0 found.1)

digit_complete : (bs : List ℕ) (kind : TokenKind) → class_of_token kind ≡ f.Digit → SpellsToken kind bs → integer_token bs ≡ Some kind
digit_complete bs (t.Integer n) e h = ap (λ o. option_map (λ i. t.Integer i) o) (integer_complete bs n h)
digit_complete bs (t.Address region) e h = absurd (cc)
digit_complete bs (t.Symbol symbol) e h = absurd (cc)
digit_complete bs _ e h = absurd (cc)

letters : IsReader f.Letter lettered_len word_or_literal
letters = record {
  solid = letter_solid;
  sound = letter_sound;
  complete = letter_complete;
  reach = letter_reach;
  exact = letter_exact;
  ends = λ text. (lettered_end text).ends;
  within = λ text. (lettered_end text).within;
}

digits : IsReader f.Digit tied_len integer_token
digits = record {
  solid = digit_solid;
  sound = digit_sound;
  complete = digit_complete;
  reach = λ kind bs rest e h. tied_reach kind bs rest (digit_tied kind bs e h);
  exact = λ kind bs rest e h apart. tied_exact kind bs rest (digit_tied kind bs e h) apart;
  ends = tied_apart;
  within = λ text. prefix_len-le-length is_tied text;
}

-- ---- addresses
percent_is : (b : ℕ) → first_of b ≡ f.Percent → (b == 37) ≡ true
unfolding first_of
percent_is b h = elim (cases_Bool (is_blank b)) [
  | inl blank ↦ absurd (let e : f.Blank ≡ f.Percent = sym (cond-true (is_blank b) f.Blank _ blank) ∙ h in cc)
  | inr no_blank ↦ elim (cases_Bool (is_letter b)) [
    | inl letter ↦ absurd (let e : f.Letter ≡ f.Percent = sym (cond-false (is_blank b) f.Blank _ no_blank ∙ cond-true (is_letter b) f.Letter _ letter) ∙ h in cc)
    | inr no_letter ↦ elim (cases_Bool (is_ascii_digit b)) [
      | inl digit ↦ absurd (let e : f.Digit ≡ f.Percent = sym (cond-false (is_blank b) f.Blank _ no_blank ∙ cond-false (is_letter b) f.Letter _ no_letter ∙ cond-true (is_ascii_digit b) f.Digit _ digit) ∙ h in cc)
      | inr no_digit ↦ elim (cases_Bool (b == 37)) [
        | inl percent ↦ percent
        | inr no_percent ↦ absurd (let e : f.Mark ≡ f.Percent = sym (cond-false (is_blank b) f.Blank _ no_blank ∙ cond-false (is_letter b) f.Letter _ no_letter ∙ cond-false (is_ascii_digit b) f.Digit _ no_digit ∙ cond-false (b == 37) f.Percent f.Mark no_percent) ∙ h in cc)
      ]
    ]
  ]
]

percent_token : (piece : Piece) → class_of piece ≡ f.Percent → (region : Region) × (piece ≡ p.Token (t.Address region))
percent_token p.Blank e = absurd (cc)
percent_token p.Comment e = absurd (cc)
percent_token (p.Token (t.Address region)) e = (region, refl)
percent_token (p.Token (t.Integer n)) e = absurd (cc)
percent_token (p.Token (t.Symbol symbol)) e = absurd (cc)
percent_token (p.Token _) e = absurd (cc)

-- a piece that begins with `%` is an address, and reaches no further than what is parsed
record AddressAt (bs : List ℕ) (piece : Piece) (m : ℕ) : Type 0 where
  region : Region
  same : piece ≡ p.Token (t.Address region)
  len : ℕ
  size : m ≡ suc len
  reaches : Reaches region len bs

address_at : (b : ℕ) (bs : List ℕ) (piece : Piece) (m : ℕ) → first_of b ≡ f.Percent → m ≤ length (b ∷ bs) → IsPiece piece (take m (b ∷ bs)) → AddressAt bs piece m
address_at b bs piece zero is w h = absurd (fits_none piece h)
address_at b bs piece (suc j) is w h =
    let token = percent_token piece (sym (opens_at piece b bs (suc j) h) ∙ is) in
    let address : is_address token.0 (b ∷ take j bs) ≡ true = subst (λ z. IsPiece z (take (suc j) (b ∷ bs))) token.1 h in
    let size = length-take-le j bs (omega arith) in
    record {
      region = token.0;
      same = token.1;
      len = j;
      size = refl;
      reaches = subst (λ i. Reaches token.0 i bs) size (subst (λ x. Reaches token.0 (length (take j bs)) x) (take-append-drop j bs) (address_reach token.0 b (take j bs) (drop j bs) address));
    }

same_read : (x y : Region) (i j : ℕ) → (let s : Option (Region × ℕ) = Some (x, i) in s) ≡ Some (y, j) → (x ≡ y) × (i ≡ j)
same_read x y i j e = some_pair_parts x y i j e

address_next : (b : ℕ) (bs : List ℕ) (region : Region) (k : ℕ) → first_of b ≡ f.Percent → parse_address bs ≡ Some (region, k) → stands_apart (drop k bs) ≡ true → IsNext (b ∷ bs) (p.Token (t.Address region)) (suc k)
address_next b bs region k is read apart =
    let addresses = address_is region k bs read in
    let within = addresses.within in
    record {
      within = omega arith;
      is = ap (λ c. is_address region (c ∷ take k bs)) (eqb-true b 37 (percent_is b is)) ∙ addresses.is;
      longest = λ other m more w fits.
          (let at = address_at b bs other m is w fits in
          let same = (same_read at.region region at.reaches.n k (sym at.reaches.read ∙ read)).1 in
          let far = at.reaches.reach in
          let size = at.size in
          omega arith);
      follows = apart;
      comment = λ c. absurd (let e : f.Mark ≡ f.Percent = sym (comment_mark b bs c) ∙ is in cc);
    }

one_more : (k : ℕ) → k + 1 ≡ suc k
one_more k = omega arith

abbrev address_piece : List ℕ → Region × ℕ → Option Found
address_piece bs a = cond (stands_apart (drop a.1 bs)) (Some (p.Token (t.Address a.0), a.1 + 1)) None

pub address_sound : (b : ℕ) (bs : List ℕ) (piece : Piece) (n : ℕ) → first_of b ≡ f.Percent → next_address bs ≡ Some (piece, n) → IsNext (b ∷ bs) piece n
unfolding next_address
address_sound b bs piece n is h = option_and_then_some (address_piece bs) (parse_address bs) (piece, n) h (λ a read rest.
    let parts = cond_some (stands_apart (drop a.1 bs)) (p.Token (t.Address a.0), a.1 + 1) (piece, n) rest in
    subst (λ (q : Found). IsNext (b ∷ bs) q.0 q.1) parts.1 (subst (λ i. IsNext (b ∷ bs) (p.Token (t.Address a.0)) i) (sym (one_more a.1)) (address_next b bs a.0 a.1 is read parts.0)))

-- the address that is parsed is the next piece
address_whole : (b : ℕ) (bs : List ℕ) (region : Region) (k j : ℕ) → first_of b ≡ f.Percent → parse_address bs ≡ Some (region, k) → j ≤ k → IsNext (b ∷ bs) (p.Token (t.Address region)) (suc j) → k ≡ j
address_whole b bs region k j is read far x = elim (cases_lt j k) [
  | inl shorter ↦
      let addresses = address_is region k bs read in
      let fits : is_address region (b ∷ take k bs) ≡ true = ap (λ c. is_address region (c ∷ take k bs)) (eqb-true b 37 (percent_is b is)) ∙ addresses.is in
      let within = addresses.within in
      absurd (x.longest (p.Token (t.Address region)) (suc k) (omega arith) (omega arith) fits)
  | inr longer ↦ omega arith
]

pub address_complete : (b : ℕ) (bs : List ℕ) (piece : Piece) (n : ℕ) → first_of b ≡ f.Percent → IsNext (b ∷ bs) piece n → next_address bs ≡ Some (piece, n)
unfolding next_address
address_complete b bs piece n is x =
    let at = address_at b bs piece n is x.within x.is in
    let moved : IsNext (b ∷ bs) (p.Token (t.Address at.region)) (suc at.len) = subst (λ i. IsNext (b ∷ bs) (p.Token (t.Address at.region)) i) at.size (subst (λ z. IsNext (b ∷ bs) z n) at.same x) in
    let end = address_whole b bs at.region at.reaches.n at.len is at.reaches.read at.reaches.reach moved in
    let apart : stands_apart (drop at.reaches.n bs) ≡ true = ap (λ i. stands_apart (drop i bs)) end ∙ moved.follows in
    let size : at.reaches.n + 1 ≡ n = (let s = at.size in omega arith) in
    ap (λ o. o >>= address_piece bs) at.reaches.read ∙ cond-true (stands_apart (drop at.reaches.n bs)) (Some (p.Token (t.Address at.region), at.reaches.n + 1)) None apart ∙ ap (λ z. Some (z, at.reaches.n + 1)) (sym at.same) ∙ ap (λ i. Some (piece, i)) size

-- ---- comments and symbols
comment_or_symbol : (piece : Piece) → class_of piece ≡ f.Mark → (piece ≡ p.Comment) ⊎ ((symbol : Symbol) × (piece ≡ p.Token (t.Symbol symbol)))
comment_or_symbol p.Blank e = absurd (cc)
comment_or_symbol p.Comment e = inl refl
comment_or_symbol (p.Token (t.Symbol symbol)) e = inr (symbol, refl)
comment_or_symbol (p.Token (t.Integer n)) e = absurd (cc)
comment_or_symbol (p.Token (t.Address region)) e = absurd (cc)
comment_or_symbol (p.Token _) e = absurd (cc)

-- a symbol has at most two bytes
symbol_short : (symbol : Symbol) (text : List ℕ) (m : ℕ) → m ≤ length text → take m text ≡ bytes_of symbol → m ≤ 2
symbol_short symbol text m w e = let size = length-take-le m text w in let same = ap length e in let most = (symbol_length symbol).1 in omega arith

comment_long : (text : List ℕ) (m : ℕ) → is_comment (take m text) ≡ true → 2 ≤ m
comment_long text zero h = no_truth h
comment_long [] (suc zero) h = no_truth h
comment_long (b ∷ bs) (suc zero) h = no_truth h
comment_long text (suc (suc m)) h = omega arith

comment_inner : (a b : ℕ) (inner : List ℕ) (m : ℕ) → is_comment (take m (a ∷ b ∷ inner)) ≡ true → (j : ℕ) × (m ≡ j + 2) × (is_comment (a ∷ b ∷ take j inner) ≡ true)
comment_inner a b inner zero h = no_truth h
comment_inner a b inner (suc zero) h = no_truth h
comment_inner a b inner (suc (suc j)) h = (j, omega arith, h)

-- a comment whose inner bytes are known by their form
pub record IsForm (a b : ℕ) (form : List ℕ → Bool) (read : List ℕ → Option ℕ) : Type 0 where
  pub mark : first_of a ≡ f.Mark
  pub begins : begins_comment (a ∷ b ∷ []) ≡ true
  pub form_of : (xs : List ℕ) → is_comment (a ∷ b ∷ xs) ≡ true → form xs ≡ true
  pub comment_of : (xs : List ℕ) → form xs ≡ true → is_comment (a ∷ b ∷ xs) ≡ true
  -- what is found is of the form, and nothing longer is
  pub sound : (text : List ℕ) (n : ℕ) → read text ≡ Some n → (n ≤ length text) × (form (take n text) ≡ true)
  pub reach : (bs rest : List ℕ) → form bs ≡ true → (n : ℕ) × (read (bs ++ rest) ≡ Some n) × (length bs ≤ n)

module _ (a b : ℕ) (form : List ℕ → Bool) (read : List ℕ → Option ℕ) (is : IsForm a b form read) where
  form_reach : (inner : List ℕ) (j : ℕ) → j ≤ length inner → form (take j inner) ≡ true → (n : ℕ) × (read inner ≡ Some n) × (j ≤ n)
  form_reach inner j w h =
      let far = is.reach (take j inner) (drop j inner) h in
      let size = length-take-le j inner w in
      let more = far.2 in
      (far.0, sym (ap read (take-append-drop j inner)) ∙ far.1, omega arith)

  comment_next : (inner : List ℕ) (n : ℕ) → read inner ≡ Some n → IsNext (a ∷ b ∷ inner) p.Comment (n + 2)
  comment_next inner n found =
      let s = is.sound inner n found in
      let within = s.0 in
      let size : suc (suc n) ≡ n + 2 = omega arith in
      record {
        within = omega arith;
        is = subst (λ i. is_comment (take i (a ∷ b ∷ inner)) ≡ true) size (is.comment_of (take n inner) s.1);
        longest = λ other m more w fits. elim (comment_or_symbol other (sym (opens_at other a (b ∷ inner) m fits) ∙ is.mark)) [
          | inl comment ↦
              let c = comment_inner a b inner m (subst (λ z. IsPiece z (take m (a ∷ b ∷ inner))) comment fits) in
              let same = c.1 in
              let far = form_reach inner c.0 (omega arith) (is.form_of (take c.0 inner) c.2) in
              let one = same_Some n far.0 (sym found ∙ far.1) in
              let most = far.2 in
              omega arith
          | inr symbol ↦ (let short = symbol_short symbol.0 (a ∷ b ∷ inner) m w (subst (λ z. IsPiece z (take m (a ∷ b ∷ inner))) symbol.1 fits) in omega arith)
        ];
        follows = refl;
        comment = λ h. refl;
      }

  pub form_sound : (inner : List ℕ) (piece : Piece) (n : ℕ) → option_map as_comment (read inner) ≡ Some (piece, n) → IsNext (a ∷ b ∷ inner) piece n
  form_sound inner piece n h =
      let found = map_some as_comment (read inner) (piece, n) h in
      subst (λ (q : Found). IsNext (a ∷ b ∷ inner) q.0 q.1) found.2 (comment_next inner found.0 found.1)

  pub form_complete : (inner : List ℕ) (piece : Piece) (n : ℕ) → IsNext (a ∷ b ∷ inner) piece n → option_map as_comment (read inner) ≡ Some (piece, n)
  form_complete inner piece n x =
      let comment : piece ≡ p.Comment = x.comment is.begins in
      let c = comment_inner a b inner n (subst (λ z. IsPiece z (take n (a ∷ b ∷ inner))) comment x.is) in
      let same = c.1 in
      let w = x.within in
      let far = form_reach inner c.0 (omega arith) (is.form_of (take c.0 inner) c.2) in
      let most = far.2 in
      let end : far.0 ≡ c.0 = elim (cases_lt c.0 far.0) [
        | inl shorter ↦ absurd (let y = comment_next inner far.0 far.1 in let v = y.within in x.longest p.Comment (far.0 + 2) (omega arith) v y.is)
        | inr longer ↦ omega arith
      ] in
      let size : far.0 + 2 ≡ n = omega arith in
      ap (λ o. option_map as_comment o) far.1 ∙ ap (λ z. Some (z, far.0 + 2)) (sym comment) ∙ ap (λ i. Some (piece, i)) size

-- the three forms
block_sound : (mark : ℕ) (text : List ℕ) (n : ℕ) → closing_len 0 mark text ≡ Some n → (n ≤ length text) × (is_closed mark (take n text) ≡ true)
block_sound mark text n h =
    let c = closing_is mark 0 text n h in
    let same : c.0 ≡ n = (let e = c.1 in omega arith) in
    (subst (λ i. i ≤ length text) same c.2.within, subst (λ i. is_closed mark (take i text) ≡ true) same c.2.is)

block_reach : (mark : ℕ) (bs rest : List ℕ) → is_closed mark bs ≡ true → (n : ℕ) × (closing_len 0 mark (bs ++ rest) ≡ Some n) × (length bs ≤ n)
block_reach mark bs rest h = (0 + length bs, closing_found mark 0 bs rest h, omega arith)

round_form : IsForm 40 42 (is_closed 41) (closing_len 0 41)
unfolding first_of is_blank
round_form = record {
  mark = refl;
  begins = refl;
  form_of = λ xs h. elim (comment_cases 40 42 xs h) [
    | inl round ↦ round.2
    | inr other ↦ elim other [ inl slashed ↦ absurd (let e = slashed.0 in omega arith) | inr line ↦ absurd (let e = line.0 in omega arith) ]
  ];
  comment_of = λ xs h. or_left (is_closed 41 xs || false) false (or_left (is_closed 41 xs) false h);
  sound = block_sound 41;
  reach = block_reach 41;
}

slashed_form : IsForm 47 42 (is_closed 47) (closing_len 0 47)
unfolding first_of is_blank
slashed_form = record {
  mark = refl;
  begins = refl;
  form_of = λ xs h. elim (comment_cases 47 42 xs h) [
    | inl round ↦ absurd (let e = round.0 in omega arith)
    | inr other ↦ elim other [ inl slashed ↦ slashed.2 | inr line ↦ absurd (let e = line.1 in omega arith) ]
  ];
  comment_of = λ xs h. or_left (is_closed 47 xs) false h;
  sound = block_sound 47;
  reach = block_reach 47;
}

abbrev line_read : List ℕ → Option ℕ
line_read inner = Some (line_len inner)

line_within : (text : List ℕ) → line_len text ≤ length text
unfolding line_len
line_within text = prefix_len-le-length (λ b. not (b == 10)) text

line_form : IsForm 47 47 is_one_line line_read
unfolding first_of is_blank
line_form = record {
  mark = refl;
  begins = refl;
  form_of = λ xs h. elim (comment_cases 47 47 xs h) [
    | inl round ↦ absurd (let e = round.0 in omega arith)
    | inr other ↦ elim other [ inl slashed ↦ absurd (let e = slashed.1 in omega arith) | inr line ↦ line.2 ]
  ];
  comment_of = λ xs h. h;
  sound = λ text n h. (let same = same_Some (line_len text) n h in (subst (λ i. i ≤ length text) same (line_within text), subst (λ i. is_one_line (take i text) ≡ true) same (line_is text)));
  reach = λ bs rest h. (line_len (bs ++ rest), refl, line_reach bs rest h);
}

-- ---- symbols
record SymbolAt (text : List ℕ) (piece : Piece) (m : ℕ) : Type 0 where
  symbol : Symbol
  same : piece ≡ p.Token (t.Symbol symbol)
  bytes : take m text ≡ bytes_of symbol
  short : m ≤ 2
  some : 0 < m

-- where no comment begins, what begins with a mark is a symbol
symbol_at : (a b : ℕ) (inner : List ℕ) (piece : Piece) (m : ℕ) → first_of a ≡ f.Mark → begins_comment (a ∷ b ∷ inner) ≡ false → m ≤ length (a ∷ b ∷ inner) → IsPiece piece (take m (a ∷ b ∷ inner)) → SymbolAt (a ∷ b ∷ inner) piece m
symbol_at a b inner piece m is none w h = elim (comment_or_symbol piece (sym (opens_at piece a (b ∷ inner) m h) ∙ is)) [
  | inl comment ↦
      let c = comment_inner a b inner m (subst (λ z. IsPiece z (take m (a ∷ b ∷ inner))) comment h) in
      no_truth (sym none ∙ comment_begins a b (take c.0 inner) c.2)
  | inr symbol ↦
      let bytes : take m (a ∷ b ∷ inner) ≡ bytes_of symbol.0 = subst (λ z. IsPiece z (take m (a ∷ b ∷ inner))) symbol.1 h in
      record { symbol = symbol.0; same = symbol.1; bytes = bytes; short = symbol_short symbol.0 (a ∷ b ∷ inner) m w bytes; some = fits_some piece m (a ∷ b ∷ inner) h }
]

two_bytes : (a b : ℕ) (inner : List ℕ) (piece : Piece) (m : ℕ) (at : SymbolAt (a ∷ b ∷ inner) piece m) → 1 < m → (m ≡ 2) × (double_symbol a b ≡ Some at.symbol)
two_bytes a b inner piece zero at more = absurd (omega arith)
two_bytes a b inner piece (suc zero) at more = absurd (omega arith)
two_bytes a b inner piece (suc (suc zero)) at more = (refl, double_found a b at.symbol at.bytes)
two_bytes a b inner piece (suc (suc (suc m))) at more = absurd (let s = at.short in omega arith)

one_or_two : (a b : ℕ) (inner : List ℕ) (piece : Piece) (m : ℕ) (at : SymbolAt (a ∷ b ∷ inner) piece m) → ((m ≡ 1) × (single_symbol a ≡ Some at.symbol)) ⊎ ((m ≡ 2) × (double_symbol a b ≡ Some at.symbol))
one_or_two a b inner piece zero at = absurd (let s = at.some in omega arith)
one_or_two a b inner piece (suc zero) at = inl (refl, single_found a at.symbol at.bytes)
one_or_two a b inner piece (suc (suc m)) at = inr (two_bytes a b inner piece (suc (suc m)) at (omega arith))

no_mark_comment : (a b : ℕ) (inner : List ℕ) → begins_comment (a ∷ b ∷ inner) ≡ false → (symbol : Symbol) → IsTrue (begins_comment (a ∷ b ∷ inner)) → p.Token (t.Symbol symbol) ≡ p.Comment
no_mark_comment a b inner none symbol h = no_truth (sym none ∙ h)

double_next : (a b : ℕ) (inner : List ℕ) (symbol : Symbol) → first_of a ≡ f.Mark → begins_comment (a ∷ b ∷ inner) ≡ false → double_symbol a b ≡ Some symbol → IsNext (a ∷ b ∷ inner) (p.Token (t.Symbol symbol)) 2
double_next a b inner symbol is none h = record {
  within = omega arith;
  is = sym (double_is a b symbol h);
  longest = λ other m more w fits. (let at = symbol_at a b inner other m is none w fits in let short = at.short in omega arith);
  follows = refl;
  comment = no_mark_comment a b inner none symbol;
}

single_next : (a b : ℕ) (inner : List ℕ) (symbol : Symbol) → first_of a ≡ f.Mark → begins_comment (a ∷ b ∷ inner) ≡ false → double_symbol a b ≡ None → single_symbol a ≡ Some symbol → IsNext (a ∷ b ∷ inner) (p.Token (t.Symbol symbol)) 1
single_next a b inner symbol is none no_double h = record {
  within = omega arith;
  is = sym (single_is a symbol h);
  longest = λ other m more w fits. (let at = symbol_at a b inner other m is none w fits in none-some at.symbol (sym no_double ∙ (two_bytes a b inner other m at more).1));
  follows = refl;
  comment = no_mark_comment a b inner none symbol;
}

symbol_sound_by : (a b : ℕ) (inner : List ℕ) (piece : Piece) (n : ℕ) (o : Option Symbol) → first_of a ≡ f.Mark → begins_comment (a ∷ b ∷ inner) ≡ false → double_symbol a b ≡ o → first_some (option_map (as_symbol 2) o) (option_map (as_symbol 1) (single_symbol a)) ≡ Some (piece, n) → IsNext (a ∷ b ∷ inner) piece n
symbol_sound_by a b inner piece n (Some symbol) is none double h = subst (λ (q : Found). IsNext (a ∷ b ∷ inner) q.0 q.1) (same_Some (as_symbol 2 symbol) (piece, n) h) (double_next a b inner symbol is none double)
symbol_sound_by a b inner piece n None is none double h =
    let found = map_some (as_symbol 1) (single_symbol a) (piece, n) h in
    subst (λ (q : Found). IsNext (a ∷ b ∷ inner) q.0 q.1) found.2 (single_next a b inner found.0 is none double found.1)

symbol_sound : (a b : ℕ) (inner : List ℕ) (piece : Piece) (n : ℕ) → first_of a ≡ f.Mark → begins_comment (a ∷ b ∷ inner) ≡ false → symbol_piece a b ≡ Some (piece, n) → IsNext (a ∷ b ∷ inner) piece n
unfolding symbol_piece
symbol_sound a b inner piece n is none h = symbol_sound_by a b inner piece n (double_symbol a b) is none refl h

-- where a single symbol is the longest, no double one is there
no_double : (a b : ℕ) (inner : List ℕ) (piece : Piece) (o : Option Symbol) → IsNext (a ∷ b ∷ inner) piece 1 → double_symbol a b ≡ o → o ≡ None
no_double a b inner piece None x is = refl
no_double a b inner piece (Some symbol) x is = absurd (x.longest (p.Token (t.Symbol symbol)) 2 (omega arith) (omega arith) (sym (double_is a b symbol is)))

symbol_complete : (a b : ℕ) (inner : List ℕ) (piece : Piece) (n : ℕ) → first_of a ≡ f.Mark → begins_comment (a ∷ b ∷ inner) ≡ false → IsNext (a ∷ b ∷ inner) piece n → symbol_piece a b ≡ Some (piece, n)
unfolding symbol_piece
symbol_complete a b inner piece n is none x =
    let at = symbol_at a b inner piece n is none x.within x.is in
    elim (one_or_two a b inner piece n at) [
      | inl one ↦
          let alone = no_double a b inner piece (double_symbol a b) (subst (λ i. IsNext (a ∷ b ∷ inner) piece i) one.0 x) refl in
          ap (λ o. first_some (option_map (as_symbol 2) o) (option_map (as_symbol 1) (single_symbol a))) alone ∙ ap (λ o. option_map (as_symbol 1) o) one.1 ∙ ap (λ z. Some (z, 1)) (sym at.same) ∙ ap (λ i. Some (piece, i)) (sym one.0)
      | inr two ↦ ap (λ o. first_some (option_map (as_symbol 2) o) (option_map (as_symbol 1) (single_symbol a))) two.1 ∙ ap (λ z. Some (z, 2)) (sym at.same) ∙ ap (λ i. Some (piece, i)) (sym two.0)
    ]

-- a text of one byte
alone_symbol : (a : ℕ) (piece : Piece) (m : ℕ) → first_of a ≡ f.Mark → m ≤ 1 → IsPiece piece (take m (a ∷ [])) → (symbol : Symbol) × (piece ≡ p.Token (t.Symbol symbol)) × (m ≡ 1) × (single_symbol a ≡ Some symbol)
alone_symbol a piece zero is w h = absurd (fits_none piece h)
alone_symbol a piece (suc (suc m)) is w h = absurd (omega arith)
alone_symbol a piece (suc zero) is w h = elim (comment_or_symbol piece (sym (opens_at piece a [] 1 h) ∙ is)) [
  | inl comment ↦ no_truth (subst (λ z. IsPiece z (a ∷ [])) comment h)
  | inr symbol ↦ (symbol.0, symbol.1, refl, single_found a symbol.0 (subst (λ z. IsPiece z (a ∷ [])) symbol.1 h))
]

alone_sound : (a : ℕ) (piece : Piece) (n : ℕ) → option_map (as_symbol 1) (single_symbol a) ≡ Some (piece, n) → IsNext (a ∷ []) piece n
alone_sound a piece n h =
    let found = map_some (as_symbol 1) (single_symbol a) (piece, n) h in
    subst (λ (q : Found). IsNext (a ∷ []) q.0 q.1) found.2 record {
      within = omega arith;
      is = sym (single_is a found.0 found.1);
      longest = λ other m more w fits. omega arith;
      follows = refl;
      comment = λ c. no_truth c;
    }

alone_complete : (a : ℕ) (piece : Piece) (n : ℕ) → first_of a ≡ f.Mark → IsNext (a ∷ []) piece n → option_map (as_symbol 1) (single_symbol a) ≡ Some (piece, n)
alone_complete a piece n is x =
    let s = alone_symbol a piece n is x.within x.is in
    ap (λ o. option_map (as_symbol 1) o) s.3 ∙ ap (λ z. Some (z, 1)) (sym s.1) ∙ ap (λ i. Some (piece, i)) (sym s.2)

-- ---- what begins with a mark
abbrev third : ℕ → ℕ → List ℕ → Option Found
third a b inner = cond (a == 47 && b == 47) (Some (as_comment (line_len inner))) (symbol_piece a b)

abbrev second : ℕ → ℕ → List ℕ → Option Found
second a b inner = cond (a == 47 && b == 42) (option_map as_comment (closing_len 0 47 inner)) (third a b inner)

-- the four ways in which a mark goes on
pub data MarkCases (a b : ℕ) (inner : List ℕ) : Type 0 where
  round : a ≡ 40 → b ≡ 42 → next_mark a (b ∷ inner) ≡ option_map as_comment (closing_len 0 41 inner) → MarkCases a b inner
  slashed : a ≡ 47 → b ≡ 42 → next_mark a (b ∷ inner) ≡ option_map as_comment (closing_len 0 47 inner) → MarkCases a b inner
  line : a ≡ 47 → b ≡ 47 → next_mark a (b ∷ inner) ≡ option_map as_comment (line_read inner) → MarkCases a b inner
  plain : begins_comment (a ∷ b ∷ inner) ≡ false → next_mark a (b ∷ inner) ≡ symbol_piece a b → MarkCases a b inner

begins_none : (a b : ℕ) (inner : List ℕ) → (a == 40 && b == 42) ≡ false → (a == 47 && b == 42) ≡ false → (a == 47 && b == 47) ≡ false → begins_comment (a ∷ b ∷ inner) ≡ false
begins_none a b inner one two three = false_from_ne_true (begins_comment (a ∷ b ∷ inner)) (λ h. elim (or_cases (a == 40 && b == 42) (a == 47 && (b == 42 || b == 47)) h) [
  | inl first ↦ no_truth (sym one ∙ first)
  | inr slash ↦
      let parts = and_parts (a == 47) (b == 42 || b == 47) slash in
      elim (or_cases (b == 42) (b == 47) parts.1) [ inl star ↦ no_truth (sym two ∙ and_from (a == 47) (b == 42) parts.0 star) | inr other ↦ no_truth (sym three ∙ and_from (a == 47) (b == 47) parts.0 other) ]
])

mark_cases : (a b : ℕ) (inner : List ℕ) → MarkCases a b inner
mark_cases a b inner = elim (cases_Bool (a == 40 && b == 42)) [
  | inl one ↦ (let parts = and_parts (a == 40) (b == 42) one in round (eqb-true a 40 parts.0) (eqb-true b 42 parts.1) (cond-true (a == 40 && b == 42) (option_map as_comment (closing_len 0 41 inner)) (second a b inner) one))
  | inr no_one ↦ elim (cases_Bool (a == 47 && b == 42)) [
    | inl two ↦ (let parts = and_parts (a == 47) (b == 42) two in slashed (eqb-true a 47 parts.0) (eqb-true b 42 parts.1) (cond-false (a == 40 && b == 42) (option_map as_comment (closing_len 0 41 inner)) (second a b inner) no_one ∙ cond-true (a == 47 && b == 42) (option_map as_comment (closing_len 0 47 inner)) (third a b inner) two))
    | inr no_two ↦ elim (cases_Bool (a == 47 && b == 47)) [
      | inl three ↦ (let parts = and_parts (a == 47) (b == 47) three in line (eqb-true a 47 parts.0) (eqb-true b 47 parts.1) (cond-false (a == 40 && b == 42) (option_map as_comment (closing_len 0 41 inner)) (second a b inner) no_one ∙ cond-false (a == 47 && b == 42) (option_map as_comment (closing_len 0 47 inner)) (third a b inner) no_two ∙ cond-true (a == 47 && b == 47) (Some (as_comment (line_len inner))) (symbol_piece a b) three))
      | inr no_three ↦ plain (begins_none a b inner no_one no_two no_three) (cond-false (a == 40 && b == 42) (option_map as_comment (closing_len 0 41 inner)) (second a b inner) no_one ∙ cond-false (a == 47 && b == 42) (option_map as_comment (closing_len 0 47 inner)) (third a b inner) no_two ∙ cond-false (a == 47 && b == 47) (Some (as_comment (line_len inner))) (symbol_piece a b) no_three)
    ]
  ]
]

both_same : (P : ℕ → ℕ → Type 0) (a b c d : ℕ) → a ≡ c → b ≡ d → P c d → P a b
both_same P a b c d e g h = subst (λ x. P x b) (sym e) (subst (λ y. P c y) (sym g) h)

pub mark_sound : (a : ℕ) (bs : List ℕ) (piece : Piece) (n : ℕ) → first_of a ≡ f.Mark → next_mark a bs ≡ Some (piece, n) → IsNext (a ∷ bs) piece n
mark_sound a [] piece n is h = alone_sound a piece n h
mark_sound a (b ∷ inner) piece n is h = elim (mark_cases a b inner) [
  | round e g eq ↦ both_same (λ x y. IsNext (x ∷ y ∷ inner) piece n) a b 40 42 e g (form_sound 40 42 (is_closed 41) (closing_len 0 41) round_form inner piece n (sym eq ∙ h))
  | slashed e g eq ↦ both_same (λ x y. IsNext (x ∷ y ∷ inner) piece n) a b 47 42 e g (form_sound 47 42 (is_closed 47) (closing_len 0 47) slashed_form inner piece n (sym eq ∙ h))
  | line e g eq ↦ both_same (λ x y. IsNext (x ∷ y ∷ inner) piece n) a b 47 47 e g (form_sound 47 47 is_one_line line_read line_form inner piece n (sym eq ∙ h))
  | plain none eq ↦ symbol_sound a b inner piece n is none (sym eq ∙ h)
]

pub mark_complete : (a : ℕ) (bs : List ℕ) (piece : Piece) (n : ℕ) → first_of a ≡ f.Mark → IsNext (a ∷ bs) piece n → next_mark a bs ≡ Some (piece, n)
mark_complete a [] piece n is x = alone_complete a piece n is x
mark_complete a (b ∷ inner) piece n is x = elim (mark_cases a b inner) [
  | round e g eq ↦ eq ∙ form_complete 40 42 (is_closed 41) (closing_len 0 41) round_form inner piece n (both_same (λ y z. IsNext (y ∷ z ∷ inner) piece n) 40 42 a b (sym e) (sym g) x)
  | slashed e g eq ↦ eq ∙ form_complete 47 42 (is_closed 47) (closing_len 0 47) slashed_form inner piece n (both_same (λ y z. IsNext (y ∷ z ∷ inner) piece n) 47 42 a b (sym e) (sym g) x)
  | line e g eq ↦ eq ∙ form_complete 47 47 is_one_line line_read line_form inner piece n (both_same (λ y z. IsNext (y ∷ z ∷ inner) piece n) 47 47 a b (sym e) (sym g) x)
  | plain none eq ↦ eq ∙ symbol_complete a b inner piece n is none x
]

-- ---- the next piece
sound_by : (b : ℕ) (bs : List ℕ) (class : First) (piece : Piece) (n : ℕ) → first_of b ≡ class → next_by_class class b bs ≡ Some (piece, n) → IsNext (b ∷ bs) piece n
sound_by b bs f.Blank piece n is h = subst (λ (q : Found). IsNext (b ∷ bs) q.0 q.1) (same_Some (p.Blank, 1) (piece, n) h) (blank_next b bs is)
sound_by b bs f.Letter piece n is h = front_token_sound f.Letter lettered_len word_or_literal letters b bs piece n is h
sound_by b bs f.Digit piece n is h = front_token_sound f.Digit tied_len integer_token digits b bs piece n is h
sound_by b bs f.Percent piece n is h = address_sound b bs piece n is h
sound_by b bs f.Mark piece n is h = mark_sound b bs piece n is h

complete_by : (b : ℕ) (bs : List ℕ) (class : First) (piece : Piece) (n : ℕ) → first_of b ≡ class → IsNext (b ∷ bs) piece n → next_by_class class b bs ≡ Some (piece, n)
complete_by b bs f.Blank piece n is x = blank_only b bs piece n is x
complete_by b bs f.Letter piece n is x = front_token_complete f.Letter lettered_len word_or_literal letters b bs piece n is x
complete_by b bs f.Digit piece n is x = front_token_complete f.Digit tied_len integer_token digits b bs piece n is x
complete_by b bs f.Percent piece n is x = address_complete b bs piece n is x
complete_by b bs f.Mark piece n is x = mark_complete b bs piece n is x

pub next_sound : (text : List ℕ) (piece : Piece) (n : ℕ) → next_piece text ≡ Some (piece, n) → IsNext text piece n
next_sound [] piece n h = absurd (none-some (piece, n) h)
next_sound (b ∷ bs) piece n h = sound_by b bs (first_of b) piece n refl h

pub next_complete : (text : List ℕ) (piece : Piece) (n : ℕ) → IsNext text piece n → next_piece text ≡ Some (piece, n)
next_complete [] piece n x = absurd (let some = fits_some piece n [] x.is in let w = x.within in omega arith)
next_complete (b ∷ bs) piece n x = complete_by b bs (first_of b) piece n refl x

-- a text has at most one next piece
pub one_next : (text : List ℕ) (a b : Piece) (n m : ℕ) → IsNext text a n → IsNext text b m → (a ≡ b) × (n ≡ m)
one_next text a b n m x y = some_pair_parts a b n m (sym (next_complete text a n x) ∙ next_complete text b m y)

pub found_of : (text : List ℕ) (r : Option Found) → r ≡ next_piece text → IfSome r (λ q. IsNext text q.0 q.1)
found_of text None h = tt
found_of text (Some q) h = next_sound text q.0 q.1 (sym h)

pub none_of : (text : List ℕ) (r : Option Found) → r ≡ next_piece text → IfNone r (IsOver text)
none_of text None h = λ piece n x. none-some (piece, n) (h ∙ next_complete text piece n x)
none_of text (Some q) h = tt

pub some_of : (text : List ℕ) (r : Option Found) → r ≡ next_piece text → IfSome r (λ q. 0 < q.1)
some_of text None h = tt
some_of text (Some q) h = fits_some q.0 q.1 text (next_sound text q.0 q.1 (sym h)).is
