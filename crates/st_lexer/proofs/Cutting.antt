-- One piece more, and the one way to cut a text.
use Rattle.std.proofs.Common.{◌≡◌, ℕ, ◌+◌, ◌-◌, ◌<◌, ◌≤◌, true, ◌⊎◌, inl, inr, Option, Some, None, List, [], ◌∷◌, ◌++◌, length, length-drop, take, drop, get_or, zero, suc, refl, sym, ap, ◌∙◌, subst, arith}
use Rattle.st_lexer.specs.declared.piece.Piece.{Piece}
use Rattle.st_lexer.specs.declared.piece.Piece.TheVariants as p
use Rattle.std.specs.List.{list_all, slice_range}
use Rattle.std.specs.Str.{IsAscii}
use Rattle.std.specs.Str.Lossy.{utf8_lossy}
use Rattle.std.proofs.lemmas.Bool.{and_parts}
use Rattle.std.proofs.lemmas.Bool.Decides.{nat_tests}
use Rattle.std.proofs.lemmas.List.{drop-drop}
use Rattle.std.proofs.lemmas.Str.{IsUtf8-from_ascii, utf8_lossy-IsUtf8}
use Rattle.plant_types.specs.Words.{is_name_byte}
use Rattle.st_lexer.specs.declared.token.TokenKind.{TokenKind}
use Rattle.st_lexer.specs.declared.token.TokenKind.TheVariants as t
use Rattle.st_lexer.specs.declared.token.Token.{Token}
use Rattle.st_lexer.specs.Spellings.{SpellsToken}
use Rattle.st_lexer.specs.Pieces.{IsNext, IsOver, Cut, total_len}
use Rattle.st_lexer.specs.Lexes.{tokens_of, mark_len, unmarked, Lexes, Stops, IsTokenOf}
use Rattle.st_lexer.specs.Places.{line_at, column_at}
use Rattle.st_lexer.specs.Reading.{next_piece}
use Rattle.st_lexer.proofs.LiteralLaws.{name_bytes}
use Rattle.st_lexer.proofs.Longest.{one_next, fits_some, found_of, none_of}

pub cut_push : (text rest : List ℕ) (ps : List (Piece × ℕ)) (piece : Piece) (n : ℕ) → Cut text ps rest → IsNext rest piece n → Cut text (ps ++ (piece, n) ∷ []) (drop n rest)
cut_push text rest [] piece n c x = (subst (λ t. IsNext t piece n) (sym c) x, ap (drop n) c)
cut_push text rest (p ∷ ps) piece n c x = (c.0, cut_push (drop p.1 text) rest ps piece n c.1 x)

pub total_push : (ps : List (Piece × ℕ)) (piece : Piece) (n : ℕ) → total_len (ps ++ (piece, n) ∷ []) ≡ total_len ps + n
total_push [] piece n = omega arith
total_push (p ∷ ps) piece n = let q = total_push ps piece n in omega arith

pub tokens_push : (at : ℕ) (ps : List (Piece × ℕ)) (piece : Piece) (n : ℕ) → tokens_of at (ps ++ (piece, n) ∷ []) ≡ tokens_of at ps ++ tokens_of (at + total_len ps) ((piece, n) ∷ [])
tokens_push at [] piece n = ap (λ i. tokens_of i ((piece, n) ∷ [])) (let e : at ≡ at + 0 = omega arith in e)
tokens_push at ((p.Blank, m) ∷ ps) piece n = tokens_push (at + m) ps piece n ∙ ap (λ i. tokens_of (at + m) ps ++ tokens_of i ((piece, n) ∷ [])) (let e : at + m + total_len ps ≡ at + (m + total_len ps) = omega arith in e)
tokens_push at ((p.Comment, m) ∷ ps) piece n = tokens_push (at + m) ps piece n ∙ ap (λ i. tokens_of (at + m) ps ++ tokens_of i ((piece, n) ∷ [])) (let e : at + m + total_len ps ≡ at + (m + total_len ps) = omega arith in e)
tokens_push at ((p.Token kind, m) ∷ ps) piece n = ap (λ l. record { kind = kind; from = at; until = at + m } ∷ l) (tokens_push (at + m) ps piece n ∙ ap (λ i. tokens_of (at + m) ps ++ tokens_of i ((piece, n) ∷ [])) (let e : at + m + total_len ps ≡ at + (m + total_len ps) = omega arith in e))

-- the body of a text, cut up to this place, has these tokens so far
pub record SoFar (text body : List ℕ) (skipped at : ℕ) (rest : List ℕ) (tokens : List Token) : Type 0 where
  pub pieces : List (Piece × ℕ)
  pub cut : Cut body pieces rest
  pub listed : tokens ≡ tokens_of skipped pieces
  pub place : at ≡ total_len pieces
  pub whole : at + length rest ≡ length body

pub none_yet : (text body : List ℕ) (skipped : ℕ) → SoFar text body skipped 0 body []
none_yet text body skipped = record { pieces = []; cut = refl; listed = refl; place = refl; whole = omega arith }

pub one_on : (text body : List ℕ) (skipped at : ℕ) (rest : List ℕ) (tokens : List Token) (piece : Piece) (n : ℕ) → SoFar text body skipped at rest tokens → IsNext rest piece n → SoFar text body skipped (at + n) (drop n rest) (tokens ++ tokens_of (skipped + at) ((piece, n) ∷ []))
one_on text body skipped at rest tokens piece n s x = record {
  pieces = s.pieces ++ (piece, n) ∷ [];
  cut = cut_push body rest s.pieces piece n s.cut x;
  listed = ap (λ l. l ++ tokens_of (skipped + at) ((piece, n) ∷ [])) s.listed ∙ ap (λ i. tokens_of skipped s.pieces ++ tokens_of i ((piece, n) ∷ [])) (let p = s.place in let e : skipped + at ≡ skipped + total_len s.pieces = omega arith in e) ∙ sym (tokens_push skipped s.pieces piece n);
  place = (let p = s.place in let q = total_push s.pieces piece n in omega arith);
  whole = (let w = s.whole in let p = x.within in let q = length-drop n rest in omega arith);
}

-- a text is cut in one way
pub one_cut : (text rest other : List ℕ) (ps qs : List (Piece × ℕ)) → Cut text ps rest → IsOver rest → Cut text qs other → IsOver other → (ps ≡ qs) × (rest ≡ other)
one_cut text rest other [] [] c o d p = (refl, sym c ∙ d)
one_cut text rest other [] (q ∷ qs) c o d p = absurd (o q.0 q.1 (subst (λ t. IsNext t q.0 q.1) c d.0))
one_cut text rest other (a ∷ ps) [] c o d p = absurd (p a.0 a.1 (subst (λ t. IsNext t a.0 a.1) d c.0))
one_cut text rest other (a ∷ ps) (b ∷ qs) c o d p =
    let same = one_next text a.0 b.0 a.1 b.1 c.0 d.0 in
    let tail = one_cut (drop a.1 text) rest other ps qs c.1 o (subst (λ i. Cut (drop i text) qs other) (sym same.1) d.1) p in
    (ap (λ k. (k, a.1) ∷ ps) same.0 ∙ ap (λ i. (b.0, i) ∷ ps) same.1 ∙ ap (λ l. b ∷ l) tail.0, tail.1)

-- ---- tokens
first_token : (text : List ℕ) (at n : ℕ) (kind : TokenKind) → at ≤ length text → IsNext (drop at text) (p.Token kind) n → IsTokenOf text (record { kind = kind; from = at; until = at + n })
first_token text at n kind w x =
    let some = fits_some (p.Token kind) n (drop at text) x.is in
    let within = x.within in
    let size = length-drop at text in
    let back : n ≡ at + n - at = omega arith in
    record {
      some = omega arith;
      within = omega arith;
      spelled = subst (λ i. SpellsToken kind (take i (drop at text))) back x.is;
    }

further : (text : List ℕ) (at n : ℕ) (piece : Piece) → at ≤ length text → IsNext (drop at text) piece n → at + n ≤ length text
further text at n piece w x = let within = x.within in let size = length-drop at text in omega arith

moved : (text : List ℕ) (at n : ℕ) (ps : List (Piece × ℕ)) (rest : List ℕ) → Cut (drop n (drop at text)) ps rest → Cut (drop (at + n) text) ps rest
moved text at n ps rest c = subst (λ t. Cut t ps rest) (drop-drop n at text) c

-- each token's bytes are a slice of the text, and spell its kind
pub cut_tokens : (text : List ℕ) (at : ℕ) (ps : List (Piece × ℕ)) (rest : List ℕ) → at ≤ length text → Cut (drop at text) ps rest → (k : ℕ) (d : Token) → k < length (tokens_of at ps) → IsTokenOf text (get_or (tokens_of at ps) k d)
cut_tokens text at [] rest w c k d l = absurd (omega arith)
cut_tokens text at ((p.Blank, n) ∷ ps) rest w c k d l = cut_tokens text (at + n) ps rest (further text at n p.Blank w c.0) (moved text at n ps rest c.1) k d l
cut_tokens text at ((p.Comment, n) ∷ ps) rest w c k d l = cut_tokens text (at + n) ps rest (further text at n p.Comment w c.0) (moved text at n ps rest c.1) k d l
cut_tokens text at ((p.Token kind, n) ∷ ps) rest w c zero d l = first_token text at n kind w c.0
cut_tokens text at ((p.Token kind, n) ∷ ps) rest w c (suc k) d l = cut_tokens text (at + n) ps rest (further text at n (p.Token kind) w c.0) (moved text at n ps rest c.1) k d (omega arith)

-- ---- one answer
nothing_over : IsOver []
nothing_over piece n x = let some = fits_some piece n [] x.is in let w = x.within in omega arith

pub one_list : (text : List ℕ) (tokens others : List Token) → Lexes text tokens → Lexes text others → tokens ≡ others
one_list text tokens others a b =
    let same = one_cut (unmarked text) [] [] a.pieces b.pieces a.cut nothing_over b.cut nothing_over in
    a.listed ∙ ap (tokens_of (mark_len text)) same.0 ∙ sym b.listed

pub one_place : (text : List ℕ) (line column other_line other_column : ℕ) → Stops text line column → Stops text other_line other_column → (line ≡ other_line) × (column ≡ other_column)
one_place text line column other_line other_column a b =
    let same = one_cut (unmarked text) a.rest b.rest a.pieces b.pieces a.cut a.over b.cut b.over in
    (a.line_is ∙ ap (λ ps. line_at (unmarked text) (total_len ps)) same.0 ∙ sym b.line_is, a.column_is ∙ ap (λ ps. column_at (unmarked text) (total_len ps)) same.0 ∙ sym b.column_is)

pub never_both : (text : List ℕ) (tokens : List Token) (line column : ℕ) → Lexes text tokens → Stops text line column → ⊥
never_both text tokens line column a b =
    let same = one_cut (unmarked text) [] b.rest a.pieces b.pieces a.cut nothing_over b.cut b.over in
    let some = b.some in
    let size = ap length same.1 in
    omega arith

-- ---- some answer
-- a text, cut as far as it goes
record CutUp (text : List ℕ) : Type 0 where
  pieces : List (Piece × ℕ)
  rest : List ℕ
  cut : Cut text pieces rest
  over : IsOver rest

-- at most so many pieces, where the next one is known
cut_up : (fuel : ℕ) (text : List ℕ) (next : Option (Piece × ℕ)) → next ≡ next_piece text → length text ≤ fuel → CutUp text
cut_up fuel text None is w = record { pieces = []; rest = text; cut = refl; over = none_of text None is }
cut_up zero text (Some q) is w =
    let found : IsNext text q.0 q.1 = found_of text (Some q) is in
    let some = fits_some q.0 q.1 text found.is in
    let within = found.within in
    absurd (omega arith)
cut_up (suc fuel) text (Some q) is w =
    let found : IsNext text q.0 q.1 = found_of text (Some q) is in
    let some = fits_some q.0 q.1 text found.is in
    let size = length-drop q.1 text in
    let more = cut_up fuel (drop q.1 text) (next_piece (drop q.1 text)) refl (omega arith) in
    record { pieces = q ∷ more.pieces; rest = more.rest; cut = (found, more.cut); over = more.over }

answer_by : (text : List ℕ) (pieces : List (Piece × ℕ)) (rest : List ℕ) → Cut (unmarked text) pieces rest → IsOver rest → ((tokens : List Token) × Lexes text tokens) ⊎ ((line : ℕ) × (column : ℕ) × Stops text line column)
answer_by text pieces [] cut over = inl (tokens_of (mark_len text) pieces, record { pieces = pieces; cut = cut; listed = refl })
answer_by text pieces (b ∷ bs) cut over = inr (line_at (unmarked text) (total_len pieces), column_at (unmarked text) (total_len pieces), record { pieces = pieces; rest = b ∷ bs; cut = cut; some = omega arith; over = over; line_is = refl; column_is = refl })

pub some_answer : (text : List ℕ) → ((tokens : List Token) × Lexes text tokens) ⊎ ((line : ℕ) × (column : ℕ) × Stops text line column)
some_answer text =
    let all = cut_up (length (unmarked text)) (unmarked text) (next_piece (unmarked text)) refl (omega arith) in
    answer_by text all.pieces all.rest all.cut all.over

-- ---- words
name_byte_ascii : (b : ℕ) → is_name_byte b ≡ true → b < 128
name_byte_ascii b h = grind (arith, nat_tests)

name_bytes_ascii : (bs : List ℕ) → list_all is_name_byte bs ≡ true → IsAscii bs
name_bytes_ascii [] h i = omega arith
name_bytes_ascii (b ∷ bs) h zero = name_byte_ascii b (and_parts (is_name_byte b) (list_all is_name_byte bs) h).0
name_bytes_ascii (b ∷ bs) h (suc i) = name_bytes_ascii bs (and_parts (is_name_byte b) (list_all is_name_byte bs) h).1 i

pub word_spelling : (text : List ℕ) (token : Token) → IsTokenOf text token → token.kind ≡ t.Word → utf8_lossy (slice_range text token.from token.until) ≡ slice_range text token.from token.until
word_spelling text token is word =
    let bytes = slice_range text token.from token.until in
    let spelled : SpellsToken t.Word bytes = subst (λ k. SpellsToken k bytes) word is.spelled in
    utf8_lossy-IsUtf8 bytes (IsUtf8-from_ascii bytes (name_bytes_ascii bytes (name_bytes bytes spelled.form)))
