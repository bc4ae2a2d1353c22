-- A text cut into pieces.
use Rattle.std.specs.Prelude.{◌≡◌, ℕ, ◌+◌, ◌<◌, ◌≤◌, Bool, true, false, IsTrue, List, [], ◌∷◌, length, take, drop}
use Rattle.st_lexer.specs.declared.token.TokenKind.{TokenKind}
use Rattle.st_lexer.specs.declared.token.TokenKind.TheVariants as t
use Rattle.st_lexer.specs.declared.piece.Piece.{Piece}
use Rattle.st_lexer.specs.declared.piece.Piece.TheVariants as p
use Rattle.st_lexer.specs.Bytes.{is_blank, stands_apart}
use Rattle.st_lexer.specs.Comments.{is_comment, begins_comment}
use Rattle.st_lexer.specs.Spellings.{SpellsToken}

-- one space, tab, line feed, form feed or carriage return
abbrev pub is_one_blank : List ℕ → Bool
is_one_blank [] = false
is_one_blank (b ∷ []) = is_blank b
is_one_blank (b ∷ c ∷ bs) = false

-- the bytes are a piece of this kind: a separator or a token
abbrev pub IsPiece : Piece → List ℕ → Type 0
IsPiece p.Blank bs = IsTrue (is_one_blank bs)
IsPiece p.Comment bs = IsTrue (is_comment bs)
IsPiece (p.Token kind) bs = SpellsToken kind bs

-- no word, literal or address is directly followed by a letter, digit, underscore or `#`
abbrev pub token_may_precede : TokenKind → List ℕ → Bool
token_may_precede (t.Symbol symbol) rest = true
token_may_precede _ rest = stands_apart rest

-- these bytes may directly follow a piece
abbrev pub may_precede : Piece → List ℕ → Bool
may_precede p.Blank rest = true
may_precede p.Comment rest = true
may_precede (p.Token kind) rest = token_may_precede kind rest

-- the next piece of a text, and its length: the longest beginning that is one, where a comment begins a comment
pub record IsNext (text : List ℕ) (piece : Piece) (n : ℕ) : Type 0 where
  pub within : n ≤ length text
  pub is : IsPiece piece (take n text)
  pub longest : (other : Piece) (m : ℕ) → n < m → m ≤ length text → IsPiece other (take m text) → ⊥
  pub follows : IsTrue (may_precede piece (drop n text))
  pub comment : IsTrue (begins_comment text) → piece ≡ p.Comment

-- no piece is next
abbrev pub IsOver : List ℕ → Type 0
IsOver text = (piece : Piece) (n : ℕ) → IsNext text piece n → ⊥

-- each is the next piece of what is left, and this rest is left after them
abbrev pub Cut : List ℕ → List (Piece × ℕ) → List ℕ → Type 0
Cut text [] rest = text ≡ rest
Cut text (p ∷ ps) rest = IsNext text p.0 p.1 × Cut (drop p.1 text) ps rest

-- how many bytes pieces have
abbrev pub total_len : List (Piece × ℕ) → ℕ
total_len [] = 0
total_len (p ∷ ps) = p.1 + total_len ps
