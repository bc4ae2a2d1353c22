-- The tokens of a text, and the place where no piece is next.
use Rattle.std.specs.Prelude.{◌≡◌, ℕ, ◌+◌, ◌-◌, ◌<◌, ◌≤◌, nat_eq, if◌then◌else◌, List, [], ◌∷◌, length, drop, slice_get, Result, Ok, Err}
use Rattle.std.specs.Prelude.{Vec}
use Rattle.std.specs.List.{starts_with, slice_range}
use Rattle.std.specs.Option.{option_map_or}
use Rattle.std.specs.declared.alloc.Global.{Global}
use Rattle.st_lexer.specs.declared.token.Token.{Token}
use Rattle.st_lexer.specs.declared.piece.Piece.{Piece}
use Rattle.st_lexer.specs.declared.piece.Piece.TheVariants as p
use Rattle.st_lexer.specs.declared.lexer.LexFault.{LexFault}
use Rattle.st_lexer.specs.declared.lexer.LexFault.TheVariants as f
use Rattle.st_lexer.specs.Spellings.{SpellsToken}
use Rattle.st_lexer.specs.Pieces.{Cut, IsOver, total_len}
use Rattle.st_lexer.specs.Places.{line_at, column_at}

-- the bytes of a byte order mark that a text begins with, which is skipped
abbrev pub mark_len : List ℕ → ℕ
mark_len text = if starts_with nat_eq text (239 ∷ 187 ∷ 191 ∷ []) then 3 else 0

-- the text after it
abbrev pub unmarked : List ℕ → List ℕ
unmarked text = drop (mark_len text) text

-- where the token of this number begins, or where the text ends if it has fewer tokens; a byte order mark isn't counted
abbrev pub start_of : List ℕ → List Token → ℕ → ℕ
start_of text tokens number = option_map_or (λ t. t.from) (slice_get tokens number) (length text) - mark_len text

-- the tokens among pieces, with their places, where the first piece is at this place
abbrev pub tokens_of : ℕ → List (Piece × ℕ) → List Token
tokens_of at [] = []
tokens_of at ((p.Blank, n) ∷ ps) = tokens_of (at + n) ps
tokens_of at ((p.Comment, n) ∷ ps) = tokens_of (at + n) ps
tokens_of at ((p.Token kind, n) ∷ ps) = record { kind = kind; from = at; until = at + n } ∷ tokens_of (at + n) ps

-- the whole text is a list of pieces, and these are its tokens
pub record Lexes (text : List ℕ) (tokens : List Token) : Type 0 where
  pub pieces : List (Piece × ℕ)
  pub cut : Cut (unmarked text) pieces []
  pub listed : tokens ≡ tokens_of (mark_len text) pieces

-- taken from the start, no piece is next at this line and column, and the text is not at its end
pub record Stops (text : List ℕ) (line column : ℕ) : Type 0 where
  pub pieces : List (Piece × ℕ)
  pub rest : List ℕ
  pub cut : Cut (unmarked text) pieces rest
  pub some : 0 < length rest
  pub over : IsOver rest
  pub line_is : line ≡ line_at (unmarked text) (total_len pieces)
  pub column_is : column ≡ column_at (unmarked text) (total_len pieces)

-- a token of the text: its bytes are the slice from one place until the other, and they spell its kind
pub record IsTokenOf (text : List ℕ) (token : Token) : Type 0 where
  pub some : token.from < token.until
  pub within : token.until ≤ length text
  pub spelled : SpellsToken token.kind (slice_range text token.from token.until)

-- a fact of the line and column of a fault, if there is one
abbrev pub IfBad : Result (Vec Token Global) LexFault → (ℕ → ℕ → Type 0) → Type 0
IfBad (Ok tokens) P = Unit {0}
IfBad (Err f.Memory) P = Unit {0}
IfBad (Err (f.Bad line column)) P = P line column
