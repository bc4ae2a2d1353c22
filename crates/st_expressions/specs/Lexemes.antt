-- Tokens as the grammar sees them.
use Rattle.std.specs.Prelude.{ℕ, List, [], ◌∷◌, map, length, nat_le, ◌&&◌, if◌then◌else◌, slice_range}
use Rattle.std.specs.Str.Lossy.{utf8_lossy}
use Rattle.plant_types.specs.declared.values.Value.{Value}
use Rattle.plant_types.specs.declared.values.Value.TheVariants as value
use Rattle.st_lexer.specs.declared.token.Keyword.{Keyword}
use Rattle.plant_types.specs.declared.values.Region.{Region}
use Rattle.st_lexer.specs.declared.token.Symbol.{Symbol}
use Rattle.st_lexer.specs.declared.token.Token.{Token}
use Rattle.st_lexer.specs.declared.token.TokenKind.{TokenKind}
use Rattle.st_lexer.specs.declared.token.TokenKind.TheVariants as kind

-- a word with its spelling, a keyword, a bare integer, a typed literal, an address or a symbol
pub data Lexeme : Type 0 where
  word : List ℕ → Lexeme
  keyword : Keyword → Lexeme
  integer : ℕ → Lexeme
  typed : Value → Lexeme
  address : Region → Lexeme
  symbol : Symbol → Lexeme

-- the text from one byte until another; a span outside the text has none
abbrev pub slice_of : List ℕ → ℕ → ℕ → List ℕ
slice_of text from until = if nat_le from until && nat_le until (length text) then slice_range text from until else []

-- a token's lexeme, by its kind and its spelling
abbrev pub lexeme_of : TokenKind → List ℕ → Lexeme
lexeme_of kind.Word spelling = word spelling
lexeme_of (kind.Keyword k) spelling = keyword k
lexeme_of (kind.Integer n) spelling = integer n
lexeme_of (kind.Dint n) spelling = typed (value.Dint n)
lexeme_of (kind.Truth b) spelling = typed (value.Bool b)
lexeme_of (kind.Duration n) spelling = typed (value.Time n)
lexeme_of (kind.Address r) spelling = address r
lexeme_of (kind.Symbol s) spelling = symbol s

-- the lexemes of a text's tokens; a spelling is the token's bytes, as long as they are text
abbrev pub lexemes : List ℕ → List Token → List Lexeme
lexemes text tokens = map (λ t. lexeme_of t.kind (utf8_lossy (slice_of text t.from t.until))) tokens

-- the spelling of the first lexeme, where it is a word
abbrev pub first_name : List Lexeme → List ℕ
first_name (word name ∷ ts) = name
first_name _ = []
