-- What spells a token.
use Rattle.std.specs.Prelude.{◌≡◌, ℕ, false, IsTrue, List}
use Rattle.plant_types.specs.Words.{is_name, same_word}
use Rattle.st_lexer.specs.declared.token.Keyword.{Keyword}
use Rattle.st_lexer.specs.declared.token.TokenKind.{TokenKind}
use Rattle.st_lexer.specs.declared.token.TokenKind.TheVariants as t
use Rattle.st_lexer.specs.Tables.{spelling, bytes_of}
use Rattle.st_lexer.specs.Numbers.{IsInteger}
use Rattle.st_lexer.specs.Literals.{IsDint, is_truth}
use Rattle.st_lexer.specs.Durations.{IsDuration}
use Rattle.st_lexer.specs.Addresses.{is_address}

-- a word that is no keyword
pub record IsWord (bs : List ℕ) : Type 0 where
  pub form : IsTrue (is_name bs)
  pub free : (keyword : Keyword) → same_word bs (spelling keyword) ≡ false

-- the bytes spell a token of this kind
abbrev pub SpellsToken : TokenKind → List ℕ → Type 0
SpellsToken t.Word bs = IsWord bs
SpellsToken (t.Keyword keyword) bs = IsTrue (same_word bs (spelling keyword))
SpellsToken (t.Integer n) bs = IsInteger bs n
SpellsToken (t.Dint value) bs = IsDint bs value
SpellsToken (t.Truth value) bs = IsTrue (is_truth value bs)
SpellsToken (t.Duration milliseconds) bs = IsDuration bs milliseconds
SpellsToken (t.Address region) bs = IsTrue (is_address region bs)
SpellsToken (t.Symbol symbol) bs = bs ≡ bytes_of symbol
