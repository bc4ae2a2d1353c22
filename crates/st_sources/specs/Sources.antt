-- The units that texts spell, and the first text that spells none.
use Rattle.std.specs.Prelude.{◌≡◌, ⊤, ℕ, ◌≤◌, List, [], ◌∷◌, length, take, slice_get, Some}
use Rattle.st_lexer.specs.declared.token.Token.{Token}
use Rattle.st_lexer.specs.Lexes.{Lexes, Stops, unmarked, start_of}
use Rattle.st_lexer.specs.Places.{line_at, column_at}
use Rattle.st_expressions.specs.Lexemes.{lexemes}
use Rattle.st_parser.specs.Units.{PlainUnit}
use Rattle.st_parser.specs.Declarations.{SpellsUnit}
use Rattle.st_sources.specs.declared.fault.SourceFault.{SourceFault}
use Rattle.st_sources.specs.declared.fault.SourceFault.TheVariants as fault

-- a text has tokens, and these spell a unit
pub record HasUnit (text : List ℕ) (unit : PlainUnit) : Type 0 where
  pub tokens : List Token
  pub lexed : Lexes text tokens
  pub spelled : SpellsUnit (lexemes text tokens) unit

-- the tokens of a text spell no unit; the place is that of one of them, or of the text's end
pub record Unspelled (text : List ℕ) (line column : ℕ) : Type 0 where
  pub tokens : List Token
  pub lexed : Lexes text tokens
  pub no_unit : (unit : PlainUnit) → SpellsUnit (lexemes text tokens) unit → ⊥
  pub token : ℕ
  pub within : token ≤ length tokens
  pub line_is : line ≡ line_at (unmarked text) (start_of text tokens token)
  pub column_is : column ≡ column_at (unmarked text) (start_of text tokens token)

-- each of some texts has a unit, and these are the units in order
abbrev pub HaveUnits : List (List ℕ) → List PlainUnit → Type 0
HaveUnits [] [] = ⊤
HaveUnits [] (unit ∷ units) = ⊥
HaveUnits (text ∷ texts) [] = ⊥
HaveUnits (text ∷ texts) (unit ∷ units) = HasUnit text unit × HaveUnits texts units

-- the text of a number, from 0, where each text before it has a unit
pub record IsReached (texts : List (List ℕ)) (number : ℕ) (text : List ℕ) : Type 0 where
  pub units : List PlainUnit
  pub before : HaveUnits (take number texts) units
  pub text_is : slice_get texts number ≡ Some text

-- why the text of a source has no unit: it has no tokens, or these spell none; memory may be refused at any time
abbrev pub IsTextFault : ℕ → List ℕ → SourceFault → Type 0
IsTextFault source text fault.Memory = ⊤
IsTextFault source text (fault.Spelling number line column) = (number ≡ source) × Stops text line column
IsTextFault source text (fault.Grammar number line column) = (number ≡ source) × Unspelled text line column

-- the number of the source that a fault names
abbrev pub source_in : SourceFault → ℕ
source_in fault.Memory = 0
source_in (fault.Spelling number line column) = number
source_in (fault.Grammar number line column) = number

-- the fault of the first text that has one
pub record IsFirstFault (texts : List (List ℕ)) (found : SourceFault) : Type 0 where
  pub text : List ℕ
  pub reached : IsReached texts (source_in found) text
  pub is_fault : IsTextFault (source_in found) text found

-- why texts have no units
abbrev pub IsSourceFault : List (List ℕ) → SourceFault → Type 0
IsSourceFault texts fault.Memory = ⊤
IsSourceFault texts found = IsFirstFault texts found

-- two faults are the same, Memory and the place of a C5 in its text apart
abbrev pub SameFault : SourceFault → SourceFault → Type 0
SameFault fault.Memory g = ⊤
SameFault (fault.Spelling number line column) fault.Memory = ⊤
SameFault (fault.Spelling number line column) (fault.Spelling other other_line other_column) = (number ≡ other) × (line ≡ other_line) × (column ≡ other_column)
SameFault (fault.Spelling number line column) (fault.Grammar other other_line other_column) = ⊥
SameFault (fault.Grammar number line column) fault.Memory = ⊤
SameFault (fault.Grammar number line column) (fault.Spelling other other_line other_column) = ⊥
SameFault (fault.Grammar number line column) (fault.Grammar other other_line other_column) = number ≡ other
