-- Which lexemes spell which declarations, blocks, programs and units.
use Rattle.std.specs.Prelude.{◌≡◌, ℕ, ℤ, List, [], ◌∷◌, ◌++◌, Option, Some, None}
use Rattle.plant_types.specs.declared.values.Bounds.{Bounds}
use Rattle.plant_types.specs.declared.values.Kind.{Kind}
use Rattle.plant_types.specs.declared.values.Kind.TheVariants as kind
use Rattle.st_lexer.specs.declared.token.Keyword.{Keyword}
use Rattle.st_lexer.specs.declared.token.Keyword.TheVariants as k
use Rattle.plant_types.specs.declared.values.Region.{Region}
use Rattle.st_lexer.specs.declared.token.Symbol.TheVariants as s
use Rattle.st_tree.specs.Plain.{PlainExpr, PlainBody}
use Rattle.st_expressions.specs.Lexemes.{Lexeme, word, keyword, address, symbol}
use Rattle.st_expressions.specs.Phrases.{Each, Perhaps, After, Listed}
use Rattle.st_expressions.specs.Grammar.{IsExpression}
use Rattle.st_parser.specs.Statements.{IsNumber, IsBody}
use Rattle.st_parser.specs.Units.{PlainDeclaration, PlainSection, PlainPou, PlainUnit}
use Rattle.st_parser.specs.declared.unit.PouKind.{PouKind}
use Rattle.st_parser.specs.declared.unit.PouKind.TheVariants as pou
use Rattle.st_parser.specs.declared.unit.SectionKind.{SectionKind}
use Rattle.st_parser.specs.declared.unit.SectionKind.TheVariants as section
use Rattle.st_parser.specs.declared.unit.Sort.{Sort}
use Rattle.st_parser.specs.declared.unit.Sort.TheVariants as sort

-- a word by itself
abbrev pub IsName : List Lexeme → List ℕ → Type 0
IsName ts name = ts ≡ word name ∷ []

-- the kind that a keyword names
abbrev pub kind_of_word : Lexeme → Option Kind
kind_of_word (keyword k.Bool) = Some kind.Bool
kind_of_word (keyword k.Dint) = Some kind.Dint
kind_of_word (keyword k.Time) = Some kind.Time
kind_of_word _ = None

-- what a lexeme by itself declares variables as: of a kind, or as instances of a block type
abbrev pub sort_of : Lexeme → Option Sort
sort_of (keyword k.Bool) = Some (sort.Kind kind.Bool)
sort_of (keyword k.Dint) = Some (sort.Kind kind.Dint)
sort_of (keyword k.Time) = Some (sort.Kind kind.Time)
sort_of (word name) = Some (sort.Block name)
sort_of _ = None

-- the bounds of an array in their brackets
pub data IsBounds (ts : List Lexeme) (bounds : Bounds) : Type 0 where
  between : (low high : ℤ) (x y : List Lexeme) → IsNumber x low → IsNumber y high → ts ≡ symbol s.OpenBracket ∷ (x ++ symbol s.Range ∷ (y ++ symbol s.CloseBracket ∷ [])) → bounds ≡ record { low = low; high = high } → IsBounds ts bounds

-- what variables may be declared as: what a lexeme by itself does, or as arrays
pub data IsSort (ts : List Lexeme) (what : Sort) : Type 0 where
  simple : (t : Lexeme) → sort_of t ≡ Some what → ts ≡ t ∷ [] → IsSort ts what
  array : (bounds : Bounds) (t : Lexeme) (kind : Kind) (x : List Lexeme) → IsBounds x bounds → kind_of_word t ≡ Some kind → ts ≡ keyword k.Array ∷ (x ++ keyword k.Of ∷ t ∷ []) → what ≡ sort.Array bounds kind → IsSort ts what

-- a declaration of names
pub data Declares (ts : List Lexeme) (d : PlainDeclaration) : Type 0 where
  declaration : (names : List (List ℕ)) (what : Sort) (initial : Option (PlainExpr (List ℕ))) (x y z : List Lexeme) → Listed IsName x names → IsSort y what → Perhaps (After (symbol s.Becomes) IsExpression) z initial
      → ts ≡ x ++ symbol s.Colon ∷ (y ++ (z ++ symbol s.Semicolon ∷ [])) → d ≡ record { names = names; region = None; sort = what; initial = initial } → Declares ts d

-- a declaration of globals, one of which may have an address
pub data DeclaresGlobal (ts : List Lexeme) (d : PlainDeclaration) : Type 0 where
  placed : (name : List ℕ) (r : Region) (t : Lexeme) (what : Kind) (initial : Option (PlainExpr (List ℕ))) (y : List Lexeme) → kind_of_word t ≡ Some what → Perhaps (After (symbol s.Becomes) IsExpression) y initial
      → ts ≡ word name ∷ keyword k.At ∷ address r ∷ symbol s.Colon ∷ t ∷ (y ++ symbol s.Semicolon ∷ []) → d ≡ record { names = name ∷ []; region = Some r; sort = sort.Kind what; initial = initial } → DeclaresGlobal ts d
  anywhere : Declares ts d → DeclaresGlobal ts d

-- a section of globals
pub data Globals (ts : List Lexeme) (sec : PlainSection) : Type 0 where
  globals : (all : List PlainDeclaration) (x : List Lexeme) → Each DeclaresGlobal x all → ts ≡ keyword k.VarGlobal ∷ (x ++ keyword k.EndVar ∷ []) → sec ≡ record { kind = section.Global; declarations = all } → Globals ts sec

-- the sections that a block or a program may have
abbrev pub section_of : PouKind → Lexeme → Option SectionKind
section_of kind (keyword k.Var) = Some section.Local
section_of kind (keyword k.VarExternal) = Some section.External
section_of pou.Block (keyword k.VarInput) = Some section.Input
section_of pou.Block (keyword k.VarOutput) = Some section.Output
section_of _ _ = None

-- a section of a block or a program
pub data IsSection (kind : PouKind) (ts : List Lexeme) (sec : PlainSection) : Type 0 where
  variables : (t : Lexeme) (what : SectionKind) (all : List PlainDeclaration) (x : List Lexeme) → section_of kind t ≡ Some what → Each Declares x all → ts ≡ t ∷ (x ++ keyword k.EndVar ∷ []) → sec ≡ record { kind = what; declarations = all } → IsSection kind ts sec

-- the keyword that opens a block or a program
abbrev pub opening_keyword : PouKind → Keyword
opening_keyword pou.Block = k.FunctionBlock
opening_keyword pou.Program = k.Program

-- the keyword that closes it
abbrev pub closing_keyword : PouKind → Keyword
closing_keyword pou.Block = k.EndFunctionBlock
closing_keyword pou.Program = k.EndProgram

-- a block or a program
pub data IsPou (ts : List Lexeme) (p : PlainPou) : Type 0 where
  organised : (kind : PouKind) (name : List ℕ) (sections : List PlainSection) (body : PlainBody (List ℕ)) (x y : List Lexeme) → Each (IsSection kind) x sections → IsBody y body
      → ts ≡ keyword (opening_keyword kind) ∷ word name ∷ (x ++ (y ++ keyword (closing_keyword kind) ∷ [])) → p ≡ record { kind = kind; name = name; sections = sections; body = body } → IsPou ts p

-- a unit: sections of globals, then blocks and programs
pub data SpellsUnit (ts : List Lexeme) (u : PlainUnit) : Type 0 where
  unit : (globals : List PlainSection) (pous : List PlainPou) (x y : List Lexeme) → Each Globals x globals → Each IsPou y pous → ts ≡ x ++ y → u ≡ record { globals = globals; pous = pous } → SpellsUnit ts u
