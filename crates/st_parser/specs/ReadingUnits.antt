-- The declarations, blocks, programs and units at the front of lexemes, and the lexemes after them.
use Rattle.std.specs.Prelude.{ℕ, Bool, List, [], ◌∷◌, drop, Option, Some, None, is_some, if◌then◌else◌}
use Rattle.st_lexer.specs.declared.token.Keyword.TheVariants as k
use Rattle.plant_types.specs.declared.values.Bounds.{Bounds}
use Rattle.plant_types.specs.declared.values.Region.{Region}
use Rattle.st_lexer.specs.declared.token.Symbol.TheVariants as s
use Rattle.st_expressions.specs.Lexemes.{Lexeme, keyword, address}
use Rattle.st_parser.specs.Declarations.{kind_of_word, sort_of, section_of, closing_keyword}
use Rattle.plant_types.specs.Options.{◌>>=◌}
use Rattle.st_expressions.specs.Reading.{word_at, is_symbol, is_keyword, is_word, symbol_at, keyword_at, with_first, all_at, perhaps_at, after_symbol, others_at, table_next, table_at, expression_at}
use Rattle.st_parser.specs.ReadingStatements.{number_at, body_at}
use Rattle.st_parser.specs.Units.{PlainDeclaration, PlainSection, PlainPou, PlainUnit}
use Rattle.st_parser.specs.declared.unit.PouKind.{PouKind}
use Rattle.st_parser.specs.declared.unit.PouKind.TheVariants as pou
use Rattle.st_parser.specs.declared.unit.SectionKind.TheVariants as section
use Rattle.st_parser.specs.declared.unit.Sort.{Sort}
use Rattle.st_parser.specs.declared.unit.Sort.TheVariants as sort

abbrev pub address_at : List Lexeme → Option (Region × List Lexeme)
address_at (address r ∷ ts) = Some (r, ts)
address_at _ = None

-- the bounds of an array in their brackets
unfoldable pub limits_at : List Lexeme → Option (Bounds × List Lexeme)
limits_at ts =
    symbol_at s.OpenBracket ts >>= λ opened. number_at opened >>= λ low. symbol_at s.Range low.1 >>= λ dots. number_at dots >>= λ high. symbol_at s.CloseBracket high.1 >>= λ rest.
    Some (record { low = low.0; high = high.0 }, rest)

-- after ARRAY
unfoldable pub array_at : List Lexeme → Option (Sort × List Lexeme)
array_at ts = limits_at ts >>= λ bounds. keyword_at k.Of bounds.1 >>= λ inside. table_at kind_of_word inside >>= λ kind. Some (sort.Array bounds.0 kind.0, kind.1)

-- what variables are declared as
unfoldable pub sort_at : List Lexeme → Option (Sort × List Lexeme)
sort_at ts = if is_keyword k.Array ts then array_at (drop 1 ts) else table_at sort_of ts

-- after what is declared: an initial value, and the semicolon
unfoldable pub initial_at : List (List ℕ) → Option Region → Sort → List Lexeme → Option (PlainDeclaration × List Lexeme)
initial_at names region what ts =
    perhaps_at (is_symbol s.Becomes) (after_symbol s.Becomes expression_at) ts >>= λ initial. symbol_at s.Semicolon initial.1 >>= λ rest.
    Some (record { names = names; region = region; sort = what; initial = initial.0 }, rest)

-- after the first name
unfoldable pub declared_at : List ℕ → List Lexeme → Option (PlainDeclaration × List Lexeme)
declared_at name ts = with_first (name ∷ []) (others_at word_at ts) >>= λ names. symbol_at s.Colon names.1 >>= λ colon. sort_at colon >>= λ what. initial_at names.0 None what.0 what.1

-- after the name and AT
unfoldable pub placed_at : List ℕ → List Lexeme → Option (PlainDeclaration × List Lexeme)
placed_at name ts = address_at ts >>= λ region. symbol_at s.Colon region.1 >>= λ colon. table_at kind_of_word colon >>= λ what. initial_at (name ∷ []) (Some region.0) (sort.Kind what.0) what.1

unfoldable pub declaration_at : List Lexeme → Option (PlainDeclaration × List Lexeme)
declaration_at ts = word_at ts >>= λ name. declared_at name.0 name.1

unfoldable pub global_at : List Lexeme → Option (PlainDeclaration × List Lexeme)
global_at ts = word_at ts >>= λ name. if is_keyword k.At name.1 then placed_at name.0 (drop 1 name.1) else declared_at name.0 name.1

unfoldable pub globals_at : List Lexeme → Option (PlainSection × List Lexeme)
globals_at ts = keyword_at k.VarGlobal ts >>= λ inside. all_at is_word global_at inside >>= λ all. keyword_at k.EndVar all.1 >>= λ rest. Some (record { kind = section.Global; declarations = all.0 }, rest)

-- whether a section is next that a block or a program may have
abbrev pub is_section : PouKind → List Lexeme → Bool
is_section kind ts = is_some (table_next (section_of kind) ts)

unfoldable pub section_at : PouKind → List Lexeme → Option (PlainSection × List Lexeme)
section_at kind ts = table_at (section_of kind) ts >>= λ what. all_at is_word declaration_at what.1 >>= λ all. keyword_at k.EndVar all.1 >>= λ rest. Some (record { kind = what.0; declarations = all.0 }, rest)

-- the kind of unit that a keyword opens
abbrev pub pou_of : Lexeme → Option PouKind
pou_of (keyword k.FunctionBlock) = Some pou.Block
pou_of (keyword k.Program) = Some pou.Program
pou_of _ = None

abbrev pub is_pou : List Lexeme → Bool
is_pou ts = is_some (table_next pou_of ts)

unfoldable pub pou_at : List Lexeme → Option (PlainPou × List Lexeme)
pou_at ts =
    table_at pou_of ts >>= λ kind. word_at kind.1 >>= λ name. all_at (is_section kind.0) (section_at kind.0) name.1 >>= λ sections. body_at sections.1 >>= λ body. keyword_at (closing_keyword kind.0) body.1 >>= λ rest.
    Some (record { kind = kind.0; name = name.0; sections = sections.0; body = body.0 }, rest)

unfoldable pub unit_at : List Lexeme → Option (PlainUnit × List Lexeme)
unit_at ts = all_at (is_keyword k.VarGlobal) globals_at ts >>= λ globals. all_at is_pou pou_at globals.1 >>= λ pous. Some (record { globals = globals.0; pous = pous.0 }, pous.1)
