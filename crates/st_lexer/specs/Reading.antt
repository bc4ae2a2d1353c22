-- How the code finds the next piece: functions that find what the definitions describe.
use Rattle.std.specs.Prelude.{ℕ, ◌+◌, ◌==◌, not, ◌&&◌, if◌then◌else◌, List, [], ◌∷◌, take, drop, find, Option, Some, None, option_map}
use Rattle.std.specs.List.{prefix_len}
use Rattle.std.specs.Char.{is_ascii_digit}
use Rattle.plant_types.specs.Words.{is_name, same_word}
use Rattle.st_lexer.specs.declared.bytes.First.{First}
use Rattle.st_lexer.specs.declared.bytes.First.TheVariants as f
use Rattle.st_lexer.specs.declared.token.Keyword.{Keyword}
use Rattle.st_lexer.specs.declared.token.Symbol.{Symbol}
use Rattle.st_lexer.specs.declared.token.Symbol.TheVariants as s
use Rattle.plant_types.specs.declared.values.Region.{Region}
use Rattle.plant_types.specs.declared.values.Region.TheVariants as r
use Rattle.st_lexer.specs.declared.token.TokenKind.{TokenKind}
use Rattle.st_lexer.specs.declared.token.TokenKind.TheVariants as t
use Rattle.st_lexer.specs.declared.piece.Piece.{Piece}
use Rattle.st_lexer.specs.declared.piece.Piece.TheVariants as p
use Rattle.st_lexer.specs.declared.tables.TheConstants.{KEYWORDS}
use Rattle.st_lexer.specs.Bytes.{begins_by, stands_apart, first_of}
use Rattle.st_lexer.specs.Tables.{spelling}
use Rattle.plant_types.specs.Options.{◌>>=◌}
use Rattle.st_lexer.specs.ReadingLiterals.{linked_len, parse_integer, tied_len, lettered_len, parse_literal}
use Rattle.st_lexer.specs.Addresses.{same_letter, is_size}

-- ---- words
-- the keyword that a word is, in any letter case
abbrev pub keyword_of : List ℕ → Option Keyword
keyword_of word = find (λ k. same_word word (spelling k)) KEYWORDS

-- a keyword, or else a word
abbrev pub keyword_or_word : Option Keyword → TokenKind
keyword_or_word None = t.Word
keyword_or_word (Some k) = t.Keyword k

-- the token that bytes are which begin with a letter
unfoldable pub word_or_literal : List ℕ → Option TokenKind
word_or_literal bs = if is_name bs then Some (keyword_or_word (keyword_of bs)) else parse_literal bs

-- ---- addresses
-- how many bytes at the front are a place
unfoldable pub place_len : List ℕ → ℕ
place_len bs = if begins_by (λ b. b == 42) bs then 1 else if begins_by is_ascii_digit bs then linked_len is_ascii_digit 46 bs else 0

-- the region of a letter, in any case
unfoldable pub region_of : ℕ → Option Region
region_of b = if same_letter b 73 then Some r.Input else if same_letter b 81 then Some r.Output else if same_letter b 77 then Some r.Plain else None

-- the address of this region, if a place follows the bytes that were skipped after `%`
unfoldable pub placed : Region → ℕ → List ℕ → Option (Region × ℕ)
placed region skipped bs = if place_len bs == 0 then None else Some (region, skipped + place_len bs)

-- the region of what follows `%` in an address, and how many bytes follow `%`
abbrev pub parse_address : List ℕ → Option (Region × ℕ)
parse_address [] = None
parse_address (l ∷ bs) = region_of l >>= λ region. if begins_by is_size bs then placed region 2 (drop 1 bs) else placed region 1 bs

-- the address whose `%` is split off, and its length with it
unfoldable pub next_address : List ℕ → Option (Piece × ℕ)
next_address bs = parse_address bs >>= λ a. if stands_apart (drop a.1 bs) then Some (p.Token (t.Address a.0), a.1 + 1) else None

-- ---- comments and symbols
-- how many bytes to the end of the first `*` that the mark follows
abbrev pub closing_len : ℕ → ℕ → List ℕ → Option ℕ
closing_len n mark [] = None
closing_len n mark (b ∷ bs) = if b == 42 && begins_by (λ c. c == mark) bs then Some (n + 2) else closing_len (n + 1) mark bs

-- how many bytes to the next line feed, or to the end
unfoldable pub line_len : List ℕ → ℕ
line_len bs = prefix_len (λ b. not (b == 10)) bs

-- what the first pair with this number has
abbrev pub paired_with : {A : Type 0} → ℕ → List (ℕ × A) → Option A
paired_with n [] = None
paired_with n (e ∷ es) = if n == e.0 then Some e.1 else paired_with n es

-- the symbols of one byte
abbrev pub single_symbols : List (ℕ × Symbol)
single_symbols = (58, s.Colon) ∷ (59, s.Semicolon) ∷ (44, s.Comma) ∷ (40, s.Open) ∷ (41, s.Close) ∷ (91, s.OpenBracket) ∷ (93, s.CloseBracket) ∷ (46, s.Point) ∷ (43, s.Plus) ∷ (45, s.Minus) ∷ (42, s.Times) ∷ (47, s.Divide) ∷ (38, s.Ampersand) ∷ (61, s.Equal) ∷ (60, s.Less) ∷ (62, s.Greater) ∷ []

-- the symbol of one byte
unfoldable pub single_symbol : ℕ → Option Symbol
single_symbol b = paired_with b single_symbols

-- the symbol of two bytes
unfoldable pub double_symbol : ℕ → ℕ → Option Symbol
double_symbol a b =
    if a == 58 && b == 61 then Some s.Becomes
    else if a == 61 && b == 62 then Some s.Gives
    else if a == 60 && b == 61 then Some s.AtMost
    else if a == 62 && b == 61 then Some s.AtLeast
    else if a == 60 && b == 62 then Some s.Unequal
    else if a == 46 && b == 46 then Some s.Range
    else None

-- a symbol as a piece of so many bytes
abbrev pub as_symbol : ℕ → Symbol → Piece × ℕ
as_symbol n symbol = (p.Token (t.Symbol symbol), n)

-- the first value, or else the second
abbrev pub first_some : {A : Type 0} → Option A → Option A → Option A
first_some (Some x) other = Some x
first_some None other = other

-- the symbol of two bytes, or else of the first one
unfoldable pub symbol_piece : ℕ → ℕ → Option (Piece × ℕ)
symbol_piece a b = first_some (option_map (as_symbol 2) (double_symbol a b)) (option_map (as_symbol 1) (single_symbol a))

-- a comment with so many bytes after its two opening bytes
abbrev pub as_comment : ℕ → Piece × ℕ
as_comment n = (p.Comment, n + 2)

-- the comment or the symbol that begins with this byte
abbrev pub next_mark : ℕ → List ℕ → Option (Piece × ℕ)
next_mark a [] = option_map (as_symbol 1) (single_symbol a)
next_mark a (b ∷ inner) =
    if a == 40 && b == 42 then option_map as_comment (closing_len 0 41 inner)
    else if a == 47 && b == 42 then option_map as_comment (closing_len 0 47 inner)
    else if a == 47 && b == 47 then Some (as_comment (line_len inner))
    else symbol_piece a b

-- ---- the next piece
-- the token that the first bytes are, as many as this extent, and their number
unfoldable pub front_token : (List ℕ → ℕ) → (List ℕ → Option TokenKind) → List ℕ → Option (Piece × ℕ)
front_token extent classify text = option_map (λ kind. (p.Token kind, extent text)) (classify (take (extent text) text))

-- the whole number that bytes are
abbrev pub integer_token : List ℕ → Option TokenKind
integer_token bs = option_map (λ n. t.Integer n) (parse_integer bs)

-- the next piece, by the kind that its first byte begins
abbrev pub next_by_class : First → ℕ → List ℕ → Option (Piece × ℕ)
next_by_class f.Blank b bs = Some (p.Blank, 1)
next_by_class f.Letter b bs = front_token lettered_len word_or_literal (b ∷ bs)
next_by_class f.Digit b bs = front_token tied_len integer_token (b ∷ bs)
next_by_class f.Percent b bs = next_address bs
next_by_class f.Mark b bs = next_mark b bs

-- the next piece and its length
abbrev pub next_piece : List ℕ → Option (Piece × ℕ)
next_piece [] = None
next_piece (b ∷ bs) = next_by_class (first_of b) b bs
