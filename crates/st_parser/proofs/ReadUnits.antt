-- Declarations, blocks, programs and units that are spelled are read.
use Rattle.std.proofs.Common.{◌≡◌, ℕ, ◌<◌, true, false, List, [], ◌∷◌, ◌++◌, append_assoc, append-nil, length, length-append, Option, Some, None, is_some, refl, sym, ap, ◌∙◌, arith, inl, inr}
use Rattle.st_lexer.specs.declared.token.Keyword.TheVariants as k
use Rattle.plant_types.specs.declared.values.Region.{Region}
use Rattle.st_lexer.specs.declared.token.Symbol.TheVariants as s
use Rattle.st_tree.specs.Plain.{PlainExpr, PlainBody}
use Rattle.st_expressions.specs.Lexemes.{Lexeme, word, keyword, symbol}
use Rattle.st_expressions.specs.Phrases.{Each, Perhaps, After, after, listed}
use Rattle.st_expressions.specs.Grammar.{IsExpression}
use Rattle.st_parser.specs.Statements.{IsBody}
use Rattle.st_parser.specs.Declarations.{IsName, sort_of, IsBounds, between, IsSort, simple, array, Declares, declaration, DeclaresGlobal, placed, anywhere, Globals, globals, section_of, IsSection, variables, opening_keyword, closing_keyword, IsPou, organised, SpellsUnit, unit}
use Rattle.st_expressions.specs.Reading.{word_at, is_symbol, is_keyword, is_word, keyword_at, all_at, after_symbol, expression_at}
use Rattle.st_parser.specs.ReadingStatements.{is_statement, body_at}
use Rattle.st_parser.specs.ReadingUnits.{limits_at, array_at, sort_at, initial_at, declared_at, placed_at, declaration_at, global_at, globals_at, is_section, section_at, pou_of, is_pou, pou_at, unit_at}
use Rattle.st_parser.specs.Units.{PlainDeclaration, PlainSection, PlainPou, PlainUnit}
use Rattle.st_parser.specs.declared.unit.PouKind.{PouKind}
use Rattle.st_parser.specs.declared.unit.PouKind.TheVariants as pou
use Rattle.st_parser.specs.declared.unit.Sort.{Sort}
use Rattle.st_parser.specs.declared.unit.Sort.TheVariants as sort
use Rattle.st_expressions.proofs.Complete.{ends, expression_read}
use Rattle.st_expressions.proofs.Many.{Reads, Begins, all_read, perhaps_read, after_symbol_read, symbol_next, others_read, two_parts}
use Rattle.st_parser.proofs.ReadStatements.{anything, number_read, stops, body_begins, body_read}

-- ---- declarations
initial_read : (names : List (List ℕ)) (region : Option Region) (what : Sort) (initial : Option (PlainExpr (List ℕ))) (y rest : List Lexeme) → Perhaps (After (symbol s.Becomes) IsExpression) y initial
    → initial_at names region what (y ++ symbol s.Semicolon ∷ rest) ≡ Some (record { names = names; region = region; sort = what; initial = initial }, rest)
unfolding initial_at
initial_read names region what initial y rest p =
    let read = perhaps_read (After (symbol s.Becomes) IsExpression) (is_symbol s.Becomes) ends (after_symbol s.Becomes expression_at) (after_symbol_read IsExpression ends expression_at s.Becomes (λ x rest e p h. expression_read x rest e p h)) (symbol_next IsExpression ends expression_at s.Becomes) initial y (symbol s.Semicolon ∷ rest) p refl refl in
    rw read refl

word_read : Reads IsName word_at anything
word_read x rest name is h = rw is refl

limits_read : Reads IsBounds limits_at anything
unfolding limits_at
limits_read x rest bounds (between low high y z is_low is_high is what) h =
    rw (is, append_assoc y (symbol s.Range ∷ (z ++ symbol s.CloseBracket ∷ [])) rest, append_assoc z (symbol s.CloseBracket ∷ []) rest, number_read y (symbol s.Range ∷ (z ++ symbol s.CloseBracket ∷ rest)) low is_low refl, number_read z (symbol s.CloseBracket ∷ rest) high is_high refl, what) refl

-- what declares variables by itself is no ARRAY
no_array : (t : Lexeme) (what : Sort) (ts : List Lexeme) → sort_of t ≡ Some what → is_keyword k.Array (t ∷ ts) ≡ false
no_array (keyword k.Array) what ts is = absurd (cc)
no_array (keyword _) what ts is = refl
no_array _ what ts is = refl

sort_read : Reads IsSort sort_at anything
unfolding sort_at array_at
sort_read x rest what (simple t is is_x) h = rw (is_x, no_array t what rest is, is) refl
sort_read x rest what (array bounds t kind y is_y is is_x is_what) h =
    rw (is_x, append_assoc y (keyword k.Of ∷ t ∷ []) rest, limits_read y (keyword k.Of ∷ t ∷ rest) bounds is_y refl, is, is_what) refl

-- after the first name of a declaration
declared_read : (name : List ℕ) (others : List (List ℕ)) (what : Sort) (initial : Option (PlainExpr (List ℕ))) (x y z rest : List Lexeme) → Each (After (symbol s.Comma) IsName) x others → IsSort y what → Perhaps (After (symbol s.Becomes) IsExpression) z initial
    → declared_at name (x ++ symbol s.Colon ∷ (y ++ (z ++ symbol s.Semicolon ∷ rest))) ≡ Some (record { names = name ∷ others; region = None; sort = what; initial = initial }, rest)
unfolding declared_at
declared_read name others what initial x y z rest each is p =
    rw (others_read IsName anything word_at word_read (λ ts. refl) others x (symbol s.Colon ∷ (y ++ (z ++ symbol s.Semicolon ∷ rest))) each refl refl, sort_read y (z ++ symbol s.Semicolon ∷ rest) what is refl) (initial_read (name ∷ others) None what initial z rest p)

-- the names of a declaration begin with a word, and no AT is after it
no_at : (others : List (List ℕ)) (x rest : List Lexeme) → Each (After (symbol s.Comma) IsName) x others → is_keyword k.At (x ++ symbol s.Colon ∷ rest) ≡ false
no_at [] x rest each = rw each refl
no_at (n ∷ others) x rest (y, z, is, after w is_y more, each) = rw (is, is_y) refl

-- a declaration by its first name and what is after it
record Parted (ts : List Lexeme) (d : PlainDeclaration) (rest : List Lexeme) : Type 0 where
  pub name : List ℕ
  pub tail : List Lexeme
  pub is : ts ++ rest ≡ word name ∷ tail
  pub read : declared_at name tail ≡ Some (d, rest)
  pub alone : is_keyword k.At tail ≡ false

parted : (ts : List Lexeme) (d : PlainDeclaration) (rest : List Lexeme) → Declares ts d → Parted ts d rest
parted ts d rest (declaration names what initial x y z (listed name others v w first each is_x is_names) is_what p is_ts is_d) =
    let tail = w ++ symbol s.Colon ∷ (y ++ (z ++ symbol s.Semicolon ∷ rest)) in
    let all : ts ++ rest ≡ word name ∷ tail = rw (is_ts, is_x, first, append_assoc w (symbol s.Colon ∷ (y ++ (z ++ symbol s.Semicolon ∷ []))) rest, two_parts y z (symbol s.Semicolon) rest) refl in
    record {
      name = name;
      tail = tail;
      is = all;
      read = rw (is_d, is_names) (declared_read name others what initial w y z rest each is_what p);
      alone = no_at others w (y ++ (z ++ symbol s.Semicolon ∷ rest)) each;
    }

declaration_read : Reads Declares declaration_at anything
unfolding declaration_at
declaration_read x rest d p h = let parts = parted x d rest p in rw parts.is parts.read

global_read : Reads DeclaresGlobal global_at anything
unfolding global_at placed_at
global_read x rest d (placed name r t what initial y is_what p is_x is_d) h =
    rw (is_x, append_assoc y (symbol s.Semicolon ∷ []) rest, is_what, is_d) (initial_read (name ∷ []) (Some r) (sort.Kind what) initial y rest p)
global_read x rest d (anywhere p) h =
    let parts = parted x d rest p in
    rw (parts.is, parts.alone) parts.read

-- what begins with a word
word_begins : (ts rest tail : List Lexeme) (name : List ℕ) → ts ++ rest ≡ word name ∷ tail → is_word (ts ++ rest) ≡ true
word_begins ts rest tail name is = rw is refl

some_names : (ts : List Lexeme) (d : PlainDeclaration) → Declares ts d → 0 < length ts
some_names ts d p = let parts = parted ts d [] p in let q = ap length parts.is in let r = length-append ts [] in omega arith

declaration_begins : Begins Declares is_word anything
declaration_begins x rest d p = let parts = parted x d rest p in (word_begins x rest parts.tail parts.name parts.is, refl, some_names x d p)

global_begins : Begins DeclaresGlobal is_word anything
global_begins x rest d (placed name r t what initial y is_what p is_x is_d) = (rw is_x refl, refl, (let q = ap length is_x in omega arith))
global_begins x rest d (anywhere p) = declaration_begins x rest d p

-- ---- sections
globals_read : Reads Globals globals_at anything
unfolding globals_at
globals_read x rest sec (globals all y each is_x is) h =
    rw (is_x, append_assoc y (keyword k.EndVar ∷ []) rest, all_read DeclaresGlobal is_word anything global_at global_read global_begins all y (keyword k.EndVar ∷ rest) each refl refl, is) refl

globals_begin : Begins Globals (is_keyword k.VarGlobal) anything
globals_begin x rest sec (globals all y each is_x is) = (rw is_x refl, refl, (let q = ap length is_x in omega arith))

section_read : (kind : PouKind) → Reads (IsSection kind) (section_at kind) anything
unfolding section_at
section_read kind x rest sec (variables t what all y is_what each is_x is) h =
    rw (is_x, is_what, append_assoc y (keyword k.EndVar ∷ []) rest, all_read Declares is_word anything declaration_at declaration_read declaration_begins all y (keyword k.EndVar ∷ rest) each refl refl, is) refl

there : {A : Type 0} (o : Option A) (a : A) → o ≡ Some a → is_some o ≡ true
there o a is = ap is_some is

section_begins : (kind : PouKind) → Begins (IsSection kind) (is_section kind) anything
section_begins kind x rest sec (variables t what all y is_what each is_x is) = (rw is_x (there (section_of kind t) what is_what), refl, (let q = ap length is_x in omega arith))

-- ---- blocks and programs
-- no statement begins a section
no_section : (kind : PouKind) (ts : List Lexeme) → is_statement ts ≡ true → is_section kind ts ≡ false
no_section pou.Block (word name ∷ ts) h = refl
no_section pou.Block (keyword k.If ∷ ts) h = refl
no_section pou.Block (keyword k.Case ∷ ts) h = refl
no_section pou.Block (keyword k.For ∷ ts) h = refl
no_section pou.Block (symbol s.Semicolon ∷ ts) h = refl
no_section pou.Program (word name ∷ ts) h = refl
no_section pou.Program (keyword k.If ∷ ts) h = refl
no_section pou.Program (keyword k.Case ∷ ts) h = refl
no_section pou.Program (keyword k.For ∷ ts) h = refl
no_section pou.Program (symbol s.Semicolon ∷ ts) h = refl
no_section _ [] h = absurd (cc)
no_section _ (_ ∷ ts) h = absurd (cc)

closing_is_no_section : (kind : PouKind) (ts : List Lexeme) → is_section kind (keyword (closing_keyword kind) ∷ ts) ≡ false
closing_is_no_section pou.Block ts = refl
closing_is_no_section pou.Program ts = refl

closing_stops : (kind : PouKind) (ts : List Lexeme) → stops (keyword (closing_keyword kind) ∷ ts) ≡ true
closing_stops pou.Block ts = refl
closing_stops pou.Program ts = refl

closing_read : (kind : PouKind) (ts : List Lexeme) → keyword_at (closing_keyword kind) (keyword (closing_keyword kind) ∷ ts) ≡ Some ts
closing_read pou.Block ts = refl
closing_read pou.Program ts = refl

opened : (kind : PouKind) → pou_of (keyword (opening_keyword kind)) ≡ Some kind
opened pou.Block = refl
opened pou.Program = refl

body_is_no_section : (kind : PouKind) (y rest : List Lexeme) (body : PlainBody (List ℕ)) → IsBody y body → is_section kind (y ++ keyword (closing_keyword kind) ∷ rest) ≡ false
body_is_no_section kind y rest body p =
    elim (body_begins y (keyword (closing_keyword kind) ∷ rest) body p) as (λ _. is_section kind (y ++ keyword (closing_keyword kind) ∷ rest) ≡ false) [
      | inl none ↦ rw none (closing_is_no_section kind rest)
      | inr some ↦ no_section kind (y ++ keyword (closing_keyword kind) ∷ rest) some
    ]

inside_read : (kind : PouKind) (name : List ℕ) (sections : List PlainSection) (body : PlainBody (List ℕ)) (y z rest : List Lexeme) → Each (IsSection kind) y sections → IsBody z body
    → (all_at (is_section kind) (section_at kind) (y ++ (z ++ keyword (closing_keyword kind) ∷ rest)) ≡ Some (sections, z ++ keyword (closing_keyword kind) ∷ rest)) × (body_at (z ++ keyword (closing_keyword kind) ∷ rest) ≡ Some (body, keyword (closing_keyword kind) ∷ rest))
inside_read kind name sections body y z rest each is_body =
    let after_it = z ++ keyword (closing_keyword kind) ∷ rest in (
      all_read (IsSection kind) (is_section kind) anything (section_at kind) (section_read kind) (section_begins kind) sections y after_it each refl (body_is_no_section kind z rest body is_body),
      body_read z (keyword (closing_keyword kind) ∷ rest) body is_body (closing_stops kind rest),
    )

pou_read : Reads IsPou pou_at anything
unfolding pou_at
pou_read x rest p (organised pou.Block name sections body y z each is_body is_x is) h =
    let inside = inside_read pou.Block name sections body y z rest each is_body in
    rw (is_x, two_parts y z (keyword k.EndFunctionBlock) rest, inside.0, inside.1, is) refl
pou_read x rest p (organised pou.Program name sections body y z each is_body is_x is) h =
    let inside = inside_read pou.Program name sections body y z rest each is_body in
    rw (is_x, two_parts y z (keyword k.EndProgram) rest, inside.0, inside.1, is) refl

pou_begins : Begins IsPou is_pou anything
pou_begins x rest p (organised pou.Block name sections body y z each is_body is_x is) = (rw is_x refl, refl, (let q = ap length is_x in omega arith))
pou_begins x rest p (organised pou.Program name sections body y z each is_body is_x is) = (rw is_x refl, refl, (let q = ap length is_x in omega arith))

-- ---- units
no_globals : (pous : List PlainPou) (y : List Lexeme) → Each IsPou y pous → is_keyword k.VarGlobal y ≡ false
no_globals [] y each = rw each refl
no_globals (p ∷ pous) y (v, w, is, organised pou.Block name sections body x z eachs is_body is_v is_p, each) = rw (is, is_v) refl
no_globals (p ∷ pous) y (v, w, is, organised pou.Program name sections body x z eachs is_body is_v is_p, each) = rw (is, is_v) refl

pub unit_read : (ts : List Lexeme) (u : PlainUnit) → SpellsUnit ts u → unit_at ts ≡ Some (u, [])
unfolding unit_at
unit_read ts u (unit gs ps x y each_global each_pou is what) =
    let first = all_read Globals (is_keyword k.VarGlobal) anything globals_at globals_read globals_begin gs x y each_global refl (no_globals ps y each_pou) in
    let second : all_at is_pou pou_at y ≡ Some (ps, []) = ap (all_at is_pou pou_at) (sym (append-nil y)) ∙ all_read IsPou is_pou anything pou_at pou_read pou_begins ps y [] each_pou refl refl in
    rw (is, first, second, what) refl
