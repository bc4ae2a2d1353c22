-- Texts have units or a first fault.
use Rattle.std.proofs.Common.{◌≡◌, ℕ, suc, List, [], ◌∷◌, Some, None, Option, ◌⊎◌, inl, inr, refl, arith}
use Rattle.std.specs.Prelude.{◌≢◌}
use Rattle.st_lexer.specs.declared.token.Token.{Token}
use Rattle.st_lexer.specs.Lexes.{Lexes, Stops, unmarked, start_of}
use Rattle.st_lexer.proofs.Cutting.{some_answer}
use Rattle.st_lexer.specs.Places.{line_at, column_at}
use Rattle.st_expressions.specs.Lexemes.{Lexeme, lexemes}
use Rattle.st_parser.specs.Units.{PlainUnit}
use Rattle.st_parser.specs.Declarations.{SpellsUnit}
use Rattle.st_parser.specs.ReadingUnits.{unit_at}
use Rattle.st_parser.proofs.FoundUnits.{unit_spelled, some_left, none_read}
use Rattle.st_sources.specs.declared.fault.SourceFault.{SourceFault}
use Rattle.st_sources.specs.declared.fault.SourceFault.TheVariants as fault
use Rattle.st_sources.specs.Sources.{HasUnit, HaveUnits, Unspelled, IsSourceFault}

-- lexemes spell a unit or none
data Reads (ts : List Lexeme) : Type 0 where
  reads : (u : PlainUnit) → SpellsUnit ts u → Reads ts
  fails : ((u : PlainUnit) → SpellsUnit ts u → ⊥) → Reads ts

read_whole : (ts : List Lexeme) (u : PlainUnit) (rest : List Lexeme) → unit_at ts ≡ Some (u, rest) → Reads ts
read_whole ts u [] is = reads u (unit_spelled ts [] u is refl)
read_whole ts u (t ∷ rest) is = fails (λ other spelled. some_left ts (t ∷ rest) u other is (omega arith) spelled)

read_by : (ts : List Lexeme) (o : Option (PlainUnit × List Lexeme)) → unit_at ts ≡ o → Reads ts
read_by ts (Some found) is = read_whole ts found.0 found.1 is
read_by ts None is = fails (λ u spelled. none_read ts u is spelled)

-- a text has a unit, or it stops or its tokens spell none
data Outcome (text : List ℕ) : Type 0 where
  has : (unit : PlainUnit) → HasUnit text unit → Outcome text
  stops : (line column : ℕ) → Stops text line column → Outcome text
  unspelled : (line column : ℕ) → Unspelled text line column → Outcome text

of_tokens : (text : List ℕ) (tokens : List Token) → Lexes text tokens → Reads (lexemes text tokens) → Outcome text
of_tokens text tokens lexed (reads unit spelled) = has unit (record { tokens = tokens; lexed = lexed; spelled = spelled })
of_tokens text tokens lexed (fails none) =
    unspelled (line_at (unmarked text) (start_of text tokens 0)) (column_at (unmarked text) (start_of text tokens 0))
    (record { tokens = tokens; lexed = lexed; no_unit = none; token = 0; within = omega arith; line_is = refl; column_is = refl })

with_tokens : (text : List ℕ) (tokens : List Token) → Lexes text tokens → Outcome text
with_tokens text tokens lexed = of_tokens text tokens lexed (read_by (lexemes text tokens) (unit_at (lexemes text tokens)) refl)

outcome : (text : List ℕ) → Outcome text
outcome text = elim (some_answer text) [ inl found ↦ with_tokens text found.0 found.1 | inr stop ↦ stops stop.0 stop.1 stop.2 ]

-- texts have units, or a first fault
abbrev Decided : List (List ℕ) → Type 0
Decided texts = ((units : List PlainUnit) × HaveUnits texts units) ⊎ ((f : SourceFault) × IsSourceFault texts f × (f ≢ fault.Memory))

-- a fault of the texts after one that has a unit
abbrev next : SourceFault → SourceFault
next fault.Memory = fault.Memory
next (fault.Spelling number line column) = fault.Spelling (suc number) line column
next (fault.Grammar number line column) = fault.Grammar (suc number) line column

later : (text : List ℕ) (texts : List (List ℕ)) (unit : PlainUnit) (f : SourceFault) → HasUnit text unit → IsSourceFault texts f → IsSourceFault (text ∷ texts) (next f)
later text texts unit fault.Memory h found = tt
later text texts unit (fault.Spelling number line column) h found =
    record { text = found.text; reached = record { units = unit ∷ found.reached.units; before = (h, found.reached.before); text_is = found.reached.text_is }; is_fault = (refl, found.is_fault.1) }
later text texts unit (fault.Grammar number line column) h found =
    record { text = found.text; reached = record { units = unit ∷ found.reached.units; before = (h, found.reached.before); text_is = found.reached.text_is }; is_fault = (refl, found.is_fault.1) }

next_is_fault : (f : SourceFault) → f ≢ fault.Memory → next f ≢ fault.Memory
next_is_fault fault.Memory h = absurd (h refl)
next_is_fault (fault.Spelling number line column) h = λ e. cc
next_is_fault (fault.Grammar number line column) h = λ e. cc

after : (text : List ℕ) (texts : List (List ℕ)) (unit : PlainUnit) → HasUnit text unit → Decided texts → Decided (text ∷ texts)
after text texts unit h (inl found) = inl (unit ∷ found.0, (h, found.1))
after text texts unit h (inr found) = inr (next found.0, later text texts unit found.0 h found.1, next_is_fault found.0 found.2)

first : (text : List ℕ) (texts : List (List ℕ)) → Outcome text → Decided texts → Decided (text ∷ texts)
first text texts (has unit h) rest = after text texts unit h rest
first text texts (stops line column h) rest = inr (fault.Spelling 0 line column, record { text = text; reached = record { units = []; before = tt; text_is = refl }; is_fault = (refl, h) }, λ e. cc)
first text texts (unspelled line column h) rest = inr (fault.Grammar 0 line column, record { text = text; reached = record { units = []; before = tt; text_is = refl }; is_fault = (refl, h) }, λ e. cc)

pub decided : (texts : List (List ℕ)) → Decided texts
decided [] = inl ([], tt)
decided (text ∷ texts) = first text texts (outcome text) (decided texts)
