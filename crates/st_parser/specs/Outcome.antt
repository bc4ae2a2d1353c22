-- What is said where tokens spell no unit.
use Rattle.std.specs.Prelude.{ℕ, ◌≤◌, List}
use Rattle.st_expressions.specs.Lexemes.{Lexeme}
use Rattle.st_parser.specs.declared.fault.ParseFault.{ParseFault}
use Rattle.st_parser.specs.declared.fault.ParseFault.TheVariants as fault
use Rattle.st_parser.specs.Declarations.{SpellsUnit}
use Rattle.st_parser.specs.Units.{PlainUnit}

-- the lexemes spell no unit, or memory was refused
abbrev pub SpellNone : List Lexeme → ParseFault → Type 0
SpellNone ts fault.Memory = Unit {0}
SpellNone ts (fault.At token) = (u : PlainUnit) → SpellsUnit ts u → ⊥

-- the fault is at one of so many tokens, or at their end
abbrev pub NamesOneOf : ℕ → ParseFault → Type 0
NamesOneOf count fault.Memory = Unit {0}
NamesOneOf count (fault.At token) = token ≤ count
