-- The names of a body, as contracts see them.
use Rattle.std.specs.Prelude.{List, refl}
use Rattle.std.specs.Coded.{Coded, code_by, coded×, coded_list}
use Rattle.st_parser.specs.Units.{PlainUnit}
use Rattle.st_names.specs.DeclaredNames.{PlainDeclared}
use Rattle.st_names.specs.Code.{declared_code, units_code}

-- the plant's sources, and what the body declares itself, in order of text
pub record PlainBodyScope : Type 0 where
  pub units : List PlainUnit
  pub own : List PlainDeclared

-- it is kept as both
abbrev pub body_scope_code : Coded PlainBodyScope
body_scope_code = code_by (List PlainUnit × List PlainDeclared) (coded× units_code (coded_list declared_code)) (λ s. (s.units, s.own)) (λ p. record { units = p.0; own = p.1 }) (λ _. refl)
