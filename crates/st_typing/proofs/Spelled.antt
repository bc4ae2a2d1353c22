-- The sections of globals that a text spells are VAR_GLOBAL.
use Rattle.std.proofs.Common.{◌≡◌, ◌∙◌, ap, refl, true, List, [], ◌∷◌}
use Rattle.std.specs.List.{list_all}
use Rattle.std.proofs.lemmas.Bool.{and_from}
use Rattle.st_names.specs.Lexemes.{Lexeme}
use Rattle.st_names.specs.Phrases.{Each}
use Rattle.st_names.specs.Declarations.{Globals, globals, SpellsUnit, unit}
use Rattle.st_names.specs.Units.{PlainSection, PlainUnit}
use Rattle.st_typing.specs.Kinds.{is_global}

section_stands : (ts : List Lexeme) (s : PlainSection) → Globals ts s → is_global s ≡ true
section_stands ts s (globals all x each spelled is) = ap is_global is

sections_stand : (ts : List Lexeme) (ss : List PlainSection) → Each Globals ts ss → list_all is_global ss ≡ true
sections_stand ts [] each = refl
sections_stand ts (s ∷ ss) each = and_from (is_global s) (list_all is_global ss) (section_stands each.0 s each.3) (sections_stand each.1 ss each.4)

pub spelled_stand : (ts : List Lexeme) (u : PlainUnit) → SpellsUnit ts u → list_all is_global u.globals ≡ true
spelled_stand ts u (unit sections pous x y each rest spelled is) = ap (λ (v : PlainUnit). list_all is_global v.globals) is ∙ sections_stand x sections each
