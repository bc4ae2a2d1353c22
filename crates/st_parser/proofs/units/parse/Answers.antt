-- A unit is found where one is spelled.
use Rattle.std.proofs.Common.{◌∙◌, ap, sym, subst, arith}
use Rattle.st_expressions.specs.Lexemes.{lexemes}
use Rattle.st_expressions.specs.Outcome.{Fails}
use Rattle.st_parser.specs.Outcome.{SpellNone}
use Rattle.st_parser.specs.ReadingUnits.{unit_at}
use Rattle.st_parser.specs.Units.{view_unit}
use Rattle.st_expressions.specs.declared.stop.ParseStop.{ParseStop}
use Rattle.st_parser.proofs.FoundUnits.{unit_spelled, some_left, none_read}
use Rattle.st_parser.proofs.units.parse.Goals as goal

pub returns-then-left-eq0-clause-spelled : goal.returns-then-left-eq0-clause-spelled
returns-then-left-eq0-clause-spelled c =
    unit_spelled (lexemes c.args.text.now c.args.tokens.now) c.unit.new.reader _ (ap unit_at (sym c.new-reader.ensures) ∙ c.in-Ok.ensures) (omega arith)

pub returns-else-left-eq0-clause-spelled : goal.returns-else-left-eq0-clause-spelled
returns-else-left-eq0-clause-spelled c =
    let ts = lexemes c.args.text.now c.args.tokens.now in
    subst (SpellNone ts) (sym c.refused.ensures)
    (λ other spelled. some_left ts c.unit.new.reader (view_unit c.in-Ok.unit) other (ap unit_at (sym c.new-reader.ensures) ∙ c.in-Ok.ensures) (omega arith) spelled)

pub returns-in-Err-Left-clause-spelled : goal.returns-in-Err-Left-clause-spelled
returns-in-Err-Left-clause-spelled c =
    let ts = lexemes c.args.text.now c.args.tokens.now in
    let stopped = subst (λ (x : ParseStop). Fails x (unit_at c.new-reader.result)) c.in-Err-Left.field-0-is c.in-Err-Left.ensures in
    subst (SpellNone ts) (sym c.refused-in-Err-Left.ensures)
    (λ other spelled. none_read ts other (ap unit_at (sym c.new-reader.ensures) ∙ stopped) spelled)
