use Rattle.std.proofs.Common.{◌∙◌}
use Rattle.alarm_db.proofs.TextLaws.{utf8_test}
use Rattle.alarm_db.proofs.forms.is_utf8.Goals as goal

pub returns : goal.returns
returns c = c.is_ok.ensures.value ∙ utf8_test _ _ c.args.field.now c.from_utf8.result c.from_utf8.ensures.cases
