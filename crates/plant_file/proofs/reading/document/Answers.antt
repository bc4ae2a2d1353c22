use Rattle.std.proofs.Common.{◌∙◌, ap, sym}
use Rattle.toml.specs.Parse.{parse_document}
use Rattle.plant_file.proofs.Utf8.{no_text, of_text}
use Rattle.plant_file.proofs.reading.document.Goals as goal

pub returns-in_default-clause-refused : goal.returns-in_default-clause-refused
returns-in_default-clause-refused c = no_text c.args.bytes.now c.in_default.ensures.cases.0

pub returns-in-Ok-table_from_str-clause-table : goal.returns-in-Ok-table_from_str-clause-table
returns-in-Ok-table_from_str-clause-table c =
    of_text c.args.bytes.now c.in-Ok.ensures.cases.1 ∙ ap parse_document (sym c.in-Ok.ensures.cases.0) ∙ c.in-Ok-table_from_str.ensures.ok
