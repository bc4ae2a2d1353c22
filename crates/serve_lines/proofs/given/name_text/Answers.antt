use Rattle.serve_lines.proofs.NameLaws.{name_utf8}
use Rattle.serve_lines.proofs.given.name_text.Goals as goal

pub unreachable-requires : goal.unreachable-requires
unreachable-requires c = c.in-Err.ensures.cases.0 (name_utf8 _ c.requires)
