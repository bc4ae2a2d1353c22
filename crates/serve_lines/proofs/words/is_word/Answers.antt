use Rattle.std.proofs.Common.{◌∙◌}
use Rattle.serve_lines.proofs.WordLaws.{as_long}
use Rattle.serve_lines.proofs.words.is_word.Goals as goal

pub returns-then-word-name : goal.returns-then-word-name
returns-then-word-name c = c.starts_with.ensures.value ∙ as_long c.args.word.now c.args.name.now c.if-word-name.true
