use Rattle.std.proofs.Common.{map}
use Rattle.std.specs.Prelude.{string_bytes}
use Rattle.console_archive.proofs.Pages.{AreTexts}
use Rattle.console_archive.proofs.page.page_of.Given as goal

abbrev pub invariant-loop-before : goal.invariant-loop-before
invariant-loop-before l = AreTexts l.engine.plant l.engine.history l.from l.before (map string_bytes l.lines.items)
