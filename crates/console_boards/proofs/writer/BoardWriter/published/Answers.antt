use Rattle.std.proofs.Common.{refl}
use Rattle.console_boards.proofs.Prefixes.{begins_prefix}
use Rattle.console_boards.proofs.writer.BoardWriter.published.Goals as goal

pub returns-clause-begins : goal.returns-clause-begins
returns-clause-begins c = let w = c.args.self.now in (refl, begins_prefix w.writer.desk.shown.value.list w.log.entries w.begins)
