use Rattle.std.proofs.Common.{rules}
use Rattle.console_boards.specs.Readers.{story_of}
use Rattle.console_boards.proofs.Sights.{admits, forks, merges}
use Rattle.console_boards.proofs.writer.BoardWriter.reader.Goals as goal

pub reader-requires : goal.reader-requires
reader-requires c = admits story_of (λ b. b.mark)

pub tell-requires : goal.tell-requires
tell-requires c = forks story_of (λ b. b.mark) _ _

pub learn-requires : goal.learn-requires
learn-requires c = record { own = search rules; rule = merges story_of (λ b. b.mark) _ _ _ _ }
