use Rattle.std.proofs.Common.{refl}
use Rattle.console_boards.specs.Readers.{story_of}
use Rattle.console_boards.proofs.Sights.{turns, continues_same}
use Rattle.console_boards.proofs.reader.BoardReader.enter.Goals as goal

pub enter_as-requires : goal.enter_as-requires
enter_as-requires c x = turns story_of (λ b. b.mark) _ _ x x (continues_same (story_of x)) refl (λ whole. whole)
