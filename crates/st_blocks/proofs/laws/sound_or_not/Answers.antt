use Rattle.st_blocks.proofs.Decided.{some_answer}
use Rattle.st_blocks.proofs.laws.sound_or_not.Goals as goal

pub returns : goal.returns
returns c = some_answer
