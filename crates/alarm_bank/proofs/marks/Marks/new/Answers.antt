use Rattle.alarm_bank.proofs.MarkLaws.{flags_of_zero}
use Rattle.alarm_bank.proofs.marks.Marks.new.Goals as goal

pub returns : goal.returns
returns c = flags_of_zero c.in_ok-words.words.items
