use Rattle.alarm_bank.proofs.MarkLaws.{flags_of_none}
use Rattle.alarm_bank.proofs.marks.Marks.clear.Goals as goal

pub returns-clause-ok : goal.returns-clause-ok
returns-clause-ok c = flags_of_none c.args.count c.clear_words.new.words.items c.in_ok-clear_words.ensures.clear
