-- Texts have one answer.
use Rattle.st_sources.proofs.Answers.{one_list_of_units, same_fault, apart}
use Rattle.st_sources.proofs.laws.one_answer.Goals as goal

pub returns : goal.returns
returns c = record { units = one_list_of_units; fault = same_fault; apart = apart }
