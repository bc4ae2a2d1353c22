use Rattle.st_lexer.proofs.Cutting.{one_list, one_place, never_both}
use Rattle.st_lexer.proofs.laws.one_answer.Goals as goal

pub returns-clause-tokens : goal.returns-clause-tokens
returns-clause-tokens c = one_list

pub returns-clause-place : goal.returns-clause-place
returns-clause-place c = one_place

pub returns-clause-apart : goal.returns-clause-apart
returns-clause-apart c = never_both
