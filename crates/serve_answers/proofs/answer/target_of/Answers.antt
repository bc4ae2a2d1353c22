use Rattle.std.proofs.Common.{refl}
use Rattle.std.proofs.lemmas.Str.{is_utf8-from_IsUtf8}
use Rattle.serve_answers.proofs.AnswerLaws.{is_utf8-none}
use Rattle.serve_answers.proofs.answer.target_of.Goals as goal

pub returns-in-Ok-clause-number : goal.returns-in-Ok-clause-number
returns-in-Ok-clause-number c = rw (is_utf8-from_IsUtf8 c.args.word.now c.in-Ok.ensures.cases.1, c.named_by.ensures.number, c.in-Ok.ensures.cases.0) refl

pub returns-in-Err-clause-number : goal.returns-in-Err-clause-number
returns-in-Err-clause-number c = rw (is_utf8-none c.args.word.now c.in-Err.ensures.cases.0) refl
