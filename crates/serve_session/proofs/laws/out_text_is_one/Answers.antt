use Rattle.serve_session.proofs.AnswerLaws.{answers-one, answers-there, out_text-one}
use Rattle.serve_session.proofs.laws.out_text_is_one.Goals as goal

pub returns : goal.returns
returns c = record { one = answers-one; there = answers-there; text = out_text-one }
