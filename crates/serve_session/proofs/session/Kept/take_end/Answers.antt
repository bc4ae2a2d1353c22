use Rattle.serve_requests.specs.Requests.{request_of, last_request}
use Rattle.serve_session.proofs.SessionLaws.{serves-none, serves-one}
use Rattle.serve_session.proofs.session.Kept.take_end.Goals as goal

pub returns-in-Some-clause-serves : goal.returns-in-Some-clause-serves
returns-in-Some-clause-serves g c = λ begun k. serves-one c.answer_held.result (request_of c.in-Some.held) (last_request begun) c.args.engine.now c.answer_held.new.engine _ _ (c.in-Some.ensures.last begun k) c.answer_held.ensures.serves

pub returns-in-None-clause-serves : goal.returns-in-None-clause-serves
returns-in-None-clause-serves g c = λ begun k. serves-none (last_request begun) c.args.engine.now _ (c.in-None.ensures.last begun k)
