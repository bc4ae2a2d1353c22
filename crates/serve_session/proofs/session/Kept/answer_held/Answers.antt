use Rattle.std.proofs.Common.{subst}
use Rattle.serve_requests.specs.Requests.{Request}
use Rattle.serve_requests.specs.Splitting.{AsksAlike}
use Rattle.serve_session.proofs.SessionLaws.{none_counted}
use Rattle.serve_session.proofs.session.Kept.answer_held.Goals as goal

pub returns-in-Some-clause-serves : goal.returns-in-Some-clause-serves
returns-in-Some-clause-serves g c = λ request same.
    c.answer_reload.ensures.serves request c.request.result.0.now c.in-Some.ensures (subst (λ (r : Request). AsksAlike r request) c.request.ensures same)

pub returns-in-Some-clause-crew : goal.returns-in-Some-clause-crew
returns-in-Some-clause-crew g c = none_counted _ c.answer_reload.result c.answer_reload.ensures.crew

pub returns-in-None-clause-serves : goal.returns-in-None-clause-serves
returns-in-None-clause-serves g c = λ request same. c.answer.ensures.serves c.in-None.ensures request c.request.result.1.now (subst (λ (r : Request). AsksAlike r request) c.request.ensures same)
