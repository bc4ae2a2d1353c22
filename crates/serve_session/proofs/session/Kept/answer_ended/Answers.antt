use Rattle.std.proofs.Common.{[], subst}
use Rattle.serve_requests.specs.declared.splitter.Ended.{Ended}
use Rattle.serve_requests.specs.Requests.{request_of}
use Rattle.serve_requests.specs.Splitting.{AskAlike, IsPlain, given_requests}
use Rattle.serve_session.proofs.SessionLaws.{serves-none, serves-one}
use Rattle.serve_session.proofs.session.Kept.answer_ended.Goals as goal

pub returns-in-Nothing-clause-serves : goal.returns-in-Nothing-clause-serves
returns-in-Nothing-clause-serves g c = λ plain requests same.
    serves-none requests c.args.engine.now _ (subst (λ (e : Ended). AskAlike (given_requests e) requests) c.in-Nothing.is same)

pub returns-in-Line-clause-serves : goal.returns-in-Line-clause-serves
returns-in-Line-clause-serves g c = λ plain requests same.
    let alone = subst (λ (e : Ended). IsPlain e) c.in-Line.is plain in
    serves-one c.answer.result (record { line = c.in-Line.line.now; body = [] }) requests c.args.engine.now c.answer.new.engine _ _
    (subst (λ (e : Ended). AskAlike (given_requests e) requests) c.in-Line.is same) (λ request alike. c.answer.ensures.serves alone request [] alike)

pub returns-in-Held-clause-serves : goal.returns-in-Held-clause-serves
returns-in-Held-clause-serves g c = λ plain requests same.
    serves-one c.answer_held.result (request_of c.in-Held.held) requests c.args.engine.now c.answer_held.new.engine _ _
    (subst (λ (e : Ended). AskAlike (given_requests e) requests) c.in-Held.is same) c.answer_held.ensures.serves
