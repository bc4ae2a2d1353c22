use Rattle.serve_requests.proofs.RequestLaws.{ended_from-more, begun_from-more, cut}
use Rattle.serve_requests.proofs.Beginnings.{requests_end, requests_end_in_lf}
use Rattle.serve_requests.proofs.laws.requests_end.Goals as goal

pub returns-clause-requests : goal.returns-clause-requests
returns-clause-requests c = requests_end

pub returns-clause-lines : goal.returns-clause-lines
returns-clause-lines c = requests_end_in_lf

pub returns-clause-go_on : goal.returns-clause-go_on
returns-clause-go_on c = λ begun xs ys. (ended_from-more begun xs ys, begun_from-more begun xs ys)

pub returns-clause-cut : goal.returns-clause-cut
returns-clause-cut c = cut
