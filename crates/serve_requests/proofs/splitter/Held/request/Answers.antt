use Rattle.std.proofs.Common.{List, ℕ, ap, sym, ◌∙◌}
use Rattle.serve_requests.specs.Requests.{Request}
use Rattle.serve_requests.proofs.HeldLaws.{request_parts}
use Rattle.serve_requests.proofs.splitter.Held.request.Goals as goal

pub returns-in-Some : goal.returns-in-Some
returns-in-Some c =
    let body = c.in-Some.body.now in
    let parted = sym c.self.view_is ∙ sym c.as_slice-bytes.ensures.value ∙ c.in-Some.ensures.0 in
    let request : List ℕ → Request = λ l. record { line = l; body = body } in
    request_parts c.args.self.now c.in-Some.line.now body parted c.in-Some.ensures.1 ∙ ap request (sym c.without_cr.ensures)
