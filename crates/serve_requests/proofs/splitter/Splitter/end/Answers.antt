use Rattle.std.proofs.Common.{vec_len, arith, sym, ◌∙◌}
use Rattle.serve_requests.proofs.HeldLaws.{empty_list, full_list, none_last, last_held}
use Rattle.serve_requests.proofs.splitter.Splitter.end.Goals as goal

pub returns-then-is_empty-clause-last : goal.returns-then-is_empty-clause-last
returns-then-is_empty-clause-last c =
    let held = c.self.inside.held in
    let empty = empty_list (vec_len held) held.items (omega (arith, held.ok.0)) (sym c.is_empty.ensures ∙ c.if-is_empty.true) in
    rw (← c.self.view_is) (λ begun k. none_last begun held.items k empty)

pub returns-clause-last : goal.returns-clause-last
returns-clause-last c =
    let held = c.self.inside.held in
    let full = full_list (vec_len held) held.items (omega (arith, held.ok.0)) (sym c.is_empty.ensures ∙ c.if-is_empty.false) in
    rw (c.replace-bytes.ensures.value, ← c.self.view_is) (λ begun k. last_held begun held.items k full)
