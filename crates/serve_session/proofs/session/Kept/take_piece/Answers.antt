use Rattle.std.proofs.Common.{◌++◌, [], List, ℕ, refl, sym, ◌∙◌, subst}
use Rattle.std.proofs.Math.Bool.{or-false}
use Rattle.std.proofs.lemmas.Result.{err_from_is_err_and}
use Rattle.serve_requests.specs.Requests.{ended_from, begun_from}
use Rattle.serve_requests.specs.Splitting.{IsHeld}
use Rattle.serve_session.proofs.HeldLaws.{piece_is, gone-nothing, gone-more, gone-stopped, stopped-part, stopped-stays}
use Rattle.serve_session.proofs.session.Kept.take_piece.Goals as goal

pub loop-rest-init : goal.loop-rest-init
loop-rest-init g c = record { so_far = ([], refl, λ begun k. gone-nothing _ begun _ _ _ k); plant = refl; sink = refl; crew = refl }

pub loop-rest-preserved : goal.loop-rest-preserved
loop-rest-preserved g c =
    let inv = c.loop-rest.invariant in
    let front = inv.so_far.0 in
    let taken = c.in_ok-taken.ensures in
    let after = c.in_ok-answer_ended.ensures in
    record {
      so_far = (
        front ++ taken.part,
        piece_is _ front _ taken.part _ inv.so_far.1 taken.cut,
        λ begun k.
            let before = inv.so_far.2 begun k in
            let now = begun_from begun front in
            let takes = taken.takes now before.holds in
            gone-more _ _ begun front _ _ _ _ _ _ _ inv.plant before taken.part _ (record {
              answered = (after.serves takes.plain (ended_from now taken.part) takes.given).0;
              holds = subst (λ (xs : List ℕ). IsHeld (begun_from now taken.part) xs) (sym after.splitter) takes.holds;
            }),
      );
      plant = after.continues.0 ∙ inv.plant;
      sink = after.continues.2 ∙ or-false _ ∙ inv.sink;
      crew = after.crew ∙ inv.crew;
    }

pub loop-rest-smaller : goal.loop-rest-smaller
loop-rest-smaller g c = c.in_ok-taken.ensures.shorter

-- memory was refused for what is held
pub returns-in_err-taken-clause-gone : goal.returns-in_err-taken-clause-gone
returns-in_err-taken-clause-gone g c =
    let inv = c.loop-rest.invariant in
    let p = err_from_is_err_and c.from_residual.result c.from_residual.ensures.1 in
    rw (p.1, inv.so_far.1) (λ begun k. (tt, stopped-stays _ begun inv.so_far.0 _ _ _ _ _ _ (inv.so_far.2 begun k)))

pub returns-in_err-answer_ended-clause-gone : goal.returns-in_err-answer_ended-clause-gone
returns-in_err-answer_ended-clause-gone g c =
    let inv = c.loop-rest.invariant in
    let front = inv.so_far.0 in
    let taken = c.in_ok-taken.ensures in
    let p = err_from_is_err_and c.from_residual-in_err-answer_ended.result c.from_residual-in_err-answer_ended.ensures.1 in
    rw (p.1, inv.so_far.1) (λ begun k.
    let before = inv.so_far.2 begun k in
    let now = begun_from begun front in
    let takes = taken.takes now before.holds in
    let stopped = (c.in_err-answer_ended.ensures.serves takes.plain (ended_from now taken.part) takes.given).1 in
    (tt, gone-stopped _ _ begun front _ _ _ _ _ _ _ inv.plant before _ (stopped-part _ now _ taken.part _ _ _ _ _ taken.cut stopped)))
