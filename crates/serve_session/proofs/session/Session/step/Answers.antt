use Rattle.std.proofs.Common.{◌++◌, [], refl, take, arith, inl, inr, length, ◌<◌, append-nil}
use Rattle.std.proofs.KnownBytes.{Consumes-nil, Consumes-kept}
use Rattle.std.proofs.lemmas.Result.{err_from_is_err_and}
use Rattle.serve_requests.specs.Requests.{begun_request, ended_requests, requests_of}
use Rattle.serve_session.proofs.SessionLaws.{consumed_nothing, some_taken}
use Rattle.serve_session.proofs.HeldLaws.{gone-more, gone-stopped, stopped-stays, answered-end, stopped-end}
use Rattle.serve_session.proofs.session.Session.step.Goals as goal

-- nothing was read
pub returns-in_default-clause-err : goal.returns-in_default-clause-err
returns-in_default-clause-err g c =
    ([], Consumes-kept _ _ _ [] (Consumes-nil _) c.in_default.ensures.bytes, λ input h w before. (ended_requests (input ++ []), inl refl, stopped-stays _ [] input _ [] h _ w _ before))

pub returns-in_default-clause-cut : goal.returns-in_default-clause-cut
returns-in_default-clause-cut g c = λ e. (Consumes-kept _ _ _ [] (Consumes-nil _) c.in_default.ensures.bytes, refl, refl)

-- the input has ended
pub returns-in_err-take_end-clause-err : goal.returns-in_err-take_end-clause-err
returns-in_err-take_end-clause-err g c =
    let there : 0 < length c.fill.new.piece.items = omega (arith, c.fill.ensures.len, c.self.invariant, c.fill.new.piece.ok.0) in
    let p = err_from_is_err_and c.from_residual.result c.from_residual.ensures.1 in
    rw (p.1, ← c.self.view_is) (
      [],
      consumed_nothing _ _ _ [] c.fill.new.piece.items c.in-Ok.n c.if-n-eq0.true (Consumes-nil _) c.in-Ok.ensures.bytes.0,
      λ input h w before. (
        requests_of (input ++ []),
        inr (c.in-Ok.ensures.bytes.1 c.if-n-eq0.true there, refl),
        rw (append-nil input) (stopped-end _ _ input _ _ _ _ _ _ _ refl before (c.in_err-take_end.ensures.serves (begun_request input) before.holds).1),
      ),
    )

pub returns-then-n-eq0-clause-ended : goal.returns-then-n-eq0-clause-ended
returns-then-n-eq0-clause-ended g c = λ e.
    let there : 0 < length c.fill.new.piece.items = omega (arith, c.fill.ensures.len, c.self.invariant, c.fill.new.piece.ok.0) in
    rw (← c.self.view_is) (
      consumed_nothing _ _ _ [] c.fill.new.piece.items c.in-Ok.n c.if-n-eq0.true (Consumes-nil _) c.in-Ok.ensures.bytes.0,
      c.in-Ok.ensures.bytes.1 c.if-n-eq0.true there,
      c.in_ok-take_end.ensures.held,
      λ input h w before. answered-end _ _ input _ _ _ _ _ _ _ refl before (c.in_ok-take_end.ensures.serves (begun_request input) before.holds).0,
    )

-- a piece was read
pub returns-in_err-take_piece-clause-err : goal.returns-in_err-take_piece-clause-err
returns-in_err-take_piece-clause-err g c =
    let p = err_from_is_err_and c.from_residual-in_err-take_piece.result c.from_residual-in_err-take_piece.ensures.1 in
    rw (p.1, ← c.self.view_is) (
      take c.in-Ok.n c.fill.new.piece.items,
      c.in-Ok.ensures.bytes.0,
      λ input h w before.
          let stopped = rw (c.split_at.ensures.front, c.as_slice.ensures.value) at ((c.in_err-take_piece.ensures.gone (begun_request input) before.holds).1) in
          (ended_requests (input ++ take c.in-Ok.n c.fill.new.piece.items), inl refl, gone-stopped _ _ [] input _ _ _ _ _ _ _ refl before _ stopped),
    )

pub returns-clause-more : goal.returns-clause-more
returns-clause-more g c = λ e.
    rw (← c.self.view_is) (
      take c.in-Ok.n c.fill.new.piece.items,
      some_taken c.in-Ok.n c.fill.new.piece.items c.if-n-eq0.false (omega (arith, c.in-Ok.ensures.bound, c.fill.new.piece.ok.0)),
      c.in-Ok.ensures.bytes.0,
      λ input h w before.
          let went = rw (c.split_at.ensures.front, c.as_slice.ensures.value) at ((c.in_ok-take_piece.ensures.gone (begun_request input) before.holds).0) in
          gone-more _ _ [] input _ _ _ _ _ _ _ refl before _ _ went,
    )
