use Rattle.std.proofs.Common.{◌≡◌, List, ℕ, false}
use Rattle.std.specs.Io.KnownBytes.{Consumes}
use Rattle.serve_session.specs.Session.{HasTaken}
use Rattle.serve_session.proofs.session.serve.Given as goal

-- the lines that ended in what was read are answered, and what follows them is held
abbrev pub invariant-loop : goal.invariant-loop
invariant-loop g l = record {
  goes : (goal.iterator-loop g).can_next l.iterator' × (goal.iterator-loop g).is_finite l.iterator';
  so_far : (input : List ℕ) × Consumes (g.F.Feed.remaining l.fn.feed) (g.F.Feed.remaining l.feed) input
      × HasTaken l.fn.engine.plant input l.session l.fn.engine.history l.engine.history (g.S.Sink.written l.fn.sink) (g.S.Sink.written l.sink);
  plant : l.engine.plant ≡ l.fn.engine.plant;
  feed : g.F.Feed.broken l.feed ≡ false;
  sink : g.S.Sink.broken l.sink ≡ false;
  crew : g.C.Crew.faulted l.crew ≡ g.C.Crew.faulted l.fn.crew;
}
