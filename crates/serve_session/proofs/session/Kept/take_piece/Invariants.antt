use Rattle.std.proofs.Common.{◌≡◌, ◌++◌, List, ℕ, length}
use Rattle.serve_requests.specs.Splitting.{IsHeld}
use Rattle.serve_session.specs.Session.{HasGone}
use Rattle.serve_session.proofs.session.Kept.take_piece.Given as goal

-- the front of the piece was taken, and the rest is left
abbrev pub invariant-loop-rest : goal.invariant-loop-rest
invariant-loop-rest g l = record {
  so_far : (front : List ℕ) × (l.piece ≡ front ++ l.rest) × ((begun : List ℕ) → IsHeld begun l.fn.self.splitter
      → HasGone l.fn.engine.plant begun front l.self.splitter l.fn.engine.history l.engine.history (g.S.Sink.written l.fn.sink) (g.S.Sink.written l.sink));
  plant : l.engine.plant ≡ l.fn.engine.plant;
  sink : g.S.Sink.broken l.sink ≡ g.S.Sink.broken l.fn.sink;
  crew : g.C.Crew.faulted l.crew ≡ g.C.Crew.faulted l.fn.crew;
}

abbrev pub decreases-loop-rest : goal.decreases-loop-rest
decreases-loop-rest g l = length l.rest
