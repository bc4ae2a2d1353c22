use Rattle.std.proofs.Common.{◌≡◌, ◌++◌, List, ℕ, length}
use Rattle.std.specs.Io.KnownBytes.{Appends}
use Rattle.serve_faults.proofs.writing.put_all.Given as goal

-- a front of the text is written, and the rest is left
abbrev pub invariant-loop-rest : goal.invariant-loop-rest
invariant-loop-rest g l =
    (front : List ℕ) × (l.text ≡ front ++ l.rest) × Appends (g.S.Sink.written l.fn.sink) (g.S.Sink.written l.sink) front × (g.S.Sink.broken l.sink ≡ g.S.Sink.broken l.fn.sink)

abbrev pub decreases-loop-rest : goal.decreases-loop-rest
decreases-loop-rest g l = length l.rest
