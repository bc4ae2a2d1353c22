use Rattle.std.proofs.Common.{◌≡◌, ◌++◌, drop, map}
use Rattle.serve_session.specs.Reloads.{texts_in, names_for}
use Rattle.serve_session.proofs.reload.named_sources.Given as goal

-- the sources so far, and those that are left, are all of them
abbrev pub invariant-loop-size : goal.invariant-loop-size
invariant-loop-size l = record {
  names : map (λ s. s.0.now) l.sources.items ++ names_for l.listed (texts_in (drop l.size-index l.sizes) l.rest) ≡ names_for l.names (texts_in l.sizes l.bytes);
  texts : map (λ s. s.1.now) l.sources.items ++ texts_in (drop l.size-index l.sizes) l.rest ≡ texts_in l.sizes l.bytes;
}
