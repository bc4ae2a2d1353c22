use Rattle.std.proofs.Common.{◌++◌, ap, sym, ◌∙◌, append_assoc, take, drop}
use Rattle.std.proofs.lemmas.List.{take-append-drop}
use Rattle.std.proofs.Math.Bool.{or-false}
use Rattle.std.proofs.KnownBytes.{Appends-trans}
use Rattle.serve_faults.proofs.writing.put_all.Goals as goal

pub loop-rest-preserved : goal.loop-rest-preserved
loop-rest-preserved g c =
    let inv = c.loop-rest.invariant in
    let n = c.in-Ok.n in
    let rest = c.loop-rest.rest.now in (
      inv.0 ++ take n rest,
      inv.1 ∙ ap (λ r. inv.0 ++ r) (sym (take-append-drop n rest)) ∙ sym (append_assoc inv.0 (take n rest) (drop n rest)) ∙ ap (λ r. (inv.0 ++ take n rest) ++ r) (sym c.split_at.ensures.back),
      Appends-trans _ _ _ inv.0 (take n rest) inv.2 c.in-Ok.ensures.bytes,
      c.in-Ok.ensures.broken ∙ or-false _ ∙ inv.3,
    )
