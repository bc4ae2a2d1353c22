use Rattle.std.proofs.Common.{◌≡◌, take}
use Rattle.std.specs.Prelude.{IsTrue, IsFalse}
use Rattle.vm_slices.proofs.prints.same_values.Given as goal

abbrev pub invariant-loop-i : goal.invariant-loop-i
invariant-loop-i l = record {
  same : IsTrue l.same → take l.i l.a ≡ take l.i l.b;
  other : IsFalse l.same → l.a ≡ l.b → ⊥;
}
