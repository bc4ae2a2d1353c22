use Rattle.std.proofs.Common.{◌≡◌, take}
use Rattle.vm_logic.proofs.headings.copy_locals.Given as goal

abbrev pub invariant-loop-local : goal.invariant-loop-local
invariant-loop-local l = l.copies.items ≡ take l.local-index l.locals
