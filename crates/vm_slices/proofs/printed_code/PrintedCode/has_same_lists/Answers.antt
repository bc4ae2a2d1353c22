use Rattle.std.proofs.Common.{subst}
use Rattle.acc_vm.specs.Codes.{PlainCode}
use Rattle.vm_slices.specs.Prints.{ArePrintsOf}
use Rattle.vm_slices.proofs.Printed.{same_printed, printed_same}
use Rattle.vm_slices.proofs.printed_code.PrintedCode.has_same_lists.Goals as goal

pub returns : goal.returns
returns c =
    let a = subst (λ (x : PlainCode). ArePrintsOf x.instrs x.places c.self.inside.prints) c.self.view_is c.self.invariant in
    let b = subst (λ (x : PlainCode). ArePrintsOf x.instrs x.places c.other.inside.prints) c.other.view_is c.other.invariant in (
      λ t. same_printed _ _ _ _ _ _ a b (c.same_prints.ensures.0 t),
      λ e. c.same_prints.ensures.1 (printed_same _ _ _ _ _ _ a b e),
    )
