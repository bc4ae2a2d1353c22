use Rattle.std.proofs.Common.{◌≡◌, true, false, refl, ap, sym, ◌∙◌}
use Rattle.acc_vm.specs.Codes.{PlainCode}
use Rattle.vm_slices.specs.Prints.{counts_of}
use Rattle.vm_slices.proofs.Printed.{same_parts}
use Rattle.vm_slices.proofs.printed_code.PrintedCode.same.Goals as goal

pub returns-then-same_counts : goal.returns-then-same_counts
returns-then-same_counts c =
    let here = c.counted.ensures ∙ ap counts_of c.code.ensures in
    let there = c.counted-2.ensures ∙ ap counts_of c.code-2.ensures in (
      λ t. let lists = c.has_same_lists.ensures.0 t in same_parts c.args.self.now c.args.other.now (sym here ∙ c.if-same_counts.ensures.0 refl ∙ there) lists.0 lists.1,
      λ e. c.has_same_lists.ensures.1 (ap (λ (x : PlainCode). x.places) e, ap (λ (x : PlainCode). x.instrs) e),
    )

pub returns-else-same_counts : goal.returns-else-same_counts
returns-else-same_counts c =
    let here = c.counted.ensures ∙ ap counts_of c.code.ensures in
    let there = c.counted-2.ensures ∙ ap counts_of c.code-2.ensures in (
      λ t. let is : c.same_counts.result ≡ true = t in let not : c.same_counts.result ≡ false = c.if-same_counts.false in absurd (cc),
      λ e. c.same_counts.ensures.1 (here ∙ ap counts_of e ∙ sym there),
    )
