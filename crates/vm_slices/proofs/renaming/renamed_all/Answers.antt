use Rattle.std.proofs.Common.{◌++◌, ◌∷◌, [], ◌∙◌, ap, sym, map, take, get_or}
use Rattle.std.proofs.lemmas.List.{map_more}
use Rattle.acc_vm.specs.Operands.{renamed}
use Rattle.vm_slices.proofs.renaming.renamed_all.Goals as goal

pub loop-i-preserved : goal.loop-i-preserved
loop-i-preserved c =
    let by = renamed (λ s. get_or c.args.slots.now s 0) (λ k. get_or c.args.clocks.now k 0) in
    c.in_ok-push.ensures.items
    ∙ ap (λ xs. xs ++ c.renamed.result ∷ []) c.loop-i.invariant
    ∙ ap (λ x. map by (take c.loop-i.i-index c.args.instrs.now) ++ x ∷ []) (c.renamed.ensures ∙ ap by c.i-item.is)
    ∙ sym (map_more by c.args.instrs.now c.loop-i.i-index c.i-item.result c.loop-i-test.true)
