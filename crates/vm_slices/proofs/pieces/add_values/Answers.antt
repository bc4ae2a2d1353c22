use Rattle.std.proofs.Common.{◌+◌, ◌++◌, ℤ, List, ap, ◌∙◌, arith}
use Rattle.vm_slices.proofs.Stretches.{stretch_picked}
use Rattle.vm_slices.proofs.pieces.add_values.Goals as goal

pub returns : goal.returns
returns c =
    let q = c.args.piece in
    c.in_ok-extend_from_slice.ensures.items ∙ ap (λ (l : List ℤ). c.args.picked.now.items ++ l) (stretch_picked c.args.values.now q.first q.more (q.first + q.more + 1) (omega arith) c.requires)
