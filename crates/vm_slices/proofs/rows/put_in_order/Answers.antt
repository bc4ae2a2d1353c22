use Rattle.std.proofs.lemmas.List.Sorted.{Contains-permutation, IsPermutation-sym}
use Rattle.vm_slices.proofs.rows.put_in_order.Goals as goal

pub returns : goal.returns
returns c = λ r.
    let old = c.args.rows.now.items in
    let new = c.sort_unstable.new.self.items in
    let moved = c.sort_unstable.ensures.permutation in
    (Contains-permutation new old r (IsPermutation-sym old new moved), Contains-permutation old new r moved)
