use Rattle.std.proofs.Common.{◌≡◌, length, get_or, refl, subst, arith}
use Rattle.std.proofs.lemmas.Option.{slice_get-get_or, slice_get_read}
use Rattle.vm_slices.proofs.Putting.{PutUpTo, none_put, more_put, all_put}
use Rattle.vm_slices.proofs.puts.put_clocks.Goals as goal

pub loop-i-init : goal.loop-i-init
loop-i-init c = none_put c.args.numbers.now c.args.items.now c.args.row.now

pub loop-i-preserved : goal.loop-i-preserved
loop-i-preserved c =
    let many = c.requires.many in let lt = c.loop-i-test.true in
    more_put c.args.numbers.now c.args.items.now c.args.row.now c.loop-i.i (get_or c.args.numbers.now c.loop-i.i 0) c.loop-i.row c.index-items-i.result c.loop-i.invariant c.requires.apart
    (slice_get-get_or c.args.numbers.now c.loop-i.i 0 lt) (slice_get_read c.args.items.now (length c.args.items.now) c.loop-i.i c.index-items-i.result refl (omega arith) c.index-items-i.is)

pub returns : goal.returns
returns c =
    let low = c.loop-i.auto.i-end in let high = c.loop-i-test.false in
    let end : c.loop-i.i ≡ length c.args.numbers.now = omega arith in
    all_put c.args.numbers.now c.args.items.now c.args.row.now c.loop-i.row (subst (λ n. PutUpTo c.args.numbers.now c.args.items.now c.args.row.now n c.loop-i.row) end c.loop-i.invariant)
