use Rattle.std.proofs.Common.{◌≡◌, ℕ, List, length, ap, sym, subst, arith}
use Rattle.logic_cells.specs.declared.clock.Clock.{Clock}
use Rattle.vm_slices.specs.Puts.{AreApartIn, Puts}
use Rattle.slice_store.proofs.done.put_part.Goals as goal

pub put_clocks-requires : goal.put_clocks-requires
put_clocks-requires c =
    let part = c.args.part.now in
    let w : length c.clocks.result.now ≡ length part.clocks = ap length c.clocks.ensures in
    let l : length c.clocks-2.result.now ≡ length c.args.left.now.clocks = ap length c.clocks-2.ensures in
    let m = c.requires.clocks in
    record {
      apart = subst (AreApartIn (length c.args.clocks.now)) (sym c.clocks.ensures) (record { inside = c.requires.inside.clocks; apart = c.requires.part.clocks_apart });
      many = omega arith;
    }

pub returns : goal.returns
returns c =
    let part = c.args.part.now in
    let b : Puts part.clocks c.clocks-2.result.now c.args.clocks.now c.put_clocks.new.row
    = subst (λ (ns : List ℕ). Puts ns c.clocks-2.result.now c.args.clocks.now c.put_clocks.new.row) c.clocks.ensures c.put_clocks.ensures in
    record {
      values = c.put_written.ensures;
      clocks = subst (λ (xs : List Clock). Puts part.clocks xs c.args.clocks.now c.put_clocks.new.row) c.clocks-2.ensures b;
    }
