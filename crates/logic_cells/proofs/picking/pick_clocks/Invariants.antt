use Rattle.std.proofs.Common.{◌≡◌, [], length, map, take, slice_index_or}
use Rattle.logic_cells.specs.declared.clock.Standard.TheVariants as standard
use Rattle.logic_cells.specs.Clocks.{clock_of}
use Rattle.logic_cells.proofs.picking.pick_clocks.Given as goal

abbrev pub invariant-loop-i : goal.invariant-loop-i
invariant-loop-i l = (length l.picked.items ≡ length l.numbers) × (take l.i l.picked.items ≡ map (λ k. slice_index_or l.clocks k (clock_of standard.Ton [])) (take l.i l.numbers))
