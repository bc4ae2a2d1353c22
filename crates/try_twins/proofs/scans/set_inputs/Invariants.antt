use Rattle.std.proofs.Common.{◌≡◌, length}
use Rattle.try_twins.proofs.scans.set_inputs.Given as goal

-- the cells stay as many
abbrev pub invariant-loop-number : goal.invariant-loop-number
invariant-loop-number l = record {
  values : length l.twin.ran.values ≡ length l.fn.twin.ran.values;
  clocks : length l.twin.ran.clocks ≡ length l.fn.twin.ran.clocks;
}
