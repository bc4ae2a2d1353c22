use Rattle.std.proofs.Common.{◌≡◌, ◌≤◌, ◌^◌, length}
use Rattle.level_scans.proofs.FirstParts.{AreFirstParts}
use Rattle.level_scans.proofs.parts.parts_of.Given as goal

abbrev pub invariant-loop-program : goal.invariant-loop-program
invariant-loop-program l = record {
  all : l.program-end ≡ length (l.framed.programs);
  slots : length l.slots.items ≤ 2 ^ 32;
  clocks : length l.clocks.items ≤ 2 ^ 32;
  first : AreFirstParts l.framed l.program l.parts.items;
}
