use Rattle.std.proofs.Common.{◌≡◌, max, drop}
use Rattle.acc_vm.specs.Codes.{clocks_named}
use Rattle.codegen.proofs.named.clocks_named.Given as goal

-- what is found, and what is left to find, is all
abbrev pub invariant-loop-instr : goal.invariant-loop-instr
invariant-loop-instr l = max l.named (clocks_named (drop l.instr-index l.instrs)) ≡ clocks_named l.instrs
