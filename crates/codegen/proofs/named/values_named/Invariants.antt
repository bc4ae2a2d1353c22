use Rattle.std.proofs.Common.{◌≡◌, max, drop}
use Rattle.acc_vm.specs.Codes.{values_named}
use Rattle.codegen.proofs.named.values_named.Given as goal

-- what is found, and what is left to find, is all
abbrev pub invariant-loop-instr : goal.invariant-loop-instr
invariant-loop-instr l = max l.named (values_named (drop l.instr-index l.instrs)) ≡ values_named l.instrs
