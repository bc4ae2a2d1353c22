use Rattle.std.proofs.Common.{◌∙◌, ap}
use Rattle.acc_vm.specs.Operands.{past_all}
use Rattle.codegen.proofs.named.clocks_past.Goals as goal

pub returns : goal.returns
returns c = c.past.ensures ∙ ap past_all c.named.ensures.clocks
