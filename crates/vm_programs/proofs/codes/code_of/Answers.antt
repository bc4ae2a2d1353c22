use Rattle.std.proofs.Common.{ap}
use Rattle.acc_vm.specs.Codes.{PlainCode}
use Rattle.vm_programs.proofs.codes.code_of.Goals as goal

pub returns-clause-runs : goal.returns-clause-runs
returns-clause-runs c =
    let made = c.in_ok-code.ensures in
    record {
      runs = made.runs;
      paths = ap (λ (k : PlainCode). k.paths) made.is;
      within = made.within;
      tells = ap (λ (k : PlainCode). k.cost) made.is;
    }
