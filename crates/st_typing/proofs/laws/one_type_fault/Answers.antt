use Rattle.st_typing.proofs.OneFault.{one_fault, apart}
use Rattle.st_typing.proofs.laws.one_type_fault.Goals as goal

pub returns : goal.returns
returns c = record { one = one_fault; apart = apart }
