use Rattle.st_blocks.proofs.Decided.{one_fault, apart}
use Rattle.st_blocks.proofs.laws.one_nesting_fault.Goals as goal

pub returns : goal.returns
returns c = record { one = one_fault; apart = apart }
