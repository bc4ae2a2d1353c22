use Rattle.std.proofs.Common.{subst}
use Rattle.st_typing.specs.Faults.{IsTypeFault}
use Rattle.st_typing.proofs.checking.order_of.Goals as goal

pub returns-in-Err : goal.returns-in-Err
returns-in-Err c = subst (λ units. IsTypeFault units c.in-Err.fault) c.in_ok-shared.ensures c.in-Err.ensures

pub returns-in-Err-check_constants : goal.returns-in-Err-check_constants
returns-in-Err-check_constants c = subst (λ units. IsTypeFault units c.in-Err-check_constants.fault) c.in_ok-shared.ensures c.in-Err-check_constants.ensures
