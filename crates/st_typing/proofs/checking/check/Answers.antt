use Rattle.std.proofs.Common.{subst, map}
use Rattle.st_names.specs.Units.{view_unit}
use Rattle.st_typing.specs.Faults.{IsTypeFault}
use Rattle.st_typing.proofs.checking.check.Goals as goal

pub returns-in-Err-clause-judged : goal.returns-in-Err-clause-judged
returns-in-Err-clause-judged c = subst (λ l. IsTypeFault (map view_unit l) c.in-Err.fault) c.as_slice.ensures.value c.in-Err.ensures
