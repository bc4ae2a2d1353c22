use Rattle.const_fold.proofs.ConstantLaws.{constant_kept}
use Rattle.const_fold.proofs.MadeLaws.{literals_made}
use Rattle.const_fold.proofs.laws.folded_constants_are_literals.Goals as goal

pub returns-clause-literals : goal.returns-clause-literals
returns-clause-literals g c = literals_made

pub returns-clause-constants : goal.returns-clause-constants
returns-clause-constants g c = constant_kept
