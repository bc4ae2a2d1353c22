use Rattle.logic_frames.proofs.Typed.{variable_numbered, control_numbered}
use Rattle.logic_frames.proofs.laws.variables_have_numbers.Goals as goal

pub returns-clause-variables : goal.returns-clause-variables
returns-clause-variables c = variable_numbered

pub returns-clause-controls : goal.returns-clause-controls
returns-clause-controls c = control_numbered
