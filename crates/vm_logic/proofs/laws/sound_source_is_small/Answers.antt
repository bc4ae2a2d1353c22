use Rattle.vm_logic.proofs.Small.{few_globals, few_programs}
use Rattle.vm_logic.proofs.laws.sound_source_is_small.Goals as goal

pub returns-clause-globals : goal.returns-clause-globals
returns-clause-globals c = few_globals

pub returns-clause-programs : goal.returns-clause-programs
returns-clause-programs c = few_programs
