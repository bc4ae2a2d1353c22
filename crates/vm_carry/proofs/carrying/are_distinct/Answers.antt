use Rattle.vm_logic.proofs.Small.{sound_named}
use Rattle.vm_carry.proofs.carrying.are_distinct.Goals as goal

pub returns : goal.returns
returns c = sound_named c.args.framed.now c.programs-programs.ensures.sound
