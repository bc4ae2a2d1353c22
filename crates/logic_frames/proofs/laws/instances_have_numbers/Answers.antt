use Rattle.logic_frames.proofs.Typed.{instance_numbered}
use Rattle.logic_frames.proofs.laws.instances_have_numbers.Goals as goal

pub returns : goal.returns
returns c = instance_numbered
