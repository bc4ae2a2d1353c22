use Rattle.logic_frames.proofs.Opening.{opening_stands}
use Rattle.logic_frames.proofs.laws.frames_begin.Goals as goal

pub returns : goal.returns
returns c = opening_stands
