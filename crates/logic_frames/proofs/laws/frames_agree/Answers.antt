use Rattle.logic_frames.proofs.Runs.{frames_agree}
use Rattle.logic_frames.proofs.laws.frames_agree.Goals as goal

pub returns : goal.returns
returns c = frames_agree
