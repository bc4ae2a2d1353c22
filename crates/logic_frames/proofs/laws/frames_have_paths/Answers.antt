use Rattle.logic_frames.proofs.Listed.{paths_are}
use Rattle.logic_frames.proofs.laws.frames_have_paths.Goals as goal

pub returns : goal.returns
returns c = paths_are
