use Rattle.std.proofs.Common.{◌∷◌, []}
use Rattle.plant_types.specs.Words.{folded}
use Rattle.logic_frames.proofs.Listed.{standards_are}
use Rattle.logic_frames.proofs.laws.frames_have_standards.Goals as goal

pub returns : goal.returns
returns c = λ source order frames are below types n p at. standards_are source order frames are below types n p at (folded p.name ∷ [])
