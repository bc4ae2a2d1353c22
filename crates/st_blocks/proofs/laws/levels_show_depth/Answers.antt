use Rattle.st_blocks.proofs.Depths.{enough}
use Rattle.st_blocks.proofs.laws.levels_show_depth.Goals as goal

pub returns : goal.returns
returns c = enough
