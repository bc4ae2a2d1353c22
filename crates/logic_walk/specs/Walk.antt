-- What the numbers of a walk's routine mean, and its paths.
use Rattle.std.specs.Prelude.{ℕ, List, []}
use Rattle.st_tree.specs.Meaning.{Space, Ran}
use Rattle.logic_cells.specs.Cells.{PlainCells}
use Rattle.plant_types.specs.Values.{Path}
use Rattle.logic_walk.specs.declared.frame.Base.{Base}
use Rattle.logic_walk.specs.declared.walk.Walk.{Walk}
use Rattle.logic_walk.specs.Walks.{frame_space, placed, run_within, paths_within}

-- what the frames do that the routine may call
abbrev pub below : Walk → ℕ → Base → Path → PlainCells → Ran PlainCells
below walk = placed (run_within walk.moment walk.globals walk.frames.now walk.limit)

-- what the numbers of the routine's body mean in cells
abbrev pub space : Walk → Space ℕ PlainCells
space walk = frame_space walk.moment walk.globals (below walk) walk.seats.now walk.base []

-- the paths of the routine by their numbers
abbrev pub paths : Walk → List Path
paths walk = paths_within walk.frames.now walk.limit walk.seats.now
