-- How runs over cells end.
use Rattle.std.specs.Prelude.{List, [], Result, Ok, Err, slice_index_or}
use Rattle.plant_types.specs.declared.values.Place.{Place}
use Rattle.plant_types.specs.Values.{Path}
use Rattle.st_tree.specs.Meaning.{Spot, Ran, Done, Trapped}
use Rattle.logic_cells.specs.declared.stop.Stop.{Stop}
use Rattle.logic_cells.specs.Cells.{PlainCells}

-- the spot of a place, by the paths for which path numbers stand
abbrev pub spot_of : List Path → Place → Spot
spot_of paths place = record { path = slice_index_or paths place.path []; statement = place.statement }

-- how a run ends, by the paths for which its path numbers stand, with the cells that it leaves
abbrev pub ended : List Path → Result (Unit {0}) Stop → PlainCells → Ran PlainCells
ended paths (Ok _) cells = Done cells
ended paths (Err stop) cells = Trapped cells (spot_of paths stop.place) stop.trap
