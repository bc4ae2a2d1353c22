use Rattle.std.proofs.Common.{◌≡◌, ◌++◌, drop, map}
use Rattle.std.specs.Prelude.{flat_map}
use Rattle.st_tree.specs.View.{view_stmt}
use Rattle.logic_source.specs.Units.{start_of}
use Rattle.logic_source.proofs.units.starts_of.Given as goal

-- the initial values so far, and those of the other names, are all
abbrev pub invariant-loop-declared : goal.invariant-loop-declared
invariant-loop-declared l = map view_stmt l.starts.items ++ flat_map start_of (drop l.declared-index l.list) ≡ flat_map start_of l.list
