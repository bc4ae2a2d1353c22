use Rattle.std.proofs.Common.{◌≡◌, ◌++◌, drop}
use Rattle.std.specs.Prelude.{flat_map}
use Rattle.logic_source.specs.Units.{own_row_of}
use Rattle.logic_source.proofs.units.own_rows_of.Given as goal

-- the arrays so far, and those of the other names, are all
abbrev pub invariant-loop-declared : goal.invariant-loop-declared
invariant-loop-declared l = l.rows.items ++ flat_map own_row_of (drop l.declared-index l.list) ≡ flat_map own_row_of l.list
