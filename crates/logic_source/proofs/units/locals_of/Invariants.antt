use Rattle.std.proofs.Common.{◌≡◌, ◌++◌, drop}
use Rattle.std.specs.Prelude.{flat_map}
use Rattle.logic_source.specs.Units.{local_of}
use Rattle.logic_source.proofs.units.locals_of.Given as goal

-- the variables so far, and those of the other names, are all
abbrev pub invariant-loop-declared : goal.invariant-loop-declared
invariant-loop-declared l = l.locals.items ++ flat_map local_of (drop l.declared-index l.list) ≡ flat_map local_of l.list
