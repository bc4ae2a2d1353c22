use Rattle.std.proofs.Common.{◌≡◌, ◌++◌, drop}
use Rattle.std.specs.Prelude.{flat_map}
use Rattle.logic_source.specs.Units.{instance_of}
use Rattle.logic_source.proofs.units.instances_of.Given as goal

-- the instances so far, and those of the other names, are all
abbrev pub invariant-loop-declared : goal.invariant-loop-declared
invariant-loop-declared l = l.instances.items ++ flat_map (instance_of l.names) (drop l.declared-index l.list) ≡ flat_map (instance_of l.names) l.list
