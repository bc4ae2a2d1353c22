use Rattle.std.proofs.Common.{◌≡◌, ◌++◌, drop}
use Rattle.logic_source.proofs.units.push_declared.Given as goal

-- the names so far, and the other ones, are all
abbrev pub invariant-loop-declared : goal.invariant-loop-declared
invariant-loop-declared l = l.list.items ++ drop l.declared-index l.more ≡ l.initial.list.items ++ l.more
