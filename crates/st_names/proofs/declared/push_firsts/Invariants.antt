use Rattle.std.proofs.Common.{◌≡◌, ◌++◌, drop}
use Rattle.st_names.specs.DeclaredNames.{first_declared}
use Rattle.st_names.proofs.declared.push_firsts.Given as goal

abbrev pub invariant-loop-declared : goal.invariant-loop-declared
invariant-loop-declared l = l.firsts.items ++ first_declared l.names (drop l.declared-index l.list) ≡ l.initial.firsts.items ++ first_declared l.initial.names l.list
