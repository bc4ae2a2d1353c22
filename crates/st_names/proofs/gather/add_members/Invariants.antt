use Rattle.std.proofs.Common.{◌≡◌, drop}
use Rattle.st_names.specs.Kept.{with_members}
use Rattle.st_names.proofs.gather.add_members.Given as goal

abbrev pub invariant-loop-declared : goal.invariant-loop-declared
invariant-loop-declared l = with_members l.members (drop l.declared-index l.list) ≡ with_members l.initial.members l.list
