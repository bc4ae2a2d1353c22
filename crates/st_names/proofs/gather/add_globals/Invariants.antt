use Rattle.std.proofs.Common.{◌≡◌, drop, map}
use Rattle.st_names.specs.Shared.{global}
use Rattle.st_names.specs.Tables.{with_entries}
use Rattle.st_names.specs.Kept.{shared_entry}
use Rattle.st_names.proofs.gather.add_globals.Given as goal

abbrev pub invariant-loop-declared : goal.invariant-loop-declared
invariant-loop-declared l = with_entries l.table (map shared_entry (map global (drop l.declared-index l.list))) ≡ with_entries l.initial.table (map shared_entry (map global l.list))
