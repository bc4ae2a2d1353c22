use Rattle.std.proofs.Common.{◌≡◌, drop, map}
use Rattle.st_names.specs.Tables.{with_entries}
use Rattle.st_names.specs.Kept.{own_entry, own_entries}
use Rattle.st_names.proofs.body.own_entries.Given as goal

abbrev pub invariant-loop-declared : goal.invariant-loop-declared
invariant-loop-declared l = with_entries l.table (map own_entry (drop l.declared-index l.list)) ≡ own_entries l.list
