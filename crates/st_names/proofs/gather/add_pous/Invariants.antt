use Rattle.std.proofs.Common.{◌≡◌, drop, map}
use Rattle.st_parser.specs.Units.{view_pou}
use Rattle.st_names.specs.Shared.{pou}
use Rattle.st_names.specs.Tables.{with_entries}
use Rattle.st_names.specs.Kept.{shared_entry}
use Rattle.st_names.proofs.gather.add_pous.Given as goal

abbrev pub invariant-loop-pou : goal.invariant-loop-pou
invariant-loop-pou l = with_entries l.table (map shared_entry (map pou (map view_pou (drop l.pou-index l.pous)))) ≡ with_entries l.initial.table (map shared_entry (map pou (map view_pou l.pous)))
