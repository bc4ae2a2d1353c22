use Rattle.std.proofs.Common.{◌≡◌, ◌≤◌, List, length}
use Rattle.engine_system.specs.Plants.{PlainPlant}
use Rattle.engine.specs.RowNames.{HaveNames}
use Rattle.engine.proofs.journal.keep_names.Given as goal

abbrev pub invariant-loop-place : goal.invariant-loop-place
invariant-loop-place l = ((plants : List PlainPlant) → HaveNames plants l.log.rows l.fn.names l.plant → HaveNames plants l.log.rows l.names l.plant) × (length l.names ≡ l.place) × (length l.fn.names ≤ l.place)
