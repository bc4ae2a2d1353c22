-- each text so far has a unit
use Rattle.std.proofs.Common.{◌≡◌, map, take, length}
use Rattle.st_parser.specs.Units.{view_unit}
use Rattle.st_sources.specs.Sources.{HaveUnits}
use Rattle.st_sources.proofs.reading.units.Given as goal

abbrev pub invariant-loop-source : goal.invariant-loop-source
invariant-loop-source l = record {
  count : length l.units.items ≡ l.source-index;
  before : HaveUnits (take l.source-index (map (λ s. s.1.now) l.sources)) (map view_unit l.units.items);
}
