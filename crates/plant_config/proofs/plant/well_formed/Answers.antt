use Rattle.std.proofs.Common.{sym, subst, map}
use Rattle.st_parser.specs.Units.{view_unit}
use Rattle.vm_logic.specs.Faults.{IsTypeFault}
use Rattle.plant_config.proofs.plant.well_formed.Goals as goal

pub refused-requires : goal.refused-requires
refused-requires c = subst (λ l. IsTypeFault (map view_unit l) c.in-Err.mistyped.fault) (sym c.in-Err.ensures.given_back) c.in-Err.ensures.judged
