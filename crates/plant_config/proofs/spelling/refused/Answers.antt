use Rattle.std.proofs.Common.{sym, subst, map}
use Rattle.st_parser.specs.Units.{view_unit}
use Rattle.vm_logic.specs.Faults.{IsTypeFault}
use Rattle.plant_config.proofs.spelling.refused.Goals as goal

pub mistyped-requires : goal.mistyped-requires
mistyped-requires c = subst (λ l. IsTypeFault (map view_unit l) c.args.judged.now.fault) (sym c.as_slice.ensures.value) c.requires
