use Rattle.std.proofs.Common.{◌≤◌, sym, subst, List, length}
use Rattle.vm_logic.proofs.Small.{few_globals}
use Rattle.plant_config.proofs.Made.{areas_kept}
use Rattle.plant_config.proofs.running.known_alarms.Goals as goal

pub alarms_of-requires-clause-areas : goal.alarms_of-requires-clause-areas
alarms_of-requires-clause-areas c =
    let few : length c.args.file.now.areas ≤ 64 = areas_kept c.args.handed.now c.args.file.now c.requires.logic.sized.well_formed.has_units.limited.limits in
    subst (λ (areas : List _). length areas ≤ 64) (sym c.in-Ok.ensures.areas) few

pub alarms_of-requires-clause-globals : goal.alarms_of-requires-clause-globals
alarms_of-requires-clause-globals c = few_globals c.args.logic.now c.requires.logic.sound
