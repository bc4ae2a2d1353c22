-- Each event that is taken keeps each value in the range of its variable's kind.
use Rattle.std.proofs.Common.{List}
use Rattle.engine_system.specs.Sound.{IsSound}
use Rattle.engine_system.proofs.Ranges.{opening_in_range}
use Rattle.engine_system.specs.Plants.{PlainPlant}
use Rattle.engine_system.specs.Names.{globals_of}
use Rattle.engine_system.specs.Event.{Event}
use Rattle.engine_system.specs.Event.TheVariants as event
use Rattle.engine_system.specs.System.{System, system, after_event}
use Rattle.engine_system.proofs.InRange.{taken_fits, scan_in, reload_in}
use Rattle.engine.specs.Lawful.{IsTaken, IsLawfulHistory, HasValuesInRange}
use Rattle.engine.proofs.Lawful.{lawful_keeps}

-- the plant of a system is sound, and each value is in the range of its kind
abbrev pub SoundInRange : System → Type 0
SoundInRange sys = IsSound sys.plant.source × HasValuesInRange sys

event_in : (sys : System) (e : Event) → IsTaken sys e → SoundInRange sys → SoundInRange (after_event sys e)
event_in sys (event.Scan image t) taken holds =
    (holds.0, scan_in sys.plant image t sys.faulted sys.world holds.0 (taken_fits (globals_of sys.plant) sys.moment sys.events taken.0 t t image taken.1) holds.1)
event_in sys (event.Order console order) taken holds = holds
event_in sys (event.Reload new) taken holds = (taken.1.sound, reload_in sys.plant new sys.world taken.1.sound holds.1)

-- so it is after a lawful history
pub lawful_in_range : (plant : PlainPlant) (history : List Event) → IsSound plant.source → IsLawfulHistory plant history → SoundInRange (system plant history)
lawful_in_range plant history sound lawful = lawful_keeps SoundInRange event_in plant history (sound, opening_in_range plant.source sound) lawful
