-- Refusals, told apart from what they say.
use Rattle.plant_config.specs.declared.fault.ConfigFault.TheVariants as fault
use Rattle.plant_config.specs.Files.{Texts}
use Rattle.plant_config.specs.Refusals.{IsRefused}

-- memory may be refused at any time
pub memory_refused : (t : Texts) → IsRefused t fault.Memory
unfolding IsRefused
memory_refused t = tt
