-- Why an order is no event.
use Rattle.engine.specs.EngineFault.{EngineFault}
use Rattle.engine.specs.EngineFault.TheVariants as refusal

-- why an order is no event: memory was refused, or the history is full
abbrev pub IsOrderFault : EngineFault → Type 0
IsOrderFault refusal.Memory = Unit {0}
IsOrderFault refusal.MomentBack = ⊥
IsOrderFault refusal.MomentRange = ⊥
IsOrderFault refusal.ImageName = ⊥
IsOrderFault refusal.ImageKind = ⊥
IsOrderFault (refusal.Crew fault) = ⊥
IsOrderFault refusal.HistoryFull = Unit {0}
IsOrderFault refusal.ReloadConsoles = ⊥
IsOrderFault refusal.ReloadEpoch = ⊥
