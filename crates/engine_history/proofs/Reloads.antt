-- Histories in which the plant stays, and their beginnings.
use Rattle.std.proofs.Common.{List, [], ◌∷◌, ◌++◌}
use Rattle.engine_history.specs.declared.event.Event.{Event}
use Rattle.engine_history.specs.declared.event.Event.TheVariants as event
use Rattle.engine_history.specs.Reloads.{NoReload}

-- one more history without a reload
pub stays_on : (history events : List Event) → NoReload history → NoReload events → NoReload (history ++ events)
stays_on [] events stays on = on
stays_on (event.Scan image t ∷ history) events stays on = stays_on history events stays on
stays_on (event.Order console order ∷ history) events stays on = stays_on history events stays on
stays_on (event.Reload plant ∷ history) events stays on = absurd stays

-- the beginning of one has none
pub stayed : (history events : List Event) → NoReload (history ++ events) → NoReload history
stayed [] events stays = tt
stayed (event.Scan image t ∷ history) events stays = stayed history events stays
stayed (event.Order console order ∷ history) events stays = stayed history events stays
stayed (event.Reload plant ∷ history) events stays = absurd stays

-- and what follows it has none
pub stays_after : (history events : List Event) → NoReload (history ++ events) → NoReload events
stays_after [] events stays = stays
stays_after (event.Scan image t ∷ history) events stays = stays_after history events stays
stays_after (event.Order console order ∷ history) events stays = stays_after history events stays
stays_after (event.Reload plant ∷ history) events stays = absurd stays
