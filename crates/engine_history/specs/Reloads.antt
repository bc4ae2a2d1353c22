-- Histories in which the plant stays.
use Rattle.std.specs.Prelude.{List, [], ◌∷◌}
use Rattle.engine_history.specs.declared.event.Event.{Event}
use Rattle.engine_history.specs.declared.event.Event.TheVariants as event

-- none of these events is a reload: each is a scan or an order
abbrev pub NoReload : List Event → Type 0
NoReload [] = Unit {0}
NoReload (event.Scan image t ∷ events) = NoReload events
NoReload (event.Order console order ∷ events) = NoReload events
NoReload (event.Reload plant ∷ events) = ⊥
