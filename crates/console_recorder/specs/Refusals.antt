-- Why an event isn't made ready in two engines.
use Rattle.std.specs.Prelude.{◌⊎◌, Result, IsOk}
use Rattle.engine.specs.Event.{Event}
use Rattle.engine.specs.EngineFault.{EngineFault}
use Rattle.engine.specs.Plants.{PlainPlant}
use Rattle.engine.specs.Image.{IsDue}
use Rattle.engine.specs.System.{System, reload_event}
use Rattle.engine.specs.Engines.{IsReloadRefusal}

-- a refusal is due where the engine is asked for the event; or the engine takes it, and the refusal is due where the book is asked
abbrev pub IsDueInBoth : EngineFault → Result Event EngineFault → Result Event EngineFault → Type 0
IsDueInBoth e own kept = IsDue e own ⊎ (IsOk own × IsDue e kept)

-- a reload is refused where the engine refuses it; or the engine takes it, and the book refuses it
abbrev pub IsReloadRefusedInBoth : System → System → PlainPlant → EngineFault → Type 0
IsReloadRefusedInBoth own kept new fault = IsReloadRefusal own new fault ⊎ (IsOk (reload_event own new) × IsReloadRefusal kept new fault)
