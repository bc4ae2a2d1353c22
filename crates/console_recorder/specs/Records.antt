-- What is known of a station's archive, which other threads may have: that there is a book under its lock.
use Rattle.std.specs.Prelude.{◌≡◌, ℕ, ◌≤◌, List, [], ◌∷◌, ◌++◌, length, Ok}
use Rattle.plant_types.specs.Pairs.{PlainPair}
use Rattle.engine.specs.EngineFault.{EngineFault}
use Rattle.engine.specs.Plants.{PlainPlant}
use Rattle.engine.specs.System.{reload_event, scan_event}
use Rattle.engine.specs.declared.reload.Reloaded.{Reloaded}
use Rattle.engine.specs.Engines.{PlainEngine, TellsReload, state_of}
use Rattle.engine.specs.Event.{Event}
use Rattle.engine.specs.Event.TheVariants as event
use Rattle.console_boards.specs.declared.writer.BoardWriter.{BoardWriter}
use Rattle.console_boards.specs.Readers.{laid, published}
use Rattle.console_recorder.specs.declared.recorder.Refusal.{Refusal}
use Rattle.console_recorder.specs.Refusals.{IsDueInBoth, IsReloadRefusedInBoth}

-- a scan is refused as the engine refuses it, or by the book of the archive, which has as many events if the station has the whole share
abbrev pub IsScanDue : Type 0 → EngineFault → PlainEngine → List PlainPair → ℕ → Type 0
IsScanDue whole e engine pairs t =
    (book : PlainEngine) × (whole → length book.history ≡ length engine.history) × IsDueInBoth e (scan_event (state_of engine) pairs t) (scan_event (state_of book) pairs t)

-- a reload is refused as the engine refuses it, or by the book of the archive, which has as many events if the station has the whole share
abbrev pub IsReloadDue : Type 0 → EngineFault → PlainEngine → PlainPlant → Type 0
IsReloadDue whole e engine new =
    (book : PlainEngine) × (whole → length book.history ≡ length engine.history) × IsReloadRefusedInBoth (state_of engine) (state_of book) new e

-- readers take as many entries as the history has events: as what they take is a beginning of what was laid by for it, they take all
abbrev pub ShowsAll : List Event → BoardWriter → Type 0
ShowsAll history board = length (published board).1 ≡ length history

-- all that was laid by is shown, unless one refusal more was counted
pub record ShowsUnlessRefused (board : BoardWriter) (before now : List Refusal) : Type 0 where
  pub counted : length before ≤ length now
  pub shown : length now ≡ length before → published board ≡ laid board

-- a reload was taken: it is the last event of the history, and what is told of it is what it did
pub record TakesReload (old new : PlainEngine) (plant : PlainPlant) (r : Reloaded) : Type 0 where
  pub event_is : reload_event (state_of old) plant ≡ Ok (event.Reload plant)
  pub history_is : new.history ≡ old.history ++ event.Reload plant ∷ []
  pub told : TellsReload (state_of old) plant r.kept r.fresh
