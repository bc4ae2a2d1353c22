-- When a board has a history.
use Rattle.std.specs.Prelude.{◌≡◌, List}
use Rattle.engine.specs.Event.{Event}
use Rattle.engine.specs.Plants.{PlainPlant}
use Rattle.engine.specs.System.{system, opening_system}
use Rattle.console_boards.specs.declared.writer.BoardWriter.{BoardWriter}
use Rattle.console_boards.specs.Stories.{shown}
use Rattle.console_boards.specs.Replies.{after}
use Rattle.console_boards.specs.Readers.{laid}
use Rattle.console_recorder.specs.Entries.{picture_of, entries_of, history_story}

-- after the entries of a history a board's picture is the system's
abbrev pub HasAlarmsOf : PlainPlant → List Event → Type 0
HasAlarmsOf plant history = shown after (picture_of (opening_system plant)) (entries_of plant history) ≡ picture_of (system plant history)

-- all that was laid by for the board is this history, and its alarms are the system's. What readers take is a beginning of that
pub record HasHistory (plant : PlainPlant) (history : List Event) (board : BoardWriter) : Type 0 where
  pub laid_is : laid board ≡ history_story plant history
  pub alarms : HasAlarmsOf plant history
