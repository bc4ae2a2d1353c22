-- The mark of a board, and what is done to a board and to its mark.
use Rattle.std.specs.Prelude.{◌≡◌, List, Option, Some, None}
use Rattle.logbook.specs.Pages.{Book}
use Rattle.console_log.specs.Marks.{PlainMark}
use Rattle.console_boards.specs.declared.picture.Picture.{Picture}
use Rattle.console_boards.specs.declared.entry.BoardEntry.{BoardEntry}
use Rattle.console_boards.specs.declared.entry.Operation.{Operation}
use Rattle.console_boards.specs.declared.entry.Operation.TheVariants as operation
use Rattle.console_boards.specs.Stories.{grown}
use Rattle.console_boards.specs.Replies.{after, allows}

-- an opening picture, a list of entries, and the mark
abbrev pub MarkedStory : Type 0
MarkedStory = Picture × List BoardEntry × PlainMark BoardEntry

-- the story with an entry more, if it may come, or with another mark
abbrev pub operated : MarkedStory → Operation → MarkedStory
operated s (operation.Entry e) = let grows = grown after allows (s.0, s.1) e in (grows.0, grows.1, s.2)
operated s (operation.Mark m) = (s.0, s.1, m)

-- the log of a mark, if there is one
abbrev pub log_in : Option (PlainMark BoardEntry) → Option Book
log_in None = None
log_in (Some m) = Some m.log

-- the log is the one that is known, if one is
abbrev pub IsLog : Option (PlainMark BoardEntry) → Book → Type 0
IsLog None log = Unit {0}
IsLog (Some known) log = log ≡ known.log

-- a mark of this log and of this list
abbrev pub IsMark : Book → List BoardEntry → PlainMark BoardEntry → Type 0
IsMark log entries m = (m.log ≡ log) × (m.entries ≡ entries)
