-- What a contract sees of a board's reader and of its writer.
use Rattle.std.specs.Prelude.{Option}
use Rattle.logbook.specs.Pages.{Book}
use Rattle.left_right.specs.Sides.{view}
use Rattle.console_boards.specs.declared.picture.Picture.{Picture}
use Rattle.console_boards.specs.declared.entry.BoardEntry.{BoardEntry}
use Rattle.console_boards.specs.declared.board.Board.{Board}
use Rattle.console_boards.specs.declared.reader.BoardReader.{BoardReader}
use Rattle.console_boards.specs.declared.reader.BoardReading.{BoardReading}
use Rattle.console_boards.specs.declared.writer.BoardWriter.{BoardWriter}
use Rattle.console_boards.specs.Stories.{Story}

-- the story of a board
abbrev pub story_of : Board → Story Picture BoardEntry
story_of b = (b.opening.value, b.list)

-- the story that a reader saw last, if it saw one
abbrev pub seen : BoardReader → Option (Story Picture BoardEntry)
seen r = (view r.reader.place).seen

-- the story that it was told of, if it was
abbrev pub told : BoardReader → Option (Story Picture BoardEntry)
told r = (view r.reader.place).told

-- the story that is read
abbrev pub story_read : BoardReading → Story Picture BoardEntry
story_read r = story_of r.reading.part.value

-- the story of which its reader was told before
abbrev pub told_before : BoardReading → Option (Story Picture BoardEntry)
told_before r = (view r.reading.place).told

-- the log of which it has marks
abbrev pub log_of : BoardReader → Book
log_of r = r.mark.log

-- the log in which the board that is read is marked
abbrev pub log_read : BoardReading → Book
log_read r = r.reading.part.value.mark.log

-- the story that readers take now
abbrev pub published : BoardWriter → Story Picture BoardEntry
published w = story_of w.writer.desk.shown.value

-- the story of all that was laid by, published or not yet
abbrev pub laid : BoardWriter → Story Picture BoardEntry
laid w = (w.writer.desk.shown.value.opening.value, w.log.entries)

-- the log of what was laid by
abbrev pub log_kept : BoardWriter → Book
log_kept w = w.log.log
