-- What readers and the writer know of a board.
use Rattle.std.specs.Prelude.{◌≡◌, ℕ, Some, None, List}
use mathlib.Core.Option.{some}
use lib.ListN.{get_elem?}
use Rattle.console_log.specs.Marks.{PlainMark}
use Rattle.console_boards.specs.declared.picture.Picture.{Picture}
use Rattle.console_boards.specs.declared.entry.BoardEntry.{BoardEntry}
use Rattle.console_boards.specs.declared.view.View.{View}
use Rattle.console_boards.specs.Stories.{Story, IsSince}
use Rattle.console_boards.specs.Marks.{IsLog}

-- the story goes on from what was seen and told of, and its mark is of the log that is known
abbrev pub Follows : View → Story Picture BoardEntry → PlainMark BoardEntry → Type 0
Follows v s m = IsSince v.seen s × IsSince v.told s × IsLog v.mark m.log

-- the mark is of the whole list, and the story follows what each knows
abbrev pub Keeps : Story Picture BoardEntry → PlainMark BoardEntry → List View → Type 0
Keeps s m views = (m.entries ≡ s.1) × ((seat : ℕ) (v : View) → get_elem? views seat ≡ some v → Follows v s m)

-- the story was seen with its mark, which follows what was known before
abbrev pub Sees : View → Story Picture BoardEntry → PlainMark BoardEntry → View → Type 0
Sees v s m w = Follows v s m × (m.entries ≡ s.1) × (w.seen ≡ Some s) × (w.told ≡ v.told) × (w.mark ≡ Some m)

-- who was told what another has seen, and of which log
abbrev pub informed : View → View → View
informed v w = record { seen = v.seen; told = w.seen; mark = w.mark }

-- who has seen nothing yet
abbrev pub newcomer : View
newcomer = record { seen = None; told = None; mark = None }
