-- What a contract sees of a console that looks at a board.
use Rattle.std.specs.Prelude.{◌≡◌, ℕ, List, length, Option, None}
use Rattle.logbook.specs.Pages.{Book}
use Rattle.console_link.specs.declared.answer.Answer.{Answer}
use Rattle.console_link.specs.Seats.{submitted as link_submitted, taken as link_taken, known_room as link_room, all_submitted, all_taken, Ends}
use Rattle.console_boards.specs.Stories.{seen_events, seen_list, IsSound}
use Rattle.console_boards.specs.Replies.{after, allows}
use Rattle.console_boards.specs.Marks.{IsMark}
use Rattle.console_operator.specs.declared.console.Console.{Console}
use Rattle.console_operator.specs.declared.console.Finished.{Finished}
use Rattle.console_operator.specs.Sights.{BoardStory, seen_by, told_by, log_by, looked_at, GoesOn, IsSeenSince, HasOrders}

module _ {O R : Type 0} where
  -- every order that the console submitted, in order
  abbrev pub submitted : Console O R → List O
  submitted c = link_submitted c.link

  -- every answer that it took, in order
  abbrev pub taken : Console O R → List (Answer O R)
  taken c = link_taken c.link

  -- how many places for orders it knows to be free
  abbrev pub known_room : Console O R → ℕ
  known_room c = link_room c.link

  -- what it saw of the board last, if it saw anything
  abbrev pub story_seen : Console O R → Option BoardStory
  story_seen c = seen_by c.sight

  -- what it was told of the board, if it was
  abbrev pub story_told : Console O R → Option BoardStory
  story_told c = told_by c.sight

  -- the log in which what it sees of the board is marked
  abbrev pub board_log : Console O R → Book
  board_log c = log_by c.sight

  -- it has looked, or tried to: its rings are as they were
  pub record HasLooked (a b : Console O R) : Type 0 where
    pub link : b.link ≡ a.link
    pub seen : GoesOn (story_seen a) (story_seen b)
    pub told : story_told b ≡ story_told a
    pub log : board_log b ≡ board_log a

  -- it doesn't look at the board, so it keeps nobody waiting
  abbrev pub IsIdle : Console O R → Type 0
  IsIdle c = looked_at c.sight ≡ None

  -- it looks no more
  pub record HasLeft (a b : Console O R) : Type 0 where
    pub link : b.link ≡ a.link
    pub seen : story_seen b ≡ story_seen a
    pub told : story_told b ≡ story_told a
    pub log : board_log b ≡ board_log a
    pub idle : IsIdle b

  -- it has tried to look, and doesn't look
  abbrev pub HasTried : Console O R → Console O R → Type 0
  HasTried a b = HasLooked a b × IsIdle b

  -- what it looks at: a lawful list, which goes on from all that it saw and was told of before, with as many of its orders as it took answers, or more
  pub record ShowsFrom (a : Console O R) (story : Option BoardStory) : Type 0 where
    pub since : IsSeenSince (story_seen a) (story_told a) story
    pub orders : HasOrders a.link.number (length (taken a)) story

  -- the console ended as this one, which has a mark of the list that it saw last, and saw so many events: a lawful list, which opens as what it was told of
  pub record EndsAs (c : Console O R) (f : Finished O R) : Type 0 where
    pub rings : Ends c.link f.link
    pub submitted_all : all_submitted f.link ≡ link_submitted c.link
    pub taken_all : all_taken f.link ≡ link_taken c.link
    pub seen : f.link.seen ≡ seen_events (story_seen c)
    pub mark : IsMark (board_log c) (seen_list (story_seen c)) f.mark
    pub sound : IsSound after allows (story_told c) (story_seen c)
