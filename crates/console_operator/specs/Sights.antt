-- What a console sees of its board, and has seen.
use Rattle.std.specs.Prelude.{◌≡◌, ◌≤◌, ◌<◌, ℕ, min, true, Option, Some, None}
use Rattle.logbook.specs.Pages.{Book}
use Rattle.alarm_machine.specs.declared.states.AlarmState.{AlarmState}
use Rattle.console_boards.specs.declared.entry.BoardEntry.{BoardEntry}
use Rattle.console_boards.specs.declared.picture.Picture.{Picture}
use Rattle.console_boards.specs.Stories.{Story, IsSince, shown, is_lawful}
use Rattle.console_boards.specs.Replies.{after, allows, state_at}
use Rattle.console_boards.specs.Counts.{count_of, is_counted, reloads_in}
use Rattle.console_boards.specs.Readers.{seen, told, log_of, story_read, told_before, log_read}
use Rattle.console_operator.specs.declared.sight.Sight.{Sight}
use Rattle.console_operator.specs.declared.sight.Sight.TheVariants as sight

-- what a board shows: the alarms as they opened, and the events since
abbrev pub BoardStory : Type 0
BoardStory = Story Picture BoardEntry

-- what was seen last, if anything was
abbrev pub seen_by : Sight → Option BoardStory
seen_by (sight.Idle r) = seen r
seen_by (sight.Looking g) = Some (story_read g)

-- what it was told of, if it was
abbrev pub told_by : Sight → Option BoardStory
told_by (sight.Idle r) = told r
told_by (sight.Looking g) = told_before g

-- the log in which what it sees is marked
abbrev pub log_by : Sight → Book
log_by (sight.Idle r) = log_of r
log_by (sight.Looking g) = log_read g

-- what it looks at, if it looks
abbrev pub looked_at : Sight → Option BoardStory
looked_at (sight.Idle r) = None
looked_at (sight.Looking g) = Some (story_read g)

-- what was seen goes on from what was seen before
abbrev pub GoesOn : Option BoardStory → Option BoardStory → Type 0
GoesOn a None = a ≡ None
GoesOn a (Some s) = IsSince a s

-- what it looks at goes on from what was seen, and from what it was told of, if it looks
abbrev pub IsSeenSince : Option BoardStory → Option BoardStory → Option BoardStory → Type 0
IsSeenSince before told None = Unit {0}
IsSeenSince before told (Some s) = IsSince before s × IsSince told s

-- it has seen and was told of the same, in the same log
pub record KnowsAs (a b : Sight) : Type 0 where
  pub seen : seen_by b ≡ seen_by a
  pub told : told_by b ≡ told_by a
  pub log : log_by b ≡ log_by a

-- a look of one who has seen and was told of this, in this log
pub record LooksFrom (before told : Option BoardStory) (log : Book) (b : Sight) : Type 0 where
  pub seen : GoesOn before (seen_by b)
  pub told_is : told_by b ≡ told
  pub log_is : log_by b ≡ log
  pub shown : IsSeenSince before told (looked_at b)

-- a board is looked at, each entry of which might come after those before it, and which has so many orders of this console, or more
abbrev pub HasOrders : ℕ → ℕ → Option BoardStory → Type 0
HasOrders console orders None = ⊥
HasOrders console orders (Some s) = (is_lawful after allows s.0 s.1 ≡ true) × (orders ≤ count_of console s.1)

-- no board is looked at, or one that doesn't count this console's orders, or has fewer
abbrev pub LacksOrders : ℕ → ℕ → Option BoardStory → Type 0
LacksOrders console orders None = Unit {0}
LacksOrders console orders (Some s) = is_counted console s.0.consoles ≡ true → count_of console s.1 < orders

-- how many reloads the board has that is looked at; 4,294,967,295 where it has more
abbrev pub reloads_shown : Option BoardStory → ℕ
reloads_shown None = 0
reloads_shown (Some s) = min (reloads_in s.1) 4294967295

-- the state of an alarm on the board that is looked at
abbrev pub state_shown : ℕ → Option BoardStory → Option AlarmState
state_shown alarm None = None
state_shown alarm (Some s) = state_at alarm (shown after s.0 s.1)
