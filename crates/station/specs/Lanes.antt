-- The lanes of a station's consoles: each is found by its number.
use Rattle.std.specs.Prelude.{◌≡◌, ℕ, ◌==◌, Bool, true, false, List, [], ◌∷◌, length, map, nat_eq, nat_le, Option, Some, None, All, MatchBool, if◌then◌else◌}
use Rattle.console_link.specs.declared.answer.Answer.{Answer}
use Rattle.console_link.specs.declared.console.ConsoleRings.{ConsoleRings}
use Rattle.console_link.specs.declared.console.FinishedRings.{FinishedRings}
use Rattle.console_link.specs.declared.lane.Lane.{Lane}
use Rattle.console_link.specs.Seats.{orders_taken, answers_given, submitted, taken as answers_taken, known_room, IsConsoleOf, IsEndOf, IsOpen, left_of, left_answers_of, seen_by}
use Rattle.alarm_orders.specs.declared.order.Order.{Order}
use Rattle.console_recorder.specs.Plants.{PlainPlant, IsPlant}
use Rattle.console_recorder.specs.System.{opening_system}
use Rattle.console_recorder.specs.Entries.{picture_of}
use Rattle.console_boards.specs.Stories.{is_lawful}
use Rattle.console_boards.specs.Replies.{after, allows}
use Rattle.logbook.specs.Pages.{Book}
use Rattle.console_operator.specs.declared.console.Console.{Console}
use Rattle.console_operator.specs.declared.console.Finished.{Finished as Ended}
use Rattle.console_operator.specs.Sights.{BoardStory}
use Rattle.console_operator.specs.Consoles.{story_seen, story_told}
use Rattle.plant_file.specs.Lists.{repeats}
use Rattle.plant_file.specs.declared.console.ListedConsole.{ListedConsole}
use Rattle.console_recorder.specs.Reply.{Reply}

-- the numbers of consoles, as a plant lists them
abbrev pub numbers_of : List ListedConsole → List ℕ
numbers_of consoles = map (λ (console : ListedConsole). console.number) consoles

-- the numbers of lanes, in order
abbrev pub numbers_in : List (Lane Order Reply) → List ℕ
numbers_in lanes = map (λ (lane : Lane Order Reply). lane.number) lanes

-- no number stands in the list twice
abbrev pub HasNoTwin : List ℕ → Type 0
HasNoTwin numbers = repeats nat_eq numbers ≡ false

-- the lane of a console's number is the owner's end of its rings
abbrev pub IsConsoleIn : List (Lane Order Reply) → ConsoleRings Order Reply → Type 0
IsConsoleIn [] c = ⊥
IsConsoleIn (lane ∷ lanes) c = MatchBool (lane.number == c.number) (IsConsoleOf c lane) (IsConsoleIn lanes c)

-- and of the rings of a console that has ended
abbrev pub IsLinkEndIn : List (Lane Order Reply) → FinishedRings Order Reply → Type 0
IsLinkEndIn [] f = ⊥
IsLinkEndIn (lane ∷ lanes) f = MatchBool (lane.number == f.number) (IsEndOf f lane) (IsLinkEndIn lanes f)

-- the lane of an ended console's number is the owner's end of its rings
abbrev pub IsEndIn : List (Lane Order Reply) → Ended Order Reply → Type 0
IsEndIn lanes f = IsLinkEndIn lanes f.link

-- what the lane's console sees of the board is marked in this log
abbrev pub IsOfLog : Book → Lane Order Reply → Type 0
IsOfLog log lane = lane.log ≡ log

-- the rings of consoles that have ended
abbrev pub links_in : List (Ended Order Reply) → List (FinishedRings Order Reply)
links_in consoles = map (λ (f : Ended Order Reply). f.link) consoles

-- each console has its lane, in the same order
abbrev pub ArePairs : List (ConsoleRings Order Reply) → List (Lane Order Reply) → Type 0
ArePairs [] [] = Unit {0}
ArePairs [] (lane ∷ lanes) = ⊥
ArePairs (c ∷ consoles) [] = ⊥
ArePairs (c ∷ consoles) (lane ∷ lanes) = IsConsoleOf c lane × ArePairs consoles lanes

-- a lane of which nothing was taken
pub record IsUnused (lane : Lane Order Reply) : Type 0 where
  pub taken : orders_taken lane ≡ []
  pub given : answers_given lane ≡ []
  pub is_open : IsOpen lane

-- a console before it submits its first order
pub record IsFresh (c : ConsoleRings Order Reply) : Type 0 where
  pub none_submitted : submitted c ≡ []
  pub none_taken : answers_taken c ≡ []
  pub room : known_room c ≡ 64

-- a console and a lane for each of these numbers, in order, before the first order
pub record AreOpened (numbers : List ℕ) (consoles : List (ConsoleRings Order Reply)) (lanes : List (Lane Order Reply)) : Type 0 where
  pub console_numbers : map (λ (c : ConsoleRings Order Reply). c.number) consoles ≡ numbers
  pub lane_numbers : numbers_in lanes ≡ numbers
  pub pairs : ArePairs consoles lanes
  pub fresh : All IsFresh consoles
  pub unused : All IsUnused lanes

-- each console of the one is a console of the other, also where it has ended
pub record KeepsConsoles (before after : List (Lane Order Reply)) : Type 0 where
  pub consoles : (c : ConsoleRings Order Reply) → IsConsoleIn before c → IsConsoleIn after c
  pub ended : (f : FinishedRings Order Reply) → IsLinkEndIn before f → IsLinkEndIn after f

-- the ends of the consoles' rings
abbrev pub links_of : List (Console Order Reply) → List (ConsoleRings Order Reply)
links_of consoles = map (λ (c : Console Order Reply). c.link) consoles

-- each of the consoles is one of the station with these lanes
abbrev pub AreConsolesIn : List (Lane Order Reply) → List (Console Order Reply) → Type 0
AreConsolesIn lanes consoles = All (IsConsoleIn lanes) (links_of consoles)

-- a console that has seen nothing of the board, and was told what it shows
pub record HasNotLooked (story : BoardStory) (c : Console Order Reply) : Type 0 where
  pub none_seen : story_seen c ≡ None
  pub told_is : story_told c ≡ Some story

-- what an ended console saw of the board: so many events as its end says and as its mark has, each of which might come after those before it, from the alarms as the plant opens; the orders of each console of the plant are counted
pub record HasSeen (plant : PlainPlant) (story : BoardStory) (f : Ended Order Reply) : Type 0 where
  pub opening : story.0 ≡ picture_of (opening_system plant)
  pub lawful : is_lawful after allows story.0 story.1 ≡ true
  pub events : f.link.seen ≡ length story.1
  pub marked : f.mark.entries ≡ story.1

-- a console and a lane for each that a plant lists, in order, before the first order; the consoles are told of this story of the board, and what they see is marked in this log
pub record AreConsolesOf (plant : PlainPlant) (story : BoardStory) (log : Book) (consoles : List (Console Order Reply)) (lanes : List (Lane Order Reply)) : Type 0 where
  pub opened : AreOpened (numbers_of plant.consoles) (links_of consoles) lanes
  pub looks : All (HasNotLooked story) consoles
  pub marked : All (IsOfLog log) lanes
  pub is_plant : IsPlant plant

-- whether an ended console saw at most so many events; none that hasn't ended
abbrev pub saw_within : ℕ → Option ℕ → Bool
saw_within events None = false
saw_within events (Some seen) = nat_le seen events

-- and the console of the lane of this number
abbrev pub is_within : ℕ → ℕ → List (Lane Order Reply) → Bool
is_within number events [] = false
is_within number events (lane ∷ lanes) = if lane.number == number then saw_within events (seen_by lane) else is_within number events lanes

-- and a console that has ended, if it has
abbrev pub has_seen_within : ℕ → Option (FinishedRings Order Reply) → Bool
has_seen_within events None = false
has_seen_within events (Some f) = nat_le f.seen events

-- the first of a list of ended rings that has this number
abbrev pub finished_of : ℕ → List (FinishedRings Order Reply) → Option (FinishedRings Order Reply)
finished_of number [] = None
finished_of number (f ∷ consoles) = if f.number == number then Some f else finished_of number consoles

-- the first of a list of ended consoles that has this number
abbrev pub ended_of : ℕ → List (Ended Order Reply) → Option (Ended Order Reply)
ended_of number [] = None
ended_of number (f ∷ consoles) = if f.link.number == number then Some f else ended_of number consoles

-- the orders that were left of the console of a number
abbrev pub left_in : ℕ → List (Lane Order Reply) → List Order
left_in number [] = []
left_in number (lane ∷ lanes) = if lane.number == number then left_of lane else left_in number lanes

-- the answers that were left of the console of a number
abbrev pub left_answers_in : ℕ → List (Lane Order Reply) → List (Answer Order Reply)
left_answers_in number [] = []
left_answers_in number (lane ∷ lanes) = if lane.number == number then left_answers_of lane else left_answers_in number lanes
