-- How lanes end: of each number the lane is joined with the console that has ended.
use Rattle.std.specs.Prelude.{◌≡◌, ◌==◌, List, [], ◌∷◌, ◌++◌, Option, Some, None, MatchBool}
use Rattle.console_link.specs.declared.console.FinishedRings.{FinishedRings}
use Rattle.console_link.specs.declared.lane.Lane.{Lane}
use Rattle.console_link.specs.Seats.{orders_taken, answers_given, SameLane, left_of, left_answers_of, seen_by, all_submitted, all_taken}
use Rattle.alarm_orders.specs.declared.order.Order.{Order}
use Rattle.console_recorder.specs.Reply.{Reply}
use Rattle.station.specs.Lanes.{finished_of}

-- the lane was joined with a console that has ended: what was taken and what is left is all that it submitted, what it took and what is left all the answers that were given, and how many events it saw is known
pub record Joined (f : FinishedRings Order Reply) (a b : Lane Order Reply) : Type 0 where
  pub lane : SameLane a b
  pub taken : orders_taken b ≡ orders_taken a
  pub given : answers_given b ≡ answers_given a
  pub orders : orders_taken b ++ left_of b ≡ all_submitted f
  pub answers : all_taken f ++ left_answers_of b ≡ answers_given b
  pub seen : seen_by b ≡ Some f.seen

-- the lane of the console's number was joined with it, and no other changed
abbrev pub EndedOne : FinishedRings Order Reply → List (Lane Order Reply) → List (Lane Order Reply) → Type 0
EndedOne f [] bs = ⊥
EndedOne f (a ∷ ds) [] = ⊥
EndedOne f (a ∷ ds) (b ∷ bs) = MatchBool (a.number == f.number) (Joined f a b × (bs ≡ ds)) ((b ≡ a) × EndedOne f ds bs)

-- a lane was joined with a console that has ended, or is as it was
abbrev pub IsEnded : Option (FinishedRings Order Reply) → Lane Order Reply → Lane Order Reply → Type 0
IsEnded None a b = b ≡ a
IsEnded (Some f) a b = Joined f a b

-- each lane was joined with the first of these consoles that has its number, if there is one
abbrev pub AreEnded : List (FinishedRings Order Reply) → List (Lane Order Reply) → List (Lane Order Reply) → Type 0
AreEnded consoles [] [] = Unit {0}
AreEnded consoles [] (b ∷ bs) = ⊥
AreEnded consoles (a ∷ ds) [] = ⊥
AreEnded consoles (a ∷ ds) (b ∷ bs) = IsEnded (finished_of a.number consoles) a b × AreEnded consoles ds bs
