-- What a turn does with the orders that wait, console by console.
use Rattle.std.specs.Prelude.{◌≡◌, ◌⊎◌, ℕ, ◌+◌, ◌<◌, ◌≤◌, Bool, true, false, List, [], ◌∷◌, ◌++◌, length, Result, Ok, Err, MatchBool, MatchResult}
use Rattle.console_link.specs.declared.lane.Lane.{Lane}
use Rattle.console_link.specs.Seats.{orders_taken, orders_known, answers_given, answer_room, SameLane}
use Rattle.engine_system.specs.Event.{Event}
use Rattle.alarm_orders.specs.declared.order.Order.{Order}
use Rattle.engine_system.specs.Plants.{PlainPlant}
use Rattle.engine_system.specs.declared.event.Reply.{Reply}
use Rattle.engine_system.specs.System.{system}
use Rattle.console_orders.specs.declared.recording.NotTaken.{NotTaken}
use Rattle.console_orders.specs.Parts.{answers_from, events_by}

-- no order that is known to wait can be answered: none is known, or no place for an answer is known to be free
abbrev pub HasNoneToTake : Lane Order Reply → Type 0
HasNoneToTake lane = (orders_known lane ≡ []) ⊎ (answer_room lane ≡ 0)

-- an order is known to wait, and a place for its answer is known to be free
abbrev pub HasOneToTake : Lane Order Reply → Type 0
HasOneToTake lane = (0 < length (orders_known lane)) × (0 < answer_room lane)

-- these orders were taken of a console, each once and in order: each is the next event of the history, and what it was replied there is its answer, which was given
pub record Took (plant : PlainPlant) (a b : Lane Order Reply) (old new : List Event) (orders : List Order) : Type 0 where
  pub lane : SameLane a b
  pub ended : b.ended ≡ a.ended
  pub taken : orders_taken b ≡ orders_taken a ++ orders
  pub given : answers_given b ≡ answers_given a ++ answers_from a.number (system plant old) (events_by a.number orders)
  pub events : new ≡ old ++ events_by a.number orders

-- the order that waits first was taken, where there is one that can be answered; or there is none to take; or one that is refused, which stays
abbrev pub TookOne : PlainPlant → Lane Order Reply → Lane Order Reply → List Event → List Event → Result Bool NotTaken → Type 0
TookOne plant a b old new result =
    MatchResult result
    (λ took. MatchBool took ((order : Order) × Took plant a b old new (order ∷ [])) (Took plant a b old new [] × HasNoneToTake b))
    (λ _. Took plant a b old new [] × HasOneToTake b)

-- how a console's part of a turn ends: it is stopped at an order that could be answered, or it has 64 orders, or there is none to take
abbrev pub HasEnded : Lane Order Reply → ℕ → Bool → Type 0
HasEnded lane taken true = HasOneToTake lane
HasEnded lane taken false = (taken ≡ 64) ⊎ HasNoneToTake lane

-- a console's part of a turn: so many orders were taken, at most 64, and whether it was stopped
pub record TookPart (plant : PlainPlant) (a b : Lane Order Reply) (old new : List Event) (taken : ℕ) (stopped : Bool) : Type 0 where
  pub orders : List Order
  pub count : length orders ≡ taken
  pub most : taken ≤ 64
  pub took : Took plant a b old new orders
  pub ends : HasEnded b taken stopped

-- the parts of consoles, one after another: so many orders in all, and whether the taking was stopped. After a part that was stopped nothing more is taken
abbrev pub TookParts : PlainPlant → List (Lane Order Reply) → List (Lane Order Reply) → List Event → List Event → ℕ → Bool → Type 0
TookParts plant [] [] old new taken stopped = (new ≡ old) × (taken ≡ 0) × (stopped ≡ false)
TookParts plant [] (b ∷ bs) old new taken stopped = ⊥
TookParts plant (a ∷ ds) [] old new taken stopped = ⊥
TookParts plant (a ∷ ds) (b ∷ bs) old new taken stopped =
    (middle : List Event) × (here : ℕ) × (rest : ℕ) × (ends : Bool) × TookPart plant a b old middle here ends × (taken ≡ here + rest)
    × MatchBool ends ((bs ≡ ds) × (new ≡ middle) × (rest ≡ 0) × (stopped ≡ true)) (TookParts plant ds bs middle new rest stopped)

-- whether an order was refused as an event
abbrev pub is_refused : {A : Type 0} → Result A NotTaken → Bool
is_refused (Ok a) = false
is_refused (Err e) = true

-- between two counts of refusals: unless one more was counted, nothing was stopped, and a board that showed all events shows them all again
pub record UnlessRefused (all all' : Type 0) (before now : ℕ) (stopped : Bool) : Type 0 where
  pub counted : before ≤ now
  pub goes_on : now ≡ before → stopped ≡ false
  pub shows : now ≡ before → all → all'
