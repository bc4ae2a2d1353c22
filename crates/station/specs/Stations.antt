-- What a contract sees of a station: its engine, and its lanes, each of which agrees with the history.
use Rattle.std.specs.Prelude.{◌≡◌, ℕ, ◌≤◌, Bool, true, false, List, [], ◌∷◌, ◌++◌, length, map, Option, Some, None, Ok, All, refl}
use Rattle.std.specs.Coded.{Coded, code_by, coded×, coded_list, coded_ℕ}
use mathlib.Core.List.{IsPrefix}
use Rattle.logbook.specs.Pages.{Book}
use Rattle.plant_types.specs.Pairs.{PlainPair}
use Rattle.console_link.specs.declared.answer.Answer.{Answer}
use Rattle.console_link.specs.declared.console.FinishedRings.{FinishedRings}
use Rattle.console_link.specs.declared.lane.Lane.{Lane}
use Rattle.console_link.specs.contracts.lane.Lane as lane_row
use Rattle.console_link.specs.Seats.{orders_taken, answers_given, IsOpen, all_submitted, all_taken}
use Rattle.console_recorder.specs.Event.{Event}
use Rattle.alarm_orders.specs.declared.order.Order.{Order}
use Rattle.alarm_orders.specs.contracts.order.Order as order_row
use Rattle.console_recorder.specs.Plants.{PlainPlant}
use Rattle.console_recorder.specs.Reply.{Reply}
use Rattle.console_recorder.specs.EngineSystemReply as reply_row
use Rattle.console_recorder.specs.System.{scan_event}
use Rattle.console_recorder.specs.Reports.{PlainReport}
use Rattle.console_recorder.specs.States.{IsReport}
use Rattle.console_recorder.specs.Reloaded.{Reloaded}
use Rattle.console_recorder.specs.Engines.{PlainEngine, engine_code, state_of}
use Rattle.console_recorder.specs.Records.{TakesReload}
use Rattle.console_boards.specs.declared.entry.AnsweredOrder.{AnsweredOrder}
use Rattle.console_boards.specs.declared.entry.BoardEntry.{BoardEntry}
use Rattle.console_boards.specs.Counts.{answers_of as answers_shown}
use Rattle.console_recorder.specs.Entries.{board_reply, entries_of, history_story}
use Rattle.console_recorder.specs.Parts.{answers_of, orders_in}
use Rattle.console_recorder.specs.Turns.{TookParts}
use Rattle.console_operator.specs.declared.console.Console.{Console}
use Rattle.console_operator.specs.declared.console.Finished.{Finished as Ended}
use Rattle.console_operator.specs.Consoles.{story_seen, story_told, EndsAs}
use Rattle.console_operator.specs.Sights.{BoardStory, HasOrders}
use Rattle.station.specs.Lanes.{numbers_of, numbers_in, links_in, left_in, left_answers_in, finished_of, ended_of, is_within, has_seen_within, HasNoTwin, HasSeen, IsOfLog}

-- its engine, its share of the parts of its ledger, its crew, the owner's ends of its consoles' rings, how many events of the history its board shows, the first ones, and how often it refused an order or to show an event
pub record PlainStation (C : Type 0) : Type 0 where
  pub engine : PlainEngine
  pub parts : ℕ
  pub crew : C
  pub lanes : List (Lane Order Reply)
  pub shown : ℕ
  pub refusals : ℕ

-- a station that was closed has these left
pub record PlainClosing (C : Type 0) : Type 0 where
  pub engine : PlainEngine
  pub crew : C
  pub lanes : List (Lane Order Reply)

-- codes of what is seen
abbrev lanes_code : Coded (List (Lane Order Reply))
lanes_code = coded_list (lane_row.the_row order_row.the_row reply_row.the_row).coded

abbrev pub station_code : {C : Type 0} → Coded C → Coded (PlainStation C)
station_code {C} code =
    code_by (PlainEngine × (ℕ × (C × (List (Lane Order Reply) × (ℕ × ℕ))))) (coded× engine_code (coded× coded_ℕ (coded× code (coded× lanes_code (coded× coded_ℕ coded_ℕ)))))
    (λ s. (s.engine, (s.parts, (s.crew, (s.lanes, (s.shown, s.refusals)))))) (λ p. record { engine = p.0; parts = p.1.0; crew = p.1.1.0; lanes = p.1.1.1.0; shown = p.1.1.1.1.0; refusals = p.1.1.1.1.1 }) (λ _. refl)

abbrev pub closing_code : {C : Type 0} → Coded C → Coded (PlainClosing C)
closing_code {C} code =
    code_by (PlainEngine × (C × List (Lane Order Reply))) (coded× engine_code (coded× code lanes_code))
    (λ s. (s.engine, (s.crew, s.lanes))) (λ p. record { engine = p.0; crew = p.1.0; lanes = p.1.1 }) (λ _. refl)

-- the lane has taken and answered just the orders that the history has of its console, in order, and its console hasn't ended
pub record AgreesWith (plant : PlainPlant) (history : List Event) (lane : Lane Order Reply) : Type 0 where
  pub taken : orders_taken lane ≡ orders_in (answers_of lane.number plant history)
  pub given : answers_given lane ≡ answers_of lane.number plant history
  pub is_open : IsOpen lane

-- each console that the plant lists has one lane, in the same order, each lane agrees with the history, and what its console sees is marked in the board's log
pub record IsStation (plant : PlainPlant) (history : List Event) (log : Book) (lanes : List (Lane Order Reply)) : Type 0 where
  pub listed : numbers_in lanes ≡ numbers_of plant.consoles
  pub once : HasNoTwin (numbers_in lanes)
  pub few : length lanes ≤ 32
  pub agree : All (AgreesWith plant history) lanes
  pub marked : All (IsOfLog log) lanes

module _ {C : Type 0} where
  -- a turn: its scan is the next event of the history, then come the orders that were taken
  pub record IsTurn (old new : PlainStation C) (pairs : List PlainPair) (t : ℕ) (report : PlainReport) (taken : ℕ) (stopped : Bool) : Type 0 where
    pub scan : Event
    pub scan_is : scan_event (state_of old.engine) pairs t ≡ Ok scan
    pub report_is : IsReport (state_of old.engine) scan report
    pub plant_is : new.engine.plant ≡ old.engine.plant
    pub parts : TookParts old.engine.plant old.lanes new.lanes (old.engine.history ++ scan ∷ []) new.engine.history taken stopped

  -- and unless one refusal more was counted, a turn wasn't stopped, and the board shows all events
  abbrev pub IsWhole : PlainStation C → PlainStation C → Bool → Type 0
  IsWhole old new stopped = (old.refusals ≤ new.refusals) × (new.refusals ≡ old.refusals → (stopped ≡ false) × (new.shown ≡ length new.engine.history))

  -- a reload: it is the next event of the history, no order is taken, and unless one refusal more was counted, the board shows all events
  pub record IsReload (old new : PlainStation C) (plant : PlainPlant) (r : Reloaded) : Type 0 where
    pub reload : TakesReload old.engine new.engine plant r
    pub lanes : new.lanes ≡ old.lanes
    pub counted : old.refusals ≤ new.refusals
    pub shown : new.refusals ≡ old.refusals → new.shown ≡ length new.engine.history

  -- a refused turn changes neither the history, nor a lane, nor what the board shows, and no refusal of an order is counted
  pub record SameButRoom (old new : PlainStation C) : Type 0 where
    pub plant : new.engine.plant ≡ old.engine.plant
    pub history : new.engine.history ≡ old.engine.history
    pub lanes : new.lanes ≡ old.lanes
    pub shown : new.shown ≡ old.shown
    pub refusals : new.refusals ≡ old.refusals

-- what is known of a console once its station is closed: the orders that the history has of it, followed by those that are left, are what it submitted, each once and in order; the answers that it took, followed by those that are left, are those that the history has of it. Nothing is left of one whose end wasn't handed in
abbrev pub IsClosed : List (Answer Order Reply) → List Order → List (Answer Order Reply) → Option (FinishedRings Order Reply) → Type 0
IsClosed answers left left_answers None = (left ≡ []) × (left_answers ≡ [])
IsClosed answers left left_answers (Some f) = (orders_in answers ++ left ≡ all_submitted f) × (all_taken f ++ left_answers ≡ answers)

-- so it is of each of a closed station's consoles
abbrev pub AreClosed : PlainEngine → List (Ended Order Reply) → List (Lane Order Reply) → Type 0
AreClosed engine finished lanes =
    (n : ℕ) → IsClosed (answers_of n engine.plant engine.history) (left_in n lanes) (left_answers_in n lanes) (finished_of n (links_in finished))

-- the lanes tell of each console whether it saw at most so many events as the history has
abbrev pub TellWithin : PlainEngine → List (Ended Order Reply) → List (Lane Order Reply) → Type 0
TellWithin engine finished lanes =
    (n : ℕ) → is_within n (length engine.history) lanes ≡ has_seen_within (length engine.history) (finished_of n (links_in finished))

-- what a console saw of which they tell so is a beginning of the history's entries
abbrev pub SawBeginnings : PlainEngine → List (Ended Order Reply) → List (Lane Order Reply) → Type 0
SawBeginnings engine finished lanes =
    (n : ℕ) (f : Ended Order Reply) → ended_of n finished ≡ Some f → is_within n (length engine.history) lanes ≡ true
    → IsPrefix f.mark.entries (entries_of engine.plant engine.history)

-- what ended consoles saw of the board, and these entries, are beginnings of one list
pub record AreBeginnings (entries : List BoardEntry) (consoles : List (Ended Order Reply)) : Type 0 where
  pub one : List BoardEntry
  pub own : IsPrefix entries one
  pub theirs : All (λ (f : Ended Order Reply). IsPrefix f.mark.entries one) consoles

-- an answer, as a board has it
abbrev pub board_answer : Answer Order Reply → AnsweredOrder
board_answer a = record { order = a.order; reply = board_reply a.reply }

-- the first orders of a console that these entries have are those of these answers, with the same replies
abbrev pub HasAnswers : ℕ → List BoardEntry → List (Answer Order Reply) → Type 0
HasAnswers n entries taken = IsPrefix (map board_answer taken) (answers_shown n entries)

-- of a board that shows a beginning of the history, with as many of a console's orders as it took answers or more, the first of these orders are those of the answers
abbrev pub AnswersAreShown : Type 0
AnswersAreShown = (n : ℕ) (plant : PlainPlant) (history : List Event) (story : BoardStory) (taken : List (Answer Order Reply)) → HasOrders n (length taken) (Some story)
    → IsPrefix story.1 (entries_of plant history) → IsPrefix taken (answers_of n plant history) → HasAnswers n story.1 taken

-- an ended console that was told of the board before the first event saw what its end says
abbrev pub EndsTellWhatWasSeen : Type 0
EndsTellWhatWasSeen = (plant : PlainPlant) (c : Console Order Reply) (f : Ended Order Reply) (story : BoardStory)
    → story_told c ≡ Some (history_story plant []) → EndsAs c f → story_seen c ≡ Some story → HasSeen plant story f
