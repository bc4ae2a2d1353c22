-- Records: inputs that are played again, and gone on from.
use Rattle.std.specs.Prelude.{◌≡◌, ℕ, ◌==◌, Bool, true, false, List, [], ◌∷◌, ◌++◌, length, None}
use Rattle.std.specs.List.{list_all}
use Rattle.engine_history.specs.declared.event.Event.{Event}
use Rattle.plant_config.specs.Plants.{PlainPlant}
use Rattle.engine_system.specs.System.{system}
use Rattle.serve_session.specs.Journal.{journal_of}
use Rattle.serve_lines.specs.Commands.{PlainCommand, Nothing, Unknown, Listing, Journal}
use Rattle.serve_lines.specs.Reloads.{reload_size, reload_sizes}
use Rattle.serve_requests.specs.Requests.{Request, is_lf, has_lf, without_cr, requests_of, begun_request}
use Rattle.serve_session.specs.Answers.{asked_by, IsAnswered, AreAnswered}

-- whether bytes end where a line does: there are none, or the last one is LF
abbrev pub ends_at_line : List ℕ → Bool
ends_at_line [] = true
ends_at_line (b ∷ []) = is_lf b
ends_at_line (b ∷ c ∷ bs) = ends_at_line (c ∷ bs)

-- whether no line of an input tells of bytes after it
abbrev pub has_no_body : List ℕ → Bool
has_no_body input = list_all (λ request. reload_size request.line == 0) (requests_of input)

-- an input may be answered a text after a history, and leave another history then
abbrev pub IsPlayed : PlainPlant → List Event → List ℕ → List Event → List ℕ → Type 0
IsPlayed plant history input after text = AreAnswered plant history (requests_of input) after text

-- an input may be answered a text after a history, and leave another history then, and more from there
pub record ArePlayed (plant : PlainPlant) (history : List Event) (past more : List ℕ) (after : List Event) (text : List ℕ) : Type 0 where
  pub middle : List Event
  pub first : List ℕ
  pub rest : List ℕ
  pub past_is : IsPlayed plant history past middle first
  pub more_is : IsPlayed plant middle more after rest
  pub text_is : text ≡ first ++ rest

-- an input and more after it: what both may be answered is what the first may be, and then what the rest may be from the history that the first leaves; and so back
pub record GoesOn (plant : PlainPlant) (history : List Event) (past more : List ℕ) (after : List Event) (text : List ℕ) : Type 0 where
  pub apart : IsPlayed plant history (past ++ more) after text → ArePlayed plant history past more after text
  pub together : ArePlayed plant history past more after text → IsPlayed plant history (past ++ more) after text

-- two histories leave a plant alike: with the same state and the same journal
pub record LeaveAlike (plant : PlainPlant) (h k : List Event) : Type 0 where
  pub state_is : system plant h ≡ system plant k
  pub journal_is : journal_of plant h ≡ journal_of plant k

-- an input may be answered a text after a history, and leave another history then that leaves the plant alike
pub record IsPlayedAlike (plant : PlainPlant) (history : List Event) (input : List ℕ) (after : List Event) (text : List ℕ) : Type 0 where
  pub end : List Event
  pub played : IsPlayed plant history input end text
  pub alike : LeaveAlike plant after end

-- whether a command only asks: it adds no event in any state (a reload is none)
abbrev pub only_asks : PlainCommand → Bool
only_asks Nothing = true
only_asks Unknown = true
only_asks Listing = true
only_asks Journal = true
only_asks _ = false

-- the request of a line and of the bytes after its LF
abbrev pub request_with : (line body : List ℕ) → Request
request_with line body = record { line = without_cr line; body = body }

-- a request adds no event after a history, whatever it is answered
abbrev pub AddsNothing : PlainPlant → List Event → Request → Type 0
AddsNothing plant history request = (after : List Event) (text : List ℕ) → IsAnswered plant history request after text → after ≡ history

-- a request adds no event after any history that an input leaves
abbrev pub AddsNothingAfter : PlainPlant → List Event → List ℕ → Request → Type 0
AddsNothingAfter plant history past request = (middle : List Event) (first : List ℕ) → IsPlayed plant history past middle first → AddsNothing plant middle request

-- a request between an input and more that was answered: what is written is its own answer, and the text that the others may be answered without it, and the history is one that those leave
pub record CanBeLeftOut (plant : PlainPlant) (history : List Event) (past : List ℕ) (request : Request) (more : List ℕ) (after : List Event) (text : List ℕ) : Type 0 where
  pub middle : List Event
  pub first : List ℕ
  pub own : List ℕ
  pub rest : List ℕ
  pub past_is : IsPlayed plant history past middle first
  pub own_is : IsAnswered plant middle request middle own
  pub more_is : IsPlayed plant middle more after rest
  pub text_is : text ≡ first ++ (own ++ rest)
  pub others_are : IsPlayed plant history (past ++ more) after (first ++ rest)

-- ---- laws

-- what an input leaves is one history, whatever it is answered
abbrev pub OneHistoryIsLeft : Type 0
OneHistoryIsLeft = (plant : PlainPlant) (history a b : List Event) (input s t : List ℕ) → IsPlayed plant history input a s → IsPlayed plant history input b t → a ≡ b

-- after a record that ends at the end of a request more goes on as if there had been no end
abbrev pub RecordGoesOn : Type 0
RecordGoesOn = (plant : PlainPlant) (history : List Event) (past more : List ℕ) → begun_request past ≡ []
    → (after : List Event) (text : List ℕ) → GoesOn plant history past more after text

-- an input that ends at the end of a line, and of which no line tells of bytes after it, ends at the end of a request
abbrev pub LinesEndRequests : Type 0
LinesEndRequests = (past : List ℕ) → ends_at_line past ≡ true → has_no_body past ≡ true → begun_request past ≡ []

-- where two histories leave a plant alike, an input may be answered alike after both, and they still leave it alike
abbrev pub StateDecides : Type 0
StateDecides = (plant : PlainPlant) (h k : List Event) → LeaveAlike plant h k
    → (input : List ℕ) (after : List Event) (text : List ℕ) → IsPlayed plant h input after text → IsPlayedAlike plant k input after text

-- a line of a record that adds no event can be left out of it, with the bytes that it tells of
abbrev pub LinesCanBeLeftOut : Type 0
LinesCanBeLeftOut = (plant : PlainPlant) (history : List Event) (past line body more : List ℕ) → begun_request past ≡ [] → has_lf line ≡ false → length body ≡ reload_size (without_cr line)
    → AddsNothingAfter plant history past (request_with line body)
    → (after : List Event) (text : List ℕ) → IsPlayed plant history (past ++ (line ++ 10 ∷ (body ++ more))) after text
    → CanBeLeftOut plant history past (request_with line body) more after text

-- a request that only asks, and is no reload, adds no event
abbrev pub AskingAddsNothing : Type 0
AskingAddsNothing = (plant : PlainPlant) (history : List Event) (request : Request) → reload_sizes request.line ≡ None → only_asks (asked_by request) ≡ true → AddsNothing plant history request
