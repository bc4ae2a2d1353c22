-- What requests may be answered, one after another, and which history they leave: a relation, since of a plant that is refused by C5 the place is left open, and nothing else is.
use Rattle.std.specs.Prelude.{◌≡◌, ◌⊎◌, ℕ, List, [], ◌∷◌, ◌++◌, Option, Some, None}
use Rattle.plant_folder.specs.Plants.{PlainPlant}
use Rattle.serve_answers.specs.Event.{Event}
use Rattle.serve_answers.specs.System.{system}
use Rattle.serve_answers.specs.Engines.{PlainEngine}
use Rattle.serve_lines.specs.Commands.{PlainCommand, command_of}
use Rattle.serve_lines.specs.Reloads.{PlainSizes, reload_sizes}
use Rattle.serve_answers.specs.Answers.{after_command, answer_after}
use Rattle.serve_requests.specs.Requests.{Request}
use Rattle.serve_session.specs.Reloads.{IsReloadAnswer}

-- what a request asks for that is no reload
abbrev pub asked_by : Request → PlainCommand
asked_by request = command_of request.line

-- the history that a reload leaves is the one before it and the events that it adds
pub record IsReload (plant : PlainPlant) (history : List Event) (sizes : PlainSizes) (body : List ℕ) (after : List Event) (text : List ℕ) : Type 0 where
  pub events : List Event
  pub after_is : after ≡ history ++ events
  pub answer : IsReloadAnswer (system plant history) sizes body events text

-- an engine did a reload with a body, and this is its answer
abbrev pub HasReloadedBody : PlainSizes → (body : List ℕ) → (e₀ e₁ : PlainEngine) → List ℕ → Type 0
HasReloadedBody sizes body e₀ e₁ text = IsReload e₀.plant e₀.history sizes body e₁.history text

-- nothing of it took effect, or all but the answer
abbrev pub MayHaveReloadedBody : PlainSizes → (body : List ℕ) → (e₀ e₁ : PlainEngine) → Type 0
MayHaveReloadedBody sizes body e₀ e₁ = (e₁.history ≡ e₀.history) ⊎ ((text : List ℕ) × HasReloadedBody sizes body e₀ e₁ text)

-- what a request may be answered and which history it leaves, by the sizes that its line gives, if it gives any
abbrev pub IsAnswerBy : Option PlainSizes → PlainPlant → List Event → Request → List Event → List ℕ → Type 0
IsAnswerBy None plant history request after text = (after ≡ after_command plant history (asked_by request)) × (text ≡ answer_after plant history (asked_by request))
IsAnswerBy (Some sizes) plant history request after text = IsReload plant history sizes request.body after text

-- a request may be answered a text after a history, and leaves another history then: where its line gives sizes it is a reload, and else it is the command of its line
abbrev pub IsAnswered : PlainPlant → List Event → Request → List Event → List ℕ → Type 0
IsAnswered plant history request after text = IsAnswerBy (reload_sizes request.line) plant history request after text

-- requests may be answered a text after a history, one after another, and leave another history then: each is answered after what the one before it left
abbrev pub AreAnswered : PlainPlant → List Event → List Request → List Event → List ℕ → Type 0
AreAnswered plant history [] after text = (after ≡ history) × (text ≡ [])
AreAnswered plant history (request ∷ requests) after text =
    (middle : List Event) × (first : List ℕ) × (rest : List ℕ) × IsAnswered plant history request middle first × AreAnswered plant middle requests after rest × (text ≡ first ++ rest)
