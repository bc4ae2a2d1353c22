-- Laws of answers.
use Rattle.std.specs.Prelude.{◌≡◌, ◌⊎◌, ℕ, List, [], ◌∷◌, ◌++◌}
use Rattle.serve_answers.specs.Event.{Event}
use Rattle.plant_folder.specs.ConfigFault.{ConfigFault}
use Rattle.plant_folder.specs.Plants.{PlainPlant}
use Rattle.plant_folder.specs.Refusals.{unplaced}
use Rattle.plant_folder.specs.Verdicts.{refusal_line}
use Rattle.serve_requests.specs.Requests.{Request, requests_of}
use Rattle.serve_session.specs.Answers.{AreAnswered}
use Rattle.serve_session.specs.Session.{IsOutText}

-- two texts are the lines of refusals that differ at most in the place of a C5 in its source
abbrev pub AreRefusals : List ℕ → List ℕ → Type 0
AreRefusals s t = (f : ConfigFault) × (g : ConfigFault) × (unplaced f ≡ unplaced g) × (s ≡ refusal_line f) × (t ≡ refusal_line g)

-- two texts are answers to requests that differ, of each request, in nothing but that
abbrev pub AreSame : List Request → List ℕ → List ℕ → Type 0
AreSame [] s t = (s ≡ []) × (t ≡ [])
AreSame (request ∷ requests) s t =
    (a : List ℕ) × (b : List ℕ) × (x : List ℕ) × (y : List ℕ) × ((a ≡ b) ⊎ AreRefusals a b) × AreSame requests x y × (s ≡ a ++ x) × (t ≡ b ++ y)

-- what requests leave is one history, and what they are answered is the same but for that
abbrev pub AnswersAreOne : Type 0
AnswersAreOne = (plant : PlainPlant) (history : List Event) (requests : List Request) (a b : List Event) (s t : List ℕ)
    → AreAnswered plant history requests a s → AreAnswered plant history requests b t → (a ≡ b) × AreSame requests s t

-- and such a history and such a text there are for all requests
abbrev pub AnswersAreThere : Type 0
AnswersAreThere = (plant : PlainPlant) (history : List Event) (requests : List Request) → (after : List Event) × (text : List ℕ) × AreAnswered plant history requests after text

-- so what may be written for an input, where no event came before it, is the same but for that, and there is such a text
abbrev pub OutTextIsOne : Type 0
OutTextIsOne = (plant : PlainPlant) (input : List ℕ)
    → ((s t : List ℕ) → IsOutText plant input s → IsOutText plant input t → AreSame (requests_of input) s t) × ((text : List ℕ) × IsOutText plant input text)
