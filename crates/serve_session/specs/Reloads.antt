-- What a reload may be answered, and which history it leaves.
use Rattle.std.specs.Prelude.{◌≡◌, ◌⊎◌, ℕ, nat_lt, false, cond, List, [], ◌∷◌, ◌++◌, length, take, drop, codes, Option, Some, None}
use Rattle.plant_file.specs.Read.{plant_file_in}
use Rattle.plant_folder.specs.Files.{Texts, texts_of}
use Rattle.plant_folder.specs.Plants.{PlainPlant}
use Rattle.plant_folder.specs.Verdicts.{IsVerdict}
use Rattle.serve_answers.specs.Event.{Event}
use Rattle.serve_answers.specs.Reloads.{kept_numbers, kept_count, fresh_count}
use Rattle.serve_answers.specs.System.{System, reload_event}
use Rattle.serve_answers.specs.Engines.{PlainEngine, state_of}
use Rattle.serve_lines.specs.Reloads.{PlainSizes, total_size}
use Rattle.serve_lines.specs.Lines.{refused_line, reloaded_line}
use Rattle.serve_answers.specs.Answers.{event_text, event_added}

-- ---- the texts that a reload hands in

-- bytes cut into texts of these sizes, one after another
abbrev pub texts_in : List ℕ → List ℕ → List (List ℕ)
texts_in [] bytes = []
texts_in (size ∷ sizes) bytes = take size bytes ∷ texts_in sizes (drop size bytes)

-- the names that a plant file lists for its sources; none where the bytes are no plant file
abbrev pub names_in : List ℕ → List (List ℕ)
names_in bytes = elim (plant_file_in bytes) [ None ↦ [] | Some file ↦ file.sources ]

-- a name for each text: those that are listed, one after another, and the empty one where no more are
abbrev pub names_for : List (List ℕ) → List (List ℕ) → List (List ℕ)
names_for names [] = []
names_for [] (text ∷ texts) = [] ∷ names_for [] texts
names_for (name ∷ names) (text ∷ texts) = name ∷ names_for names texts

-- the texts of a plant, each source with the name that the plant file lists for it
abbrev pub named_texts : List ℕ → List ℕ → List (List ℕ) → Texts
named_texts plant alarms sources = texts_of plant (names_for (names_in plant) sources) sources alarms

-- the texts of a body: the plant file, the alarm file, and then the sources
abbrev pub handed_texts : PlainSizes → List ℕ → Texts
handed_texts sizes body =
    named_texts (take sizes.plant body) (take sizes.alarms (drop sizes.plant body)) (texts_in sizes.sources (drop sizes.alarms (drop sizes.plant body)))

-- ---- the answer

-- the answer to a reload's event in a state: how many alarms of the new plant keep their states, and how many are new
abbrev pub reload_text : System → PlainPlant → List ℕ
reload_text sys new = let kept = kept_numbers sys.plant new in reloaded_line (kept_count kept) (fresh_count kept)

-- what a plant that is handed in leads to: its event, or REFUSED and the number
abbrev pub reload_answer : System → PlainPlant → List ℕ
reload_answer sys new = event_text (reload_event sys new) (λ _. reload_text sys new)

-- the verdict on the texts is followed: of a plant that is refused the line is the answer, and a plant that is accepted is reloaded
abbrev pub IsFollowed : System → Option PlainPlant → (line : List ℕ) → List Event → List ℕ → Type 0
IsFollowed sys None line events text = (events ≡ []) × (text ≡ line)
IsFollowed sys (Some new) line events text = (events ≡ event_added (reload_event sys new)) × (text ≡ reload_answer sys new)

-- a reload of these texts may add events in a state, and be answered a text
pub record IsReloaded (sys : System) (texts : Texts) (events : List Event) (text : List ℕ) : Type 0 where
  pub plant : Option PlainPlant
  pub line : List ℕ
  pub verdict : IsVerdict texts false plant line
  pub followed : IsFollowed sys plant line events text

-- so may a reload with a body that has as many bytes as its line tells of; with fewer it is refused by L2
abbrev pub IsReloadAnswer : System → PlainSizes → (body : List ℕ) → List Event → List ℕ → Type 0
IsReloadAnswer sys sizes body events text =
    cond (nat_lt (length body) (total_size sizes)) ((events ≡ []) × (text ≡ refused_line (codes "L2"))) (IsReloaded sys (handed_texts sizes body) events text)

-- a reload of these texts was answered: its events were added to an engine's history, and its answer to a text
pub record HasReloaded (texts : Texts) (e₀ e₁ : PlainEngine) (t₀ t₁ : List ℕ) : Type 0 where
  pub events : List Event
  pub text : List ℕ
  pub history_is : e₁.history ≡ e₀.history ++ events
  pub text_is : t₁ ≡ t₀ ++ text
  pub reloaded : IsReloaded (state_of e₀) texts events text

-- nothing of it took effect, or all but the answer
abbrev pub MayHaveReloaded : Texts → PlainEngine → PlainEngine → Type 0
MayHaveReloaded texts e₀ e₁ = (e₁.history ≡ e₀.history) ⊎ ((text : List ℕ) × HasReloaded texts e₀ e₁ [] text)
