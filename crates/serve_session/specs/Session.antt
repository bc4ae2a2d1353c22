-- How far a session has come.
use Rattle.std.specs.Prelude.{◌≡◌, ℕ, ◌≤◌, ◌<◌, ◌⊎◌, ◌||◌, Bool, false, List, [], ◌++◌, length, Option, OnOk, OnErr}
use Rattle.std.specs.declared.result.Result.{Result}
use Rattle.std.specs.Io.KnownBytes.{Appends, Consumes, IsAtEnd}
use Rattle.serve_answers.specs.Event.{Event}
use Rattle.serve_answers.specs.Engines.{PlainEngine}
use Rattle.plant_folder.specs.Plants.{PlainPlant}
use Rattle.serve_faults.specs.declared.fault.ServeFault.{ServeFault}
use Rattle.serve_faults.specs.declared.fault.ServeFault.TheVariants as fault
use Rattle.serve_faults.specs.Faults.{is_read, is_write}
use Rattle.serve_requests.specs.Requests.{Request, ended_from, begun_from, ended_requests, requests_of}
use Rattle.serve_requests.specs.Splitting.{IsHeld, AsksAlike}
use Rattle.serve_session.specs.Answers.{AreAnswered}

-- a text is all that the server may write for an input, where no event came before it
abbrev pub IsOutText : PlainPlant → (input text : List ℕ) → Type 0
IsOutText plant input text = (after : List Event) × AreAnswered plant [] (requests_of input) after text

-- such a text was written for an input, and nothing else was
pub record HasServed (plant : PlainPlant) (input : List ℕ) (w₀ w₁ : Option (List ℕ)) : Type 0 where
  pub text : List ℕ
  pub is_text : IsOutText plant input text
  pub wrote : Appends w₀ w₁ text

-- all these requests took effect, their answers were written, and nothing else was
pub record Answered (plant : PlainPlant) (requests : List Request) (h₀ h₁ : List Event) (w₀ w₁ : Option (List ℕ)) : Type 0 where
  pub text : List ℕ
  pub answered : AreAnswered plant h₀ requests h₁ text
  pub wrote : Appends w₀ w₁ text

-- the first of these requests took effect, and their answers were written; of the last one's answer perhaps only a part
pub record Stopped (plant : PlainPlant) (requests : List Request) (h₀ h₁ : List Event) (w₀ w₁ : Option (List ℕ)) : Type 0 where
  pub done : List Request
  pub last : List Request
  pub rest : List Request
  pub cut : requests ≡ done ++ (last ++ rest)
  pub one : length last ≤ 1
  pub middle : List Event
  pub text : List ℕ
  pub answered : AreAnswered plant h₀ done middle text
  pub part : List ℕ
  pub more : List ℕ
  pub within : AreAnswered plant middle last h₁ (part ++ more)
  pub wrote : Appends w₀ w₁ (text ++ part)

-- the requests read so far: those that have ended, and at the end of the input its last one too
abbrev pub AreRead : Option (List ℕ) → List ℕ → List Request → Type 0
AreRead remaining input requests = (requests ≡ ended_requests input) ⊎ (IsAtEnd remaining × (requests ≡ requests_of input))

-- how far a session came by the time of a fault: where a read failed, all requests that had ended took effect, and their answers were written;
-- where a write, an allocation or the crew failed, the first of the requests read took effect, and of the last one's answer perhaps only a part was written
abbrev pub StoppedBy : ServeFault → PlainPlant → (remaining : Option (List ℕ)) → (input : List ℕ) → (h₀ h₁ : List Event) → (w₀ w₁ : Option (List ℕ)) → Type 0
StoppedBy fault.Read plant remaining input h₀ h₁ w₀ w₁ = Answered plant (ended_requests input) h₀ h₁ w₀ w₁
StoppedBy fault.Write plant remaining input h₀ h₁ w₀ w₁ = (requests : List Request) × AreRead remaining input requests × Stopped plant requests h₀ h₁ w₀ w₁
StoppedBy fault.Memory plant remaining input h₀ h₁ w₀ w₁ = (requests : List Request) × AreRead remaining input requests × Stopped plant requests h₀ h₁ w₀ w₁
StoppedBy fault.Crew plant remaining input h₀ h₁ w₀ w₁ = (requests : List Request) × AreRead remaining input requests × Stopped plant requests h₀ h₁ w₀ w₁

-- bytes were taken after those that had begun a request: the requests that ended in them took effect and were answered, and what has begun the next one is held
pub record HasGone (plant : PlainPlant) (begun bytes held : List ℕ) (h₀ h₁ : List Event) (w₀ w₁ : Option (List ℕ)) : Type 0 where
  pub answered : Answered plant (ended_from begun bytes) h₀ h₁ w₀ w₁
  pub holds : IsHeld (begun_from begun bytes) held

-- a session so far has taken its input, after no other bytes
abbrev pub HasTaken : PlainPlant → (input held : List ℕ) → (h₀ h₁ : List Event) → (w₀ w₁ : Option (List ℕ)) → Type 0
HasTaken plant input held h₀ h₁ w₀ w₁ = HasGone plant [] input held h₀ h₁ w₀ w₁

-- a step with a piece of the input: whatever the session had taken, it has taken the piece too
abbrev pub Goes : PlainPlant → (piece old new : List ℕ) → (h₁ h₂ : List Event) → (w₁ w₂ : Option (List ℕ)) → Type 0
Goes plant piece old new h₁ h₂ w₁ w₂ =
    (input : List ℕ) (h₀ : List Event) (w₀ : Option (List ℕ)) → HasTaken plant input old h₀ h₁ w₀ w₁ → HasTaken plant (input ++ piece) new h₀ h₂ w₀ w₂

-- a step at the end of the input: whatever the session had taken, all requests of it are answered, the last one too
abbrev pub Ends : PlainPlant → (old : List ℕ) → (h₁ h₂ : List Event) → (w₁ w₂ : Option (List ℕ)) → Type 0
Ends plant old h₁ h₂ w₁ w₂ =
    (input : List ℕ) (h₀ : List Event) (w₀ : Option (List ℕ)) → HasTaken plant input old h₀ h₁ w₀ w₁ → Answered plant (requests_of input) h₀ h₂ w₀ w₂

-- a step that failed: whatever the session had taken, it stopped within the requests that were read with the piece
abbrev pub Stops : PlainPlant → (piece : List ℕ) → (remaining : Option (List ℕ)) → (old : List ℕ) → (h₁ h₂ : List Event) → (w₁ w₂ : Option (List ℕ)) → Type 0
Stops plant piece remaining old h₁ h₂ w₁ w₂ =
    (input : List ℕ) (h₀ : List Event) (w₀ : Option (List ℕ)) → HasTaken plant input old h₀ h₁ w₀ w₁
    → (requests : List Request) × AreRead remaining (input ++ piece) requests × Stopped plant requests h₀ h₂ w₀ w₂

-- these requests were answered where the result is Ok, and where it is Err the session stopped within them
abbrev pub Serves : {T : Type 0} → Result T ServeFault → List Request → PlainEngine → PlainEngine → Option (List ℕ) → Option (List ℕ) → Type 0
Serves result requests e₀ e₁ w₀ w₁ = OnOk result (Answered e₀.plant requests e₀.history e₁.history w₀ w₁) × OnErr result (Stopped e₀.plant requests e₀.history e₁.history w₀ w₁)

-- bytes were taken where the result is Ok, and where it is Err the session stopped within the requests that end in them
abbrev pub Takes : {T : Type 0} → Result T ServeFault → (begun bytes held : List ℕ) → PlainEngine → PlainEngine → Option (List ℕ) → Option (List ℕ) → Type 0
Takes result begun bytes held e₀ e₁ w₀ w₁ =
    OnOk result (HasGone e₀.plant begun bytes held e₀.history e₁.history w₀ w₁) × OnErr result (Stopped e₀.plant (ended_from begun bytes) e₀.history e₁.history w₀ w₁)

-- the plant stays, nothing is read, and a write failed just where the result is Write
abbrev pub Continues : {T : Type 0} → Result T ServeFault → PlainEngine → PlainEngine → Bool → Bool → Type 0
Continues result e₀ e₁ b₀ b₁ = (e₁.plant ≡ e₀.plant) × (is_read result ≡ false) × (b₁ ≡ (b₀ || is_write result))

-- a request asks for what a line asks for, with the bytes that came after it
abbrev pub AsksFor : (line body : List ℕ) → Request → Type 0
AsksFor line body request = AsksAlike (record { line = line; body = body }) request

-- ---- a step, and a whole session, by what was left to read and what was written before it and after it

-- a byte or more was read, and the session goes on with what was
abbrev pub HasReadMore : (old new : List ℕ) → (e₀ e₁ : PlainEngine) → (r₀ r₁ w₀ w₁ : Option (List ℕ)) → Type 0
HasReadMore old new e₀ e₁ r₀ r₁ w₀ w₁ = (piece : List ℕ) × (0 < length piece) × Consumes r₀ r₁ piece × Goes e₀.plant piece old new e₀.history e₁.history w₀ w₁

-- the input is at its end, and the session ends with it and holds nothing
abbrev pub HasReadAll : (old new : List ℕ) → (e₀ e₁ : PlainEngine) → (r₀ r₁ w₀ w₁ : Option (List ℕ)) → Type 0
HasReadAll old new e₀ e₁ r₀ r₁ w₀ w₁ = Consumes r₀ r₁ [] × IsAtEnd r₁ × (new ≡ []) × Ends e₀.plant old e₀.history e₁.history w₀ w₁

-- a piece was read, perhaps an empty one, and the session stopped within it
abbrev pub HasFailed : (old : List ℕ) → (e₀ e₁ : PlainEngine) → (r₀ r₁ w₀ w₁ : Option (List ℕ)) → Type 0
HasFailed old e₀ e₁ r₀ r₁ w₀ w₁ = (piece : List ℕ) × Consumes r₀ r₁ piece × Stops e₀.plant piece r₁ old e₀.history e₁.history w₀ w₁

-- nothing was read, took effect or was written
abbrev pub HasDoneNothing : (e₀ e₁ : PlainEngine) → (r₀ r₁ w₀ w₁ : Option (List ℕ)) → Type 0
HasDoneNothing e₀ e₁ r₀ r₁ w₀ w₁ = Consumes r₀ r₁ [] × (e₁.history ≡ e₀.history) × (w₁ ≡ w₀)

-- all was read, each request took effect in turn, and their answers were written and nothing else
abbrev pub HasAnsweredAll : (e₀ e₁ : PlainEngine) → (r₀ r₁ w₀ w₁ : Option (List ℕ)) → Type 0
HasAnsweredAll e₀ e₁ r₀ r₁ w₀ w₁ = (input : List ℕ) × Consumes r₀ r₁ input × IsAtEnd r₁ × Answered e₀.plant (requests_of input) e₀.history e₁.history w₀ w₁

-- bytes were read, and a fault stopped the session, which came as far in them as it says
abbrev pub HasStopped : ServeFault → (e₀ e₁ : PlainEngine) → (r₀ r₁ w₀ w₁ : Option (List ℕ)) → Type 0
HasStopped fault e₀ e₁ r₀ r₁ w₀ w₁ = (input : List ℕ) × Consumes r₀ r₁ input × StoppedBy fault e₀.plant r₁ input e₀.history e₁.history w₀ w₁
