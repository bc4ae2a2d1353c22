-- One piece of an input after another.
use Rattle.std.proofs.Common.{◌≡◌, ℕ, List, [], ◌++◌, ap, refl, sym, ◌∙◌, append_assoc, append-nil, subst, Option}
use Rattle.std.specs.Io.KnownBytes.{Consumes}
use Rattle.std.proofs.KnownBytes.{Consumes-trans}
use Rattle.serve_answers.specs.Event.{Event}
use Rattle.plant_folder.specs.Plants.{PlainPlant}
use Rattle.serve_faults.specs.declared.fault.ServeFault.{ServeFault}
use Rattle.serve_faults.specs.declared.fault.ServeFault.TheVariants as fault
use Rattle.serve_requests.specs.Requests.{Request, last_request, ended_from, begun_from, begun_request, ended_requests, requests_of}
use Rattle.serve_requests.specs.Splitting.{IsHeld}
use Rattle.serve_requests.proofs.RequestLaws.{ended_from-more, begun_from-more}
use Rattle.serve_session.specs.Session.{Answered, Stopped, AreRead, StoppedBy, HasGone, HasTaken, Stops}
use Rattle.serve_session.proofs.SessionLaws.{answered-none, answered-more, stopped-none, stopped-more, stopped-longer}

-- ---- bytes that go on

module _ (plant plant' : PlainPlant) (begun xs held : List ℕ) (h₀ h₁ h₂ : List Event) (w₀ w₁ w₂ : Option (List ℕ)) (same : plant' ≡ plant) (before : HasGone plant begun xs held h₀ h₁ w₀ w₁) where
  -- bytes, and then more of them
  pub gone-more : (ys held' : List ℕ) → HasGone plant' (begun_from begun xs) ys held' h₁ h₂ w₁ w₂ → HasGone plant begun (xs ++ ys) held' h₀ h₂ w₀ w₂
  gone-more ys held' g = record {
    answered = subst (λ (rs : List Request). Answered plant rs h₀ h₂ w₀ w₂) (sym (ended_from-more begun xs ys))
        (answered-more plant _ _ h₀ h₁ h₂ w₀ w₁ w₂ before.answered (subst (λ (m : PlainPlant). Answered m (ended_from (begun_from begun xs) ys) h₁ h₂ w₁ w₂) same g.answered));
    holds = subst (λ (bs : List ℕ). IsHeld bs held') (sym (begun_from-more begun xs ys)) g.holds;
  }

  -- bytes, and then a stop within more of them
  pub gone-stopped : (ys : List ℕ) → Stopped plant' (ended_from (begun_from begun xs) ys) h₁ h₂ w₁ w₂ → Stopped plant (ended_from begun (xs ++ ys)) h₀ h₂ w₀ w₂
  gone-stopped ys s =
      subst (λ (rs : List Request). Stopped plant rs h₀ h₂ w₀ w₂) (sym (ended_from-more begun xs ys))
      (stopped-more plant _ _ h₀ h₁ h₂ w₀ w₁ w₂ before.answered (subst (λ (m : PlainPlant). Stopped m (ended_from (begun_from begun xs) ys) h₁ h₂ w₁ w₂) same s))

-- a stop, where more bytes follow
pub stopped-further : (plant : PlainPlant) (begun xs ys : List ℕ) (h₀ h₁ : List Event) (w₀ w₁ : Option (List ℕ)) → Stopped plant (ended_from begun xs) h₀ h₁ w₀ w₁ → Stopped plant (ended_from begun (xs ++ ys)) h₀ h₁ w₀ w₁
stopped-further plant begun xs ys h₀ h₁ w₀ w₁ s =
    subst (λ (rs : List Request). Stopped plant rs h₀ h₁ w₀ w₁) (sym (ended_from-more begun xs ys)) (stopped-longer plant (ended_from begun xs) (ended_from (begun_from begun xs) ys) h₀ h₁ w₀ w₁ s)

-- a stop in a part of bytes
pub stopped-part : (plant : PlainPlant) (begun bytes part rest : List ℕ) (h₀ h₁ : List Event) (w₀ w₁ : Option (List ℕ)) → bytes ≡ part ++ rest → Stopped plant (ended_from begun part) h₀ h₁ w₀ w₁ → Stopped plant (ended_from begun bytes) h₀ h₁ w₀ w₁
stopped-part plant begun bytes part rest h₀ h₁ w₀ w₁ both s =
    subst (λ (xs : List ℕ). Stopped plant (ended_from begun xs) h₀ h₁ w₀ w₁) (sym both) (stopped-further plant begun part rest h₀ h₁ w₀ w₁ s)

-- nothing more took effect, whatever follows
pub stopped-stays : (plant : PlainPlant) (begun xs held ys : List ℕ) (h₀ h₁ : List Event) (w₀ w₁ : Option (List ℕ)) → HasGone plant begun xs held h₀ h₁ w₀ w₁ → Stopped plant (ended_from begun (xs ++ ys)) h₀ h₁ w₀ w₁
stopped-stays plant begun xs held ys h₀ h₁ w₀ w₁ before = gone-stopped plant plant begun xs held h₀ h₁ h₁ w₀ w₁ w₁ refl before ys (stopped-none plant _ h₁ h₁ w₁ refl)

-- the end of the input
module _ (plant plant' : PlainPlant) (input held : List ℕ) (h₀ h₁ h₂ : List Event) (w₀ w₁ w₂ : Option (List ℕ)) (same : plant' ≡ plant) (before : HasTaken plant input held h₀ h₁ w₀ w₁) where
  pub answered-end : Answered plant' (last_request (begun_request input)) h₁ h₂ w₁ w₂ → Answered plant (requests_of input) h₀ h₂ w₀ w₂
  answered-end a = answered-more plant _ _ h₀ h₁ h₂ w₀ w₁ w₂ before.answered (subst (λ (m : PlainPlant). Answered m (last_request (begun_request input)) h₁ h₂ w₁ w₂) same a)

  pub stopped-end : Stopped plant' (last_request (begun_request input)) h₁ h₂ w₁ w₂ → Stopped plant (requests_of input) h₀ h₂ w₀ w₂
  stopped-end s = stopped-more plant _ _ h₀ h₁ h₂ w₀ w₁ w₂ before.answered (subst (λ (m : PlainPlant). Stopped m (last_request (begun_request input)) h₁ h₂ w₁ w₂) same s)

-- ---- what a part of a piece ended

-- nothing was read yet
pub gone-nothing : (plant : PlainPlant) (begun held : List ℕ) (h : List Event) (w : Option (List ℕ)) → IsHeld begun held → HasGone plant begun [] held h h w w
gone-nothing plant begun held h w k = record { answered = answered-none plant h w; holds = k }

pub taken-nothing : (plant : PlainPlant) (h : List Event) (w : Option (List ℕ)) → HasTaken plant [] [] h h w w
taken-nothing plant h w = gone-nothing plant [] [] h w refl

pub piece_is : (piece front rest part after : List ℕ) → piece ≡ front ++ rest → rest ≡ part ++ after → piece ≡ (front ++ part) ++ after
piece_is piece front rest part after p q = p ∙ ap (λ (xs : List ℕ). front ++ xs) q ∙ sym (append_assoc front part after)

-- ---- a step that failed

-- what a session had taken, and what a step then left that failed by a fault
module _ (plant : PlainPlant) (input held : List ℕ) (r₀ r₁ r₂ : Option (List ℕ)) (h₀ h₁ h₂ : List Event) (w₀ w₁ w₂ : Option (List ℕ)) (read : Consumes r₀ r₁ input) (before : HasTaken plant input held h₀ h₁ w₀ w₁) where
  -- the step read a piece, and stopped within the requests that were read
  stopped-within : (piece : List ℕ) × Consumes r₁ r₂ piece × Stops plant piece r₂ held h₁ h₂ w₁ w₂
      → (all : List ℕ) × Consumes r₀ r₂ all × ((requests : List Request) × AreRead r₂ all requests × Stopped plant requests h₀ h₂ w₀ w₂)
  stopped-within s = (input ++ s.0, Consumes-trans r₀ r₁ r₂ input s.0 read s.1, s.2 input h₀ w₀ before)

  -- the step read nothing, and nothing took effect
  stopped-unread : Consumes r₁ r₂ [] × (h₂ ≡ h₁) × (w₂ ≡ w₁) → (all : List ℕ) × Consumes r₀ r₂ all × Answered plant (ended_requests all) h₀ h₂ w₀ w₂
  stopped-unread s = (
    input,
    subst (Consumes r₀ r₂) (append-nil input) (Consumes-trans r₀ r₁ r₂ input [] read s.0),
    subst (λ (h : List Event). Answered plant (ended_requests input) h₀ h w₀ w₂) (sym s.1) (subst (λ (w : Option (List ℕ)). Answered plant (ended_requests input) h₀ h₁ w₀ w) (sym s.2) before.answered),
  )

  pub stopped-by : (e : ServeFault) → (piece : List ℕ) × Consumes r₁ r₂ piece × Stops plant piece r₂ held h₁ h₂ w₁ w₂ → (e ≡ fault.Read → Consumes r₁ r₂ [] × (h₂ ≡ h₁) × (w₂ ≡ w₁))
      → (all : List ℕ) × Consumes r₀ r₂ all × StoppedBy e plant r₂ all h₀ h₂ w₀ w₂
  stopped-by fault.Read within unread = stopped-unread (unread refl)
  stopped-by fault.Write within unread = stopped-within within
  stopped-by fault.Memory within unread = stopped-within within
  stopped-by fault.Crew within unread = stopped-within within
