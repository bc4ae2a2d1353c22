-- What a run did, by what was told of its plant and what its session did.
use Rattle.std.proofs.Common.{ℕ, List, [], subst, refl, Option, Some, Ok, Err, inr}
use Rattle.std.specs.Io.KnownBytes.{Appends}
use Rattle.std.proofs.KnownBytes.{Appends-trans}
use Rattle.serve_session.specs.Event.{Event}
use Rattle.plant_config.specs.Plants.{PlainPlant}
use Rattle.serve_faults.specs.declared.fault.ServeFault.{ServeFault}
use Rattle.serve_faults.specs.declared.fault.ServeFault.TheVariants as fault
use Rattle.serve_runs.specs.declared.service.RunEnd.TheVariants as run_end
use Rattle.serve_requests.specs.Requests.{ended_requests}
use Rattle.serve_session.specs.Session.{Answered, StoppedBy}
use Rattle.serve_runs.specs.Admits.{IsTold}
use Rattle.serve_runs.proofs.AdmitLaws.{IsQuiet}
use Rattle.serve_runs.specs.Services.{Moved, IsServed, IsStopped, IsRun}
use Rattle.serve_session.proofs.SessionLaws.{answered-more, stopped-more}

-- nothing was asked, and nothing written
answered-nothing : (plant : PlainPlant) (w₀ w : Option (List ℕ)) → Appends w₀ w [] → Answered plant [] [] [] w₀ w
answered-nothing plant w₀ w none = record { text = []; answered = (refl, refl); wrote = none }

-- a session that a fault stopped, where nothing was written before it
stopped-after : (e : ServeFault) (plant : PlainPlant) (remaining : Option (List ℕ)) (input : List ℕ) (history : List Event) (w₀ w w₁ : Option (List ℕ)) → Appends w₀ w []
    → StoppedBy e plant remaining input [] history w w₁ → StoppedBy e plant remaining input [] history w₀ w₁
stopped-after fault.Read plant remaining input history w₀ w w₁ none s = answered-more plant [] (ended_requests input) [] [] history w₀ w w₁ (answered-nothing plant w₀ w none) s
stopped-after fault.Write plant remaining input history w₀ w w₁ none s = (s.0, s.1, stopped-more plant [] s.0 [] [] history w₀ w w₁ (answered-nothing plant w₀ w none) s.2)
stopped-after fault.Memory plant remaining input history w₀ w w₁ none s = (s.0, s.1, stopped-more plant [] s.0 [] [] history w₀ w w₁ (answered-nothing plant w₀ w none) s.2)
stopped-after fault.Crew plant remaining input history w₀ w w₁ none s = (s.0, s.1, stopped-more plant [] s.0 [] [] history w₀ w w₁ (answered-nothing plant w₀ w none) s.2)

abbrev between : (r₀ r₁ w₀ w₁ : Option (List ℕ)) → Moved
between r₀ r₁ w₀ w₁ = record { unread = r₀; left = r₁; before = w₀; after = w₁ }

module _ (verdict : Option PlainPlant → List ℕ → Type 0) (quiet : IsQuiet verdict) (plant : PlainPlant) (r₀ r₁ w₀ w w₁ : Option (List ℕ)) (told : IsTold verdict w₀ w (Ok (Some plant))) where
  -- the plant was told of, and its session served
  pub run-served : IsServed plant (between r₀ r₁ w w₁) → IsRun verdict (between r₀ r₁ w₀ w₁) (Ok run_end.Served)
  run-served s =
      let bare = quiet plant told.0 told.1 in (
        plant,
        subst (verdict (Some plant)) bare told.1,
        record {
          input = s.input;
          read = s.read;
          at_end = s.at_end;
          wrote = record {
            text = s.wrote.text;
            is_text = s.wrote.is_text;
            wrote = Appends-trans w₀ w w₁ [] s.wrote.text (subst (Appends w₀ w) bare told.2) s.wrote.wrote;
          };
        },
      )

  -- the plant was told of, and a fault stopped its session
  pub run-stopped : (e : ServeFault) → IsStopped e plant (between r₀ r₁ w w₁) → IsRun verdict (between r₀ r₁ w₀ w₁) (Err e)
  run-stopped e s =
      let bare = quiet plant told.0 told.1 in
      inr (
        plant,
        subst (verdict (Some plant)) bare told.1,
        record {
          input = s.input;
          history = s.history;
          read = s.read;
          stopped = stopped-after e plant r₁ s.input s.history w₀ w w₁ (subst (Appends w₀ w) bare told.2) s.stopped;
        },
      )
