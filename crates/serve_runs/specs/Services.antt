-- A run: a plant is read, and its session served to the end of the input.
use Rattle.std.specs.Prelude.{◌≡◌, ℕ, ◌⊎◌, List, [], Option, Some, None, Ok, Err}
use Rattle.std.specs.declared.result.Result.{Result}
use Rattle.std.specs.Io.KnownBytes.{Appends, Consumes, IsAtEnd}
use Rattle.serve_session.specs.Event.{Event}
use Rattle.plant_config.specs.Plants.{PlainPlant}
use Rattle.serve_faults.specs.declared.fault.ServeFault.{ServeFault}
use Rattle.serve_runs.specs.declared.service.Ends.{Ends}
use Rattle.serve_runs.specs.declared.service.RunEnd.{RunEnd}
use Rattle.serve_runs.specs.declared.service.RunEnd.TheVariants as run_end
use Rattle.serve_session.specs.Session.{StoppedBy, HasServed}
use Rattle.serve_runs.specs.Admits.{IsTold}

-- what a run read and wrote: what was left to read before it and after it, and what had been written before it and after it, where these bytes are known
pub record Moved : Type 0 where
  pub unread : Option (List ℕ)
  pub left : Option (List ℕ)
  pub before : Option (List ℕ)
  pub after : Option (List ℕ)

-- the same of the ends of a run, by what its feed has left and what its sink was given
abbrev pub moved : {F S L : Type 0} → (remaining : F → Option (List ℕ)) → (written : S → Option (List ℕ)) → (old new : Ends F S L) → Moved
moved remaining written old new = record { unread = remaining old.feed; left = remaining new.feed; before = written old.sink; after = written new.sink }

-- all of the input was read, and what was written is a text that belongs to the plant and to its bytes: the one text, by the law `out_text_is_one`
pub record IsServed (plant : PlainPlant) (m : Moved) : Type 0 where
  pub input : List ℕ
  pub read : Consumes m.unread m.left input
  pub at_end : IsAtEnd m.left
  pub wrote : HasServed plant input m.before m.after

-- a fault stopped the session of the plant, which came as far in the input as it says
pub record IsStopped (fault : ServeFault) (plant : PlainPlant) (m : Moved) : Type 0 where
  pub input : List ℕ
  pub history : List Event
  pub read : Consumes m.unread m.left input
  pub stopped : StoppedBy fault plant m.left input [] history m.before m.after

-- nothing was read
abbrev pub ReadNothing : Moved → Type 0
ReadNothing m = m.left ≡ m.unread

-- what a run did, by the verdict on the plant: it served the plant; or nothing was read, and what was written is the line of the refusal; or it failed, before the session or within it
abbrev pub IsRun : (Option PlainPlant → List ℕ → Type 0) → Moved → Result RunEnd ServeFault → Type 0
IsRun verdict m (Ok run_end.Served) = (plant : PlainPlant) × verdict (Some plant) [] × IsServed plant m
IsRun verdict m (Ok run_end.Refused) = (line : List ℕ) × verdict None line × ReadNothing m × Appends m.before m.after line
IsRun verdict m (Err e) = (ReadNothing m × IsTold verdict m.before m.after (Err e)) ⊎ ((plant : PlainPlant) × verdict (Some plant) [] × IsStopped e plant m)
