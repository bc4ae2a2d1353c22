-- The calls of a timer. In a list of calls the latest one comes first.
use Rattle.std.specs.Prelude.{ℕ, ℤ, pos, negsuc, ◌-◌, Bool, false, ◌||◌, List, [], ◌∷◌, if◌then◌else◌}

-- one call of a timer: IN, PT in milliseconds, and the moment
pub record Call : Type 0 where
  pub input : Bool
  pub pt : ℤ
  pub moment : ℕ

abbrev pub call : Bool → ℤ → ℕ → Call
call input pt moment = record { input = input; pt = pt; moment = moment }

-- a PT below 0 counts as 0
abbrev pub preset : ℤ → ℕ
preset (pos n) = n
preset (negsuc n) = 0

-- the unbroken run of calls with IN TRUE that the last call ends; it is empty where the last IN is FALSE
abbrev pub run_on : List Call → List Call
run_on [] = []
run_on (c ∷ calls) = if c.input then c ∷ run_on calls else []

-- the calls after the last one with IN TRUE
abbrev pub run_off : List Call → List Call
run_off [] = []
run_off (c ∷ calls) = if c.input then [] else c ∷ run_off calls

-- a call had IN TRUE
abbrev pub was_on : List Call → Bool
was_on [] = false
was_on (c ∷ calls) = c.input || was_on calls

-- the moment of the first call of a run: these are its calls before the one at moment t, the latest first
abbrev pub first_moment : ℕ → List Call → ℕ
first_moment t [] = t
first_moment t (c ∷ calls) = first_moment c.moment calls

-- how long the run of a last call and those before it has gone on, in milliseconds
abbrev pub elapsed : Call → List Call → ℕ
elapsed c calls = c.moment - first_moment c.moment calls
