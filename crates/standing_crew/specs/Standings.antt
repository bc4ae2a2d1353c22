-- What a contract sees of workers that stand ready.
use Rattle.std.specs.Prelude.{◌≡◌, ◌⊎◌, ℕ, ◌-◌, ◌^◌, ◌<◌, Bool, true, false, List, ◌++◌, map, Result, Ok, Err}
use Rattle.crew.specs.declared.fault.CrewFault.{CrewFault}
use Rattle.crew.specs.declared.fault.CrewFault.TheVariants.{Memory, NoThread, Lost, Misfit}
use Rattle.standing_crew.specs.Assembled.{IsCollectFault}

-- whether they are gone, how many of their runs failed, how many they are with the caller, and how many rounds were handed out; and of the last of these what
-- the jobs that were handed out start from, and the runs that came back of them
pub record PlainStanding (S D : Type 0) : Type 0 where
  pub lost : Bool
  pub faults : ℕ
  pub workers : ℕ
  pub rounds : ℕ
  pub out : List S
  pub back : List D

-- whether they are gone after an answer: a fault ends them, unless memory was refused
abbrev pub lost_after : {T : Type 0} → Bool → Result T CrewFault → Bool
lost_after lost (Ok _) = lost
lost_after lost (Err Memory) = lost
lost_after lost (Err NoThread) = true
lost_after lost (Err Lost) = true
lost_after lost (Err Misfit) = true

-- a new crew of so many: it stands, and nothing has failed
pub record IsNew {S D : Type 0} (workers : ℕ) (crew : PlainStanding S D) : Type 0 where
  pub stands : crew.lost ≡ false
  pub none_failed : crew.faults ≡ 0
  pub many : crew.workers ≡ workers

-- a crew stands or is gone as before, and as many of its runs have failed
pub record IsAsBefore {S D : Type 0} (old new : PlainStanding S D) : Type 0 where
  pub lost : new.lost ≡ old.lost
  pub faults : new.faults ≡ old.faults
  pub workers : new.workers ≡ old.workers

-- a crew stands, and is nobody but the caller
pub record IsByItself {S D : Type 0} (crew : PlainStanding S D) : Type 0 where
  pub stands : crew.lost ≡ false
  pub one : crew.workers < 2

-- of jobs that start so the last ones were handed out, and what came back of these isn't one run of each
pub record IsRefused {S D : Type 0} (of : D → S) (starts out : List S) (back : List D) (answer : CrewFault) : Type 0 where
  pub kept : List S
  pub last : starts ≡ kept ++ out
  pub why : IsCollectFault out (map of back) answer

-- no jobs can be handed out: the workers are gone, or the numbers of rounds are used up
abbrev pub IsSpent : {S D : Type 0} → PlainStanding S D → Type 0
IsSpent crew = (crew.lost ≡ true) ⊎ (crew.rounds ≡ 2 ^ 64 - 1)

-- why a run of jobs that start so fails: memory was refused, or what came back is refused; and a run is lost, too, where no jobs can be handed out
abbrev pub IsRunFault : {S D : Type 0} → (D → S) → List S → PlainStanding S D → PlainStanding S D → CrewFault → Type 0
IsRunFault of starts old new Memory = Unit {0}
IsRunFault of starts old new NoThread = ⊥
IsRunFault of starts old new Lost = IsSpent old ⊎ IsRefused of starts new.out new.back Lost
IsRunFault of starts old new Misfit = IsRefused of starts new.out new.back Misfit

-- why there are no workers: memory was refused, or a thread
abbrev pub IsStartFault : CrewFault → Type 0
IsStartFault Memory = Unit {0}
IsStartFault NoThread = Unit {0}
IsStartFault Lost = ⊥
IsStartFault Misfit = ⊥
