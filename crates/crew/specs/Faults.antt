-- How a crew counts its faults.
use Rattle.std.specs.Prelude.{ℕ, ◌+◌, ◌-◌, ◌^◌, min, Result, Ok, Err}
use Rattle.crew.specs.declared.fault.CrewFault.{CrewFault}
use Rattle.crew.specs.declared.fault.CrewFault.TheVariants.{Memory, NoThread, Lost, Misfit}

-- one more, up to the greatest number of 64 bits
abbrev pub one_more : ℕ → ℕ
one_more n = min (n + 1) (2 ^ 64 - 1)

-- the count after an answer: a fault counts, unless memory was refused
abbrev pub faults_after : {T : Type 0} → ℕ → Result T CrewFault → ℕ
faults_after n (Ok _) = n
faults_after n (Err Memory) = n
faults_after n (Err NoThread) = one_more n
faults_after n (Err Lost) = one_more n
faults_after n (Err Misfit) = one_more n

-- an answer is no fault, unless memory was refused
abbrev pub IsMemoryAtMost : {T : Type 0} → Result T CrewFault → Type 0
IsMemoryAtMost (Ok _) = Unit {0}
IsMemoryAtMost (Err Memory) = Unit {0}
IsMemoryAtMost (Err NoThread) = ⊥
IsMemoryAtMost (Err Lost) = ⊥
IsMemoryAtMost (Err Misfit) = ⊥
