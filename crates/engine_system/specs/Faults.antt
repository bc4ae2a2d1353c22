-- How refusals of events are printed, and how a crew's fault becomes one.
use Rattle.std.specs.Prelude.{◌≡◌, ℕ, List, [], codes, Result, Ok, Err}
use Rattle.crew.specs.declared.fault.CrewFault.{CrewFault}
use Rattle.crew.specs.declared.fault.CrewFault.TheVariants as crew_fault
use Rattle.crew.specs.Faults.{faults_after}
use Rattle.engine_system.specs.declared.event.EngineFault.{EngineFault}
use Rattle.engine_system.specs.declared.event.EngineFault.TheVariants.{Memory, MomentBack, MomentRange, ImageName, ImageKind, Crew, HistoryFull, ReloadConsoles, ReloadEpoch}

-- the number by which a refusal is printed; refused memory, which is never printed, has none
abbrev pub fault_text : EngineFault → List ℕ
fault_text Memory = []
fault_text MomentBack = codes "E1"
fault_text MomentRange = codes "E2"
fault_text ImageName = codes "E3"
fault_text ImageKind = codes "E4"
fault_text (Crew _) = codes "E5"
fault_text HistoryFull = codes "E6"
fault_text ReloadConsoles = codes "E7"
fault_text ReloadEpoch = codes "E8"

-- a crew's fault refuses the event; memory that was refused to it is refused memory
abbrev pub refusal_by : CrewFault → EngineFault
refusal_by crew_fault.Memory = Memory
refusal_by crew_fault.NoThread = Crew crew_fault.NoThread
refusal_by crew_fault.Lost = Crew crew_fault.Lost
refusal_by crew_fault.Misfit = Crew crew_fault.Misfit

-- a crew's count of faults after a refusal: one by the crew counts as the crew's own answer, and no other counts
abbrev pub faults_with : ℕ → EngineFault → ℕ
faults_with n Memory = n
faults_with n MomentBack = n
faults_with n MomentRange = n
faults_with n ImageName = n
faults_with n ImageKind = n
faults_with n (Crew fault) = faults_after {T = Unit {0}} n (Err fault)
faults_with n HistoryFull = n
faults_with n ReloadConsoles = n
faults_with n ReloadEpoch = n

-- the count after an event was answered
abbrev pub faults_by : {T : Type 0} → ℕ → Result T EngineFault → ℕ
faults_by n (Ok _) = n
faults_by n (Err refused) = faults_with n refused

-- no crew's fault is the answer
abbrev pub IsNoCrews : {T : Type 0} → Result T EngineFault → Type 0
IsNoCrews result = (n : ℕ) → faults_by n result ≡ n
