-- Which fault stopped a session.
use Rattle.std.specs.Prelude.{ℕ, List, Bool, true, false, Err, codes}
use Rattle.std.specs.declared.result.Result.{Result}
use Rattle.crew.specs.Faults.{one_more}
use Rattle.serve_faults.specs.declared.fault.ServeFault.{ServeFault}
use Rattle.serve_faults.specs.declared.fault.ServeFault.TheVariants as fault

-- whether a read failed
abbrev pub is_read : {T : Type 0} → Result T ServeFault → Bool
is_read (Err fault.Read) = true
is_read _ = false

-- whether a write failed
abbrev pub is_write : {T : Type 0} → Result T ServeFault → Bool
is_write (Err fault.Write) = true
is_write _ = false

-- whether the crew failed
abbrev pub is_crew : {T : Type 0} → Result T ServeFault → Bool
is_crew (Err fault.Crew) = true
is_crew _ = false

-- a crew's count of faults after a result: one more where a fault of the crew is the result
abbrev pub crew_faults : {T : Type 0} → ℕ → Result T ServeFault → ℕ
crew_faults n (Err fault.Crew) = one_more n
crew_faults n _ = n

-- the word that is printed for a fault
abbrev pub serve_fault_text : ServeFault → List ℕ
serve_fault_text fault.Memory = codes "MEMORY"
serve_fault_text fault.Read = codes "READ"
serve_fault_text fault.Write = codes "WRITE"
serve_fault_text fault.Crew = codes "CREW"
