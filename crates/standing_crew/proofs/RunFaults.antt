-- Why runs of a crew fail.
use Rattle.std.proofs.Common.{◌≡◌, ◌⊎◌, inl, inr, sym, subst, List, Result, Ok, Err, IfErr}
use Rattle.crew.specs.Faults.{IsMemoryAtMost}
use Rattle.crew.specs.declared.fault.CrewFault.{CrewFault}
use Rattle.crew.specs.declared.fault.CrewFault.TheVariants.{Memory, NoThread, Lost, Misfit}
use Rattle.standing_crew.specs.Standings.{PlainStanding, IsRefused, IsRunFault}

-- what came back refuses the jobs
refused_fault : {S D : Type 0} (of : D → S) (starts : List S) (old new : PlainStanding S D) (fault : CrewFault) → IsRefused of starts new.out new.back fault → IsRunFault of starts old new fault
refused_fault of starts old new Memory h = tt
refused_fault of starts old new NoThread h = absurd h.why
refused_fault of starts old new Lost h = inr h
refused_fault of starts old new Misfit h = h

-- memory was refused
pub memory_fault : {S D : Type 0} (of : D → S) (starts : List S) (old new : PlainStanding S D) (fault : CrewFault) → fault ≡ Memory → IsRunFault of starts old new fault
memory_fault of starts old new fault e = subst (λ f. IsRunFault of starts old new f) (sym e) tt

pub run_fault : {S D : Type 0} (of : D → S) (starts : List S) (old new : PlainStanding S D) (fault : CrewFault) → IsRefused of starts new.out new.back fault ⊎ (fault ≡ Memory) → IsRunFault of starts old new fault
run_fault of starts old new fault (inl h) = refused_fault of starts old new fault h
run_fault of starts old new fault (inr e) = memory_fault of starts old new fault e

pub shared_fault : {S D T : Type 0} (of : D → S) (starts : List S) (old new : PlainStanding S D) (r : Result T CrewFault)
    → IfErr r (λ fault. IsRefused of starts new.out new.back fault ⊎ (fault ≡ Memory)) → IfErr r (λ fault. IsRunFault of starts old new fault)
shared_fault of starts old new (Ok x) h = tt
shared_fault of starts old new (Err fault) h = run_fault of starts old new fault h

-- an answer that is refused for memory alone
at_most : (fault : CrewFault) (T : Type 0) → fault ≡ Memory → IsMemoryAtMost {T = T} (Err fault)
at_most fault T e = subst (λ f. IsMemoryAtMost {T = T} (Err f)) (sym e) tt

pub memory_at_most : {T : Type 0} (r : Result T CrewFault) → IfErr r (λ fault. fault ≡ Memory) → IsMemoryAtMost r
memory_at_most (Ok x) h = tt
memory_at_most {T} (Err fault) h = at_most fault T h
