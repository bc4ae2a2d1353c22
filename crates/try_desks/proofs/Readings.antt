-- An order is read off what is told of it.
use Rattle.std.proofs.Common.{◌≡◌, ℕ, ◌+◌, ◌-◌, ◌==◌, Bool, false, if◌then◌else◌, Option, Some, None, refl, sym, ◌∙◌, ap, arith, ne_eqb}
use Rattle.alarm_machine.specs.declared.states.OrderFault.{OrderFault}
use Rattle.alarm_machine.specs.declared.states.OrderFault.TheVariants as fault
use Rattle.alarm_machine.specs.declared.states.Verb.{Verb}
use Rattle.alarm_machine.specs.declared.states.Verb.TheVariants as verb
use Rattle.try_desks.specs.declared.notes.Telling.{Telling}
use Rattle.try_desks.specs.Shifts.{rank_of, time_of, target_of, refusal_of, telling_of}

-- the verb of a place among verbs, with the time of a shelving
abbrev verb_by : ℕ → ℕ → Verb
verb_by rank time =
    if rank == 0 then verb.Ack
    else if rank == 1 then verb.Reset
    else if rank == 2 then verb.Shelve time
    else if rank == 3 then verb.Unshelve
    else if rank == 4 then verb.Remove
    else if rank == 5 then verb.PutBack
    else verb.Restart

verb_is : (v : Verb) → verb_by (rank_of v) (time_of v) ≡ v
verb_is verb.Ack = refl
verb_is verb.Reset = refl
verb_is (verb.Shelve time) = refl
verb_is verb.Unshelve = refl
verb_is verb.Remove = refl
verb_is verb.PutBack = refl
verb_is verb.Restart = refl

-- the target of a number, one more than its own
abbrev target_by : ℕ → Option ℕ
target_by n = if n == 0 then None else Some (n - 1)

target_is : (t : Option ℕ) → target_by (target_of t) ≡ t
target_is None = refl
target_is (Some n) =
    let some : (n + 1 == 0) ≡ false = ne_eqb (n + 1) 0 (λ (e : n + 1 ≡ 0). omega (arith, e)) in
    let same : n + 1 - 1 ≡ n = omega arith in
    ap (λ (b : Bool). if b then None else Some (n + 1 - 1)) some ∙ ap (λ (k : ℕ). Some k) same

-- the refusal of a number
abbrev refusal_by : ℕ → Option OrderFault
refusal_by n =
    if n == 0 then None
    else if n == 1 then Some fault.UnknownTarget
    else if n == 2 then Some fault.NotYourArea
    else if n == 3 then Some fault.WrongState
    else if n == 4 then Some fault.ShelveTime
    else if n == 5 then Some fault.NotFaulted
    else Some fault.OldPlant

refusal_is : (r : Option OrderFault) → refusal_by (refusal_of r) ≡ r
refusal_is None = refl
refusal_is (Some fault.UnknownTarget) = refl
refusal_is (Some fault.NotYourArea) = refl
refusal_is (Some fault.WrongState) = refl
refusal_is (Some fault.ShelveTime) = refl
refusal_is (Some fault.NotFaulted) = refl
refusal_is (Some fault.OldPlant) = refl

pub told_apart : (v w : Verb) (t u : Option ℕ) (r s : Option OrderFault) → telling_of v t r ≡ telling_of w u s → (v ≡ w) × (t ≡ u) × (r ≡ s)
told_apart v w t u r s e = (
  sym (verb_is v) ∙ (ap (λ (x : Telling). verb_by x.verb x.time) e ∙ verb_is w),
  sym (target_is t) ∙ (ap (λ (x : Telling). target_by x.target) e ∙ target_is u),
  sym (refusal_is r) ∙ (ap (λ (x : Telling). refusal_by x.refusal) e ∙ refusal_is s),
)
