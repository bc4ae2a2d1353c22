-- The change that an order makes.
use Rattle.std.proofs.Common.{◌≡◌, ◌∙◌, ℕ, zero, suc, ◌+◌, Option, Some, None, Ok, Err, List, [], ◌∷◌, slice_get, slice_set, arith, refl, ap, sym}
use Rattle.std.specs.declared.result.Result.{Result}
use Rattle.alarm_machine.specs.declared.states.Verb.{Verb}
use Rattle.alarm_machine.specs.declared.states.OrderFault.{OrderFault}
use Rattle.alarm_machine.specs.Codes.{PlainChange, code_of, change_between}
use Rattle.alarm_machine.specs.Alarms.{PlainAlarm, after_order}
use Rattle.alarm_bank.specs.declared.event.BankEvent.TheVariants as event
use Rattle.alarm_bank.specs.Banks.{PlainBank, order_one, after_event, told, reply_of}
use Rattle.alarm_bank.specs.Moves.{changes_from, told_change}
use Rattle.alarm_bank.proofs.MoveLaws.{first_change, no_change}

-- alarms that stay make no change
pub changes_none : (k : ℕ) (xs : List PlainAlarm) → [] ≡ changes_from k xs xs
changes_none k [] = refl
changes_none k (x ∷ xs) = changes_none (k + 1) xs ∙ ap (first_change k (changes_from (k + 1) xs xs)) (sym (no_change x))

-- one alarm in the place of another makes the change of its code
changes_set : (k : ℕ) (xs : List PlainAlarm) (n j : ℕ) (a new : PlainAlarm) → j ≡ k + n → slice_get xs n ≡ Some a
    → first_change j [] (change_between (code_of a.state) (code_of new.state)) ≡ changes_from k xs (slice_set xs n new)
changes_set k [] n j a new at e = absurd (cc e)
changes_set k (x ∷ xs) zero j a new at e =
    let s : x ≡ a = cc e in
    let here : j ≡ k = omega arith in
    rw (← s, here) (ap (λ l. first_change k l (change_between (code_of x.state) (code_of new.state))) (changes_none (k + 1) xs))
changes_set k (x ∷ xs) (suc n) j a new at e =
    changes_set (k + 1) xs n j a new (omega arith) e ∙ ap (first_change k (changes_from (k + 1) xs (slice_set xs n new))) (sym (no_change x))

told_first : (n : ℕ) (o : Option PlainChange) → told_change n (Ok o) ≡ first_change n [] o
told_first n None = refl
told_first n (Some change) = refl

told_done : (w : PlainBank) (n : ℕ) (x : PlainAlarm) (r : Result PlainAlarm OrderFault) → slice_get w.alarms n ≡ Some x
    → told_change n (told x r) ≡ changes_from 0 w.alarms (elim r as (λ _. PlainBank) [ Ok a ↦ record w { alarms = slice_set w.alarms n a } | Err e ↦ w ]).alarms
told_done w n x (Ok a) e = told_first n (change_between (code_of x.state) (code_of a.state)) ∙ changes_set 0 w.alarms n n x a (omega arith) e
told_done w n x (Err f) e = changes_none 0 w.alarms

by_found : (w : PlainBank) (n : ℕ) (v : Verb) (o : Option PlainAlarm) → slice_get w.alarms n ≡ o → told_change n (reply_of n v w) ≡ changes_from 0 w.alarms (after_event (event.Order n v) w).alarms
by_found w n v None e = rw (e, reply_of, order_one, after_event) (changes_none 0 w.alarms)
by_found w n v (Some x) e = rw (e, reply_of, order_one, after_event) (told_done w n x (after_order v w.moment x) e)

-- the change that a reply tells is the one that the order makes
pub order_told : (w : PlainBank) (n : ℕ) (v : Verb) → told_change n (reply_of n v w) ≡ changes_from 0 w.alarms (after_event (event.Order n v) w).alarms
order_told w n v = by_found w n v (slice_get w.alarms n) refl
