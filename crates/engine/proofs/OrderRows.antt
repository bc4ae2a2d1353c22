-- The rows that an order adds.
use Rattle.std.proofs.Common.{◌≡◌, ◌==◌, ℕ, zero, suc, ◌+◌, ◌<◌, Bool, true, false, if◌then◌else◌, List, [], ◌∷◌, length, refl, ap, sym, ◌∙◌, subst, arith, Option, Some, None, Ok, Err}
use Rattle.std.specs.Prelude.{slice_get, slice_set}
use Rattle.std.specs.Option.{option_map}
use Rattle.std.specs.List.{list_any}
use Rattle.std.specs.declared.result.Result.{Result}
use Rattle.std.proofs.lemmas.Option.{slice_get_within}
use Rattle.alarm_machine.specs.declared.states.Code.{Code}
use Rattle.alarm_machine.specs.declared.states.Code.TheVariants as code
use Rattle.alarm_machine.specs.declared.states.Verb.{Verb}
use Rattle.alarm_machine.specs.declared.states.OrderFault.{OrderFault}
use Rattle.alarm_machine.specs.declared.states.OrderFault.TheVariants as fault
use Rattle.alarm_machine.specs.Codes.{PlainChange, code_of, change_between}
use Rattle.alarm_machine.specs.Alarms.{PlainAlarm}
use Rattle.journal_core.specs.declared.row.Entry.TheVariants as entry
use Rattle.engine_system.specs.AlarmRow.{AlarmRow}
use Rattle.engine_system.specs.Plants.{PlainPlant}
use Rattle.engine_system.specs.Names.{programs_of}
use Rattle.engine_system.specs.Orderers.{has_area}
use Rattle.alarm_orders.specs.declared.order.Order.{Order}
use Rattle.engine_system.specs.declared.state.Effect.{Effect}
use Rattle.engine_system.specs.declared.state.Effect.TheVariants as effect
use Rattle.alarm_machine.specs.Orders.{is_restart}
use Rattle.engine_system.specs.Orders.{is_console, order_at, alarm_order, program_order, order_outcome, unless_old, alarms_by, changed_by}
use Rattle.alarm_bank.specs.Moves.{change_from, changes_from}
use Rattle.engine.specs.Journal.{refusal_of, one_or_none, HasTarget, IsNamed}

no_change : (c : Code) → change_between c c ≡ None
no_change code.Norm = refl
no_change code.Unack = refl
no_change code.Acked = refl
no_change code.Rtnun = refl
no_change code.Latun = refl
no_change code.Latak = refl
no_change code.Shelved = refl
no_change code.Suppr = refl
no_change code.Oos = refl

-- the changes, by that of the first alarm and those of the others
abbrev put : ℕ → List (ℕ × PlainChange) → Option PlainChange → List (ℕ × PlainChange)
put n rest o = elim o [ None ↦ rest | Some change ↦ (n, change) ∷ rest ]

changes_same : (n : ℕ) (alarms : List PlainAlarm) → changes_from n alarms alarms ≡ []
changes_same n [] = refl
changes_same n (a ∷ alarms) = ap (put n (changes_from (n + 1) alarms alarms)) (no_change (code_of a.state)) ∙ changes_same (n + 1) alarms

first_put : (n m : ℕ) (o : Option PlainChange) → n ≡ m → put n [] o ≡ one_or_none (option_map (λ c. (m, c)) o)
first_put n m None same = refl
first_put n m (Some c) same = ap (λ k. (k, c) ∷ []) same

changes_set : (n k : ℕ) (old : List PlainAlarm) (a : PlainAlarm) → changes_from n old (slice_set old k a) ≡ one_or_none (option_map (λ c. (n + k, c)) (change_from (slice_get old k) a))
changes_set n k [] a = refl
changes_set n zero (b ∷ old) a =
    ap (λ rest. put n rest (change_between (code_of b.state) (code_of a.state))) (changes_same (n + 1) old)
    ∙ first_put n (n + 0) (change_between (code_of b.state) (code_of a.state)) (let h : n ≡ n + 0 = omega arith in h)
changes_set n (suc k) (b ∷ old) a =
    ap (put n (changes_from (n + 1) old (slice_set old k a))) (no_change (code_of b.state))
    ∙ changes_set (n + 1) k old a
    ∙ ap (λ m. one_or_none (option_map (λ c. (m, c)) (change_from (slice_get old k) a))) (let h : n + 1 + k ≡ n + suc k = omega arith in h)

-- an order changes the code of one alarm, or of none
pub order_changes : (done : Result Effect OrderFault) (alarms : List PlainAlarm) → changes_from 0 alarms (alarms_by done alarms) ≡ one_or_none (changed_by done alarms)
order_changes (Err e) alarms = changes_same 0 alarms
order_changes (Ok (effect.Restarted n)) alarms = changes_same 0 alarms
order_changes (Ok (effect.Changed n a)) alarms = changes_set 0 n alarms a ∙ ap (λ m. one_or_none (option_map (λ c. (m, c)) (change_from (slice_get alarms n) a))) (let h : 0 + n ≡ n = omega arith in h)

-- the target of an order that isn't refused for want of it is there
named_target : (plant : PlainPlant) (console : ℕ) (verb : Verb) (n : ℕ) (refused : Option OrderFault) → HasTarget plant verb n → IsNamed plant (entry.Order console verb (Some n) refused)
named_target plant console verb n None there = (n, refl, there)
named_target plant console verb n (Some fault.UnknownTarget) there = tt
named_target plant console verb n (Some fault.NotYourArea) there = (n, refl, there)
named_target plant console verb n (Some fault.WrongState) there = (n, refl, there)
named_target plant console verb n (Some fault.ShelveTime) there = (n, refl, there)
named_target plant console verb n (Some fault.NotFaulted) there = (n, refl, there)
named_target plant console verb n (Some fault.OldPlant) there = tt

abbrev Named : PlainPlant → ℕ → Verb → ℕ → Result Effect OrderFault → Type 0
Named plant console verb n done = IsNamed plant (entry.Order console verb (Some n) (refusal_of done))

alarm_named : (plant : PlainPlant) (alarms : List PlainAlarm) (last console : ℕ) (verb : Verb) (n : ℕ) (o : Option AlarmRow) → slice_get plant.alarms n ≡ o → is_restart verb ≡ false
    → Named plant console verb n (elim o [ None ↦ Err fault.UnknownTarget | Some row ↦ if list_any (has_area console row.area) plant.consoles then order_at n verb last (slice_get alarms n) else Err fault.NotYourArea ])
alarm_named plant alarms last console verb n None at is = tt
alarm_named plant alarms last console verb n (Some row) at is =
    named_target plant console verb n _ (subst (λ b. n < (if b then length (programs_of plant) else length plant.alarms)) (sym is) (slice_get_within plant.alarms n row at))

program_named : (plant : PlainPlant) (faulted : List Bool) (console : ℕ) (verb : Verb) (n : ℕ) (o : Option Bool) → slice_get faulted n ≡ o → length faulted ≡ length (programs_of plant) → is_restart verb ≡ true
    → Named plant console verb n (elim o [ None ↦ Err fault.UnknownTarget | Some flag ↦ if list_any (is_console console) plant.consoles then (if flag then Ok (effect.Restarted n) else Err fault.NotFaulted) else Err fault.NotYourArea ])
program_named plant faulted console verb n None at long is = tt
program_named plant faulted console verb n (Some flag) at long is =
    named_target plant console verb n _ (subst (λ b. n < (if b then length (programs_of plant) else length plant.alarms)) (sym is) (subst (λ m. n < m) long (slice_get_within faulted n flag at)))

by_verb : (plant : PlainPlant) (alarms : List PlainAlarm) (faulted : List Bool) (last console : ℕ) (verb : Verb) (n : ℕ) (b : Bool) → is_restart verb ≡ b → length faulted ≡ length (programs_of plant)
    → Named plant console verb n (if b then program_order plant faulted console n else alarm_order plant alarms last console verb n)
by_verb plant alarms faulted last console verb n true is long = program_named plant faulted console verb n (slice_get faulted n) refl long is
by_verb plant alarms faulted last console verb n false is long = alarm_named plant alarms last console verb n (slice_get plant.alarms n) refl is

by_target : (plant : PlainPlant) (alarms : List PlainAlarm) (faulted : List Bool) (last console : ℕ) (verb : Verb) (known : ℕ) (target : Option ℕ) → length faulted ≡ length (programs_of plant)
    → IsNamed plant (entry.Order console verb target (refusal_of (order_outcome plant alarms faulted last console (record { verb = verb; target = target; plant = known }))))
by_target plant alarms faulted last console verb known None long = tt
by_target plant alarms faulted last console verb known (Some n) long = by_verb plant alarms faulted last console verb n (is_restart verb) refl long

if_known : (plant : PlainPlant) (console : ℕ) (order : Order) (done : Result Effect OrderFault) (known : Bool) → IsNamed plant (entry.Order console order.verb order.target (refusal_of done))
    → IsNamed plant (entry.Order console order.verb order.target (refusal_of (if known then done else Err fault.OldPlant)))
if_known plant console order done true named = named
if_known plant console order done false named = tt

pub order_named : (plant : PlainPlant) (alarms : List PlainAlarm) (faulted : List Bool) (last reloads console : ℕ) (order : Order) → length faulted ≡ length (programs_of plant)
    → IsNamed plant (entry.Order console order.verb order.target (refusal_of (unless_old reloads order (order_outcome plant alarms faulted last console order))))
order_named plant alarms faulted last reloads console order long =
    if_known plant console order (order_outcome plant alarms faulted last console order) (order.plant == reloads) (by_target plant alarms faulted last console order.verb order.plant order.target long)
