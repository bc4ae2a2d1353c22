-- An order keeps the condition and the suppression of each alarm's last scan, so the alarms go on following the cells.
use Rattle.std.proofs.Common.{◌≡◌, ◌==◌, ℕ, ℤ, Bool, true, false, if◌then◌else◌, List, map, Option, Some, None, Ok, Err, refl, ap, sym, ◌∙◌}
use Rattle.std.specs.Prelude.{slice_get}
use Rattle.std.specs.List.{list_any}
use Rattle.std.specs.Option.{option_map}
use Rattle.std.specs.declared.result.Result.{Result}
use Rattle.std.proofs.Math.Seq.{map-set_same}
use Rattle.std.proofs.lemmas.Option.{get_or_from_slice_get, same_Some, slice_get-map}
use Rattle.alarm_machine.specs.declared.states.AlarmState.{AlarmState}
use Rattle.alarm_machine.specs.declared.states.Verb.{Verb}
use Rattle.alarm_machine.specs.declared.states.OrderFault.{OrderFault}
use Rattle.alarm_machine.specs.declared.states.OrderFault.TheVariants as fault
use Rattle.alarm_machine.specs.Alarms.{PlainAlarm, on_order}
use Rattle.alarm_delays.specs.Delays.{PlainDelays, Follows, has_come}
use Rattle.alarm_watch.specs.declared.watched.Watch.{Watch}
use Rattle.alarm_watch.specs.Watched.{Follow}
use Rattle.engine_history.specs.AlarmRow.{AlarmRow}
use Rattle.engine_history.specs.Plants.{PlainPlant}
use Rattle.engine_history.specs.Orderers.{has_area}
use Rattle.alarm_orders.specs.declared.order.Order.{Order}
use Rattle.engine_system.specs.declared.state.Effect.{Effect}
use Rattle.engine_system.specs.declared.state.Effect.TheVariants as effect
use Rattle.alarm_machine.specs.Orders.{is_restart}
use Rattle.engine_system.specs.Orders.{is_console, alarm_effect, order_at, alarm_order, program_order, order_outcome, unless_old, alarms_by}

-- what is told of an alarm by its last condition or suppression is told again after an order
abbrev Keeps : (PlainAlarm → Bool) → List PlainAlarm → Result Effect OrderFault → Type 0
Keeps f alarms done = map f (alarms_by done alarms) ≡ map f alarms

abbrev IgnoresState : (PlainAlarm → Bool) → Type 0
IgnoresState f = (a : PlainAlarm) (s : AlarmState) → f (record a { state = s }) ≡ f a

by_table : (f : PlainAlarm → Bool) → IgnoresState f → (alarms : List PlainAlarm) (n : ℕ) (a : PlainAlarm) → slice_get alarms n ≡ Some a → (r : Result AlarmState OrderFault)
    → Keeps f alarms (alarm_effect n (elim r [ Ok new ↦ Ok (record a { state = new }) | Err e ↦ Err e ]))
by_table f ignores alarms n a at (Err e) = refl
by_table f ignores alarms n a at (Ok new) = map-set_same f alarms n (record a { state = new }) a (ignores a new ∙ ap f (sym (get_or_from_slice_get alarms n a a at)))

by_alarm : (f : PlainAlarm → Bool) → IgnoresState f → (alarms : List PlainAlarm) (n : ℕ) (verb : Verb) (last : ℕ) (o : Option PlainAlarm) → slice_get alarms n ≡ o → Keeps f alarms (order_at n verb last o)
by_alarm f ignores alarms n verb last None at = refl
by_alarm f ignores alarms n verb last (Some a) at = by_table f ignores alarms n a at (on_order verb last a)

by_area : (f : PlainAlarm → Bool) → IgnoresState f → (alarms : List PlainAlarm) (n : ℕ) (verb : Verb) (last : ℕ) (b : Bool) → Keeps f alarms (if b then order_at n verb last (slice_get alarms n) else Err fault.NotYourArea)
by_area f ignores alarms n verb last true = by_alarm f ignores alarms n verb last (slice_get alarms n) refl
by_area f ignores alarms n verb last false = refl

by_row : (f : PlainAlarm → Bool) → IgnoresState f → (plant : PlainPlant) (alarms : List PlainAlarm) (last console : ℕ) (verb : Verb) (n : ℕ) (o : Option AlarmRow)
    → Keeps f alarms (elim o [ None ↦ Err fault.UnknownTarget | Some row ↦ if list_any (has_area console row.area) plant.consoles then order_at n verb last (slice_get alarms n) else Err fault.NotYourArea ])
by_row f ignores plant alarms last console verb n None = refl
by_row f ignores plant alarms last console verb n (Some row) = by_area f ignores alarms n verb last (list_any (has_area console row.area) plant.consoles)

restarted : (f : PlainAlarm → Bool) (alarms : List PlainAlarm) (n : ℕ) (b flag : Bool) → Keeps f alarms (if b then (if flag then Ok (effect.Restarted n) else Err fault.NotFaulted) else Err fault.NotYourArea)
restarted f alarms n true true = refl
restarted f alarms n true false = refl
restarted f alarms n false flag = refl

by_flag : (f : PlainAlarm → Bool) (plant : PlainPlant) (alarms : List PlainAlarm) (console n : ℕ) (o : Option Bool)
    → Keeps f alarms (elim o [ None ↦ Err fault.UnknownTarget | Some flag ↦ if list_any (is_console console) plant.consoles then (if flag then Ok (effect.Restarted n) else Err fault.NotFaulted) else Err fault.NotYourArea ])
by_flag f plant alarms console n None = refl
by_flag f plant alarms console n (Some flag) = restarted f alarms n (list_any (is_console console) plant.consoles) flag

by_verb : (f : PlainAlarm → Bool) → IgnoresState f → (plant : PlainPlant) (alarms : List PlainAlarm) (faulted : List Bool) (last console : ℕ) (verb : Verb) (n : ℕ) (b : Bool)
    → Keeps f alarms (if b then program_order plant faulted console n else alarm_order plant alarms last console verb n)
by_verb f ignores plant alarms faulted last console verb n true = by_flag f plant alarms console n (slice_get faulted n)
by_verb f ignores plant alarms faulted last console verb n false = by_row f ignores plant alarms last console verb n (slice_get plant.alarms n)

by_target : (f : PlainAlarm → Bool) → IgnoresState f → (plant : PlainPlant) (alarms : List PlainAlarm) (faulted : List Bool) (last console : ℕ) (verb : Verb) (known : ℕ) (target : Option ℕ)
    → Keeps f alarms (order_outcome plant alarms faulted last console (record { verb = verb; target = target; plant = known }))
by_target f ignores plant alarms faulted last console verb known None = refl
by_target f ignores plant alarms faulted last console verb known (Some n) = by_verb f ignores plant alarms faulted last console verb n (is_restart verb)

if_known : (f : PlainAlarm → Bool) (alarms : List PlainAlarm) (done : Result Effect OrderFault) (known : Bool) → Keeps f alarms done → Keeps f alarms (if known then done else Err fault.OldPlant)
if_known f alarms done true keeps = keeps
if_known f alarms done false keeps = refl

order_keeps : (f : PlainAlarm → Bool) → IgnoresState f → (plant : PlainPlant) (alarms : List PlainAlarm) (faulted : List Bool) (last reloads console : ℕ) (order : Order)
    → Keeps f alarms (unless_old reloads order (order_outcome plant alarms faulted last console order))
order_keeps f ignores plant alarms faulted last reloads console order =
    if_known f alarms (order_outcome plant alarms faulted last console order) (order.plant == reloads) (by_target f ignores plant alarms faulted last console order.verb order.plant order.target)

-- alarms with the same last conditions follow the delays alike
follows_same : (d : PlainDelays) (xs ys : List PlainAlarm) → map (λ (a : PlainAlarm). a.condition) xs ≡ map (λ (a : PlainAlarm). a.condition) ys → Follows d ys → Follows d xs
follows_same d xs ys same follows n a delay r at d_at r_at = go (slice_get ys n) refl (sym (slice_get-map condition ys n) ∙ ap (λ l. slice_get l n) (sym same) ∙ slice_get-map condition xs n ∙ ap (option_map condition) at)
  where
    condition : PlainAlarm → Bool
    condition x = x.condition

    go : (o : Option PlainAlarm) → slice_get ys n ≡ o → option_map (λ (x : PlainAlarm). x.condition) (slice_get ys n) ≡ Some a.condition → a.condition ≡ has_come delay d.last r
    go None none e = absurd (cc (sym (ap (option_map (λ (x : PlainAlarm). x.condition)) none) ∙ e))
    go (Some b) there e =
        let is : Some b.condition ≡ Some a.condition = sym (ap (option_map (λ (x : PlainAlarm). x.condition)) there) ∙ e in
        sym (same_Some b.condition a.condition is) ∙ follows n b delay r there d_at r_at

-- the alarms that followed follow after an order
pub follow_order : (now : ℕ → ℤ) (watches : List Watch) (d : PlainDelays) (plant : PlainPlant) (alarms : List PlainAlarm) (faulted : List Bool) (last reloads console : ℕ) (order : Order) (done : Result Effect OrderFault)
    → done ≡ unless_old reloads order (order_outcome plant alarms faulted last console order) → Follow now watches d alarms → Follow now watches d (alarms_by done alarms)
follow_order now watches d plant alarms faulted last reloads console order done is follow = record {
  conditions = follow.conditions;
  suppressions = ap (λ x. map (λ (a : PlainAlarm). a.suppressed) (alarms_by x alarms)) is ∙ order_keeps (λ a. a.suppressed) (λ a s. refl) plant alarms faulted last reloads console order ∙ follow.suppressions;
  counted = follows_same d (alarms_by done alarms) alarms (ap (λ x. map (λ (a : PlainAlarm). a.condition) (alarms_by x alarms)) is ∙ order_keeps (λ a. a.condition) (λ a s. refl) plant alarms faulted last reloads console order) follow.counted;
}
