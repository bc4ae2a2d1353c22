-- An order's entry may come next, and does to a board's alarms what the order does to the system's.
use Rattle.std.proofs.Common.{◌≡◌, ℕ, ◌==◌, Bool, true, false, ◌&&◌, ◌||◌, if◌then◌else◌, List, Option, Some, None, Ok, Err, refl, ap, ◌∙◌, eq-eqb}
use Rattle.std.specs.Prelude.{slice_get, slice_set}
use Rattle.std.specs.List.{list_any}
use Rattle.std.specs.declared.result.Result.{Result}
use Rattle.alarm_machine.specs.declared.states.AlarmState.{AlarmState}
use Rattle.alarm_machine.specs.declared.states.Verb.{Verb}
use Rattle.alarm_machine.specs.declared.states.Verb.TheVariants as verb
use Rattle.alarm_machine.specs.declared.states.OrderFault.{OrderFault}
use Rattle.alarm_machine.specs.declared.states.OrderFault.TheVariants as fault
use Rattle.alarm_machine.specs.Codes.{PlainChange, code_of, change_between, same_code, rank}
use Rattle.alarm_machine.specs.Alarms.{PlainAlarm, on_order, after_order}
use Rattle.alarm_bank.specs.declared.event.BankEvent.TheVariants as bank_event
use Rattle.alarm_bank.specs.Banks.{PlainBank, after_event, reply_of, told}
use Rattle.alarm_bank.specs.Moves.{change_from}
use Rattle.engine.specs.AlarmRow.{AlarmRow}
use Rattle.engine.specs.Plants.{PlainPlant}
use Rattle.engine.specs.Orderers.{has_area}
use Rattle.alarm_orders.specs.declared.order.Order.{Order}
use Rattle.engine.specs.Effect.{Effect}
use Rattle.engine.specs.Effect.TheVariants as effect
use Rattle.engine.specs.Orders.{is_console, alarm_effect, order_at, order_outcome, unless_old, alarms_by, reply_by}
use Rattle.console_boards.specs.declared.entry.AnsweredOrder.{AnsweredOrder}
use Rattle.alarm_machine.specs.Orders.{is_restart}
use Rattle.console_boards.specs.Replies.{fault_number, same_change, same_reply, is_outside, after_answer, may_answer}
use Rattle.console_recorder.specs.Entries.{board_reply}

-- what an order is answered that does this
abbrev answered : PlainBank → Order → Result Effect OrderFault → AnsweredOrder
answered b order done = record { order = order; reply = board_reply (reply_by done b.alarms) }

-- the order may have this answer, and the board's alarms are then what it makes of them
pub record Takes (b : PlainBank) (order : Order) (done : Result Effect OrderFault) : Type 0 where
  pub may : may_answer b (answered b order done) ≡ true
  pub after : after_answer b (answered b order done) ≡ record b { alarms = alarms_by done b.alarms }

or_second : (a b : Bool) → b ≡ true → (a || b) ≡ true
or_second true b h = refl
or_second false b h = h

if_same : {A : Type 0} (b : Bool) (x y : A) → y ≡ x → (if b then x else y) ≡ x
if_same true x y h = refl
if_same false x y h = h

change_itself : (c : Option PlainChange) → same_change c c ≡ true
change_itself None = refl
change_itself (Some c) = ap (λ (x : Bool). x && same_code c.to c.to) (eq-eqb (rank c.from) (rank c.from) refl) ∙ eq-eqb (rank c.to) (rank c.to) refl

fault_itself : (e : OrderFault) → (fault_number e == fault_number e) ≡ true
fault_itself e = eq-eqb (fault_number e) (fault_number e) refl

-- an order that is refused before any alarm is asked
outside_area : (b : PlainBank) (order : Order) → Takes b order (Err fault.NotYourArea)
outside_area b order = record { may = or_second (is_restart order.verb) true refl; after = refl }

outside_old : (b : PlainBank) (order : Order) → Takes b order (Err fault.OldPlant)
outside_old b order = record { may = or_second (is_restart order.verb) true refl; after = refl }

outside_target : (b : PlainBank) (order : Order) → Takes b order (Err fault.UnknownTarget)
outside_target b order = record { may = or_second (is_restart order.verb) true refl; after = refl }

-- what an alarm makes of an order, and what is told of it
abbrev made : PlainAlarm → Result AlarmState OrderFault → Result PlainAlarm OrderFault
made a r = elim r [ Ok new ↦ Ok (record a { state = new }) | Err e ↦ Err e ]

abbrev put : PlainBank → ℕ → Option (Result PlainAlarm OrderFault) → PlainBank
put b n o = elim o [ None ↦ b | Some r ↦ elim r [ Ok x ↦ record b { alarms = slice_set b.alarms n x } | Err e ↦ b ] ]

reply_is : (b : PlainBank) (n : ℕ) (v : Verb) (a : PlainAlarm) (r : Result AlarmState OrderFault) → slice_get b.alarms n ≡ Some a → on_order v b.moment a ≡ r → reply_of n v b ≡ told a (made a r)
reply_is b n v a r at is =
    ap (λ (o : Option PlainAlarm). elim o [ None ↦ Err fault.UnknownTarget | Some x ↦ told x (after_order v b.moment x) ]) at
    ∙ ap (λ (q : Result AlarmState OrderFault). told a (made a q)) is

step_is : (b : PlainBank) (n : ℕ) (v : Verb) (a : PlainAlarm) (r : Result AlarmState OrderFault) → slice_get b.alarms n ≡ Some a → on_order v b.moment a ≡ r → after_event (bank_event.Order n v) b ≡ put b n (Some (made a r))
step_is b n v a r at is =
    ap (λ (o : Option PlainAlarm). put b n (elim o [ None ↦ None | Some x ↦ Some (after_order v b.moment x) ])) at
    ∙ ap (λ (q : Result AlarmState OrderFault). put b n (Some (made a q))) is

-- of an order for the plant of any number
module _ (m : ℕ) where
  by_table : (b : PlainBank) (n : ℕ) (v : Verb) (a : PlainAlarm) → slice_get b.alarms n ≡ Some a → (r : Result AlarmState OrderFault) → on_order v b.moment a ≡ r
      → Takes b (record { verb = v; target = Some n; plant = m }) (alarm_effect n (made a r))
  by_table b n v a at (Ok new) is =
      let change = change_between (code_of a.state) (code_of new) in
      let same : same_reply (Ok (change_from (slice_get b.alarms n) (record a { state = new }))) (reply_of n v b) ≡ true =
      ap (λ (g : Option PlainAlarm). same_reply (Ok (change_from g (record a { state = new }))) (reply_of n v b)) at
      ∙ (ap (λ (q : Result (Option PlainChange) OrderFault). same_reply (Ok change) q) (reply_is b n v a (Ok new) at is) ∙ change_itself change) in
      record { may = or_second (is_restart v) _ same; after = step_is b n v a (Ok new) at is }
  by_table b n v a at (Err e) is =
      let same : same_reply (Err e) (reply_of n v b) ≡ true = ap (λ (q : Result (Option PlainChange) OrderFault). same_reply (Err e) q) (reply_is b n v a (Err e) at is) ∙ fault_itself e in
      record {
        may = or_second (is_restart v) _ (or_second (is_outside (Err e)) _ same);
        after = if_same (is_outside (Err e)) b (after_event (bank_event.Order n v) b) (step_is b n v a (Err e) at is);
      }

  by_alarm : (b : PlainBank) (n : ℕ) (v : Verb) (o : Option PlainAlarm) → slice_get b.alarms n ≡ o → Takes b (record { verb = v; target = Some n; plant = m }) (order_at n v b.moment o)
  by_alarm b n v None at = outside_target b (record { verb = v; target = Some n; plant = m })
  by_alarm b n v (Some a) at = by_table b n v a at (on_order v b.moment a) refl

  by_area : (b : PlainBank) (n : ℕ) (v : Verb) (mine : Bool) → Takes b (record { verb = v; target = Some n; plant = m }) (if mine then order_at n v b.moment (slice_get b.alarms n) else Err fault.NotYourArea)
  by_area b n v true = by_alarm b n v (slice_get b.alarms n) refl
  by_area b n v false = outside_area b (record { verb = v; target = Some n; plant = m })

  by_row : (b : PlainBank) (plant : PlainPlant) (console n : ℕ) (v : Verb) (o : Option AlarmRow)
      → Takes b (record { verb = v; target = Some n; plant = m }) (elim o [ None ↦ Err fault.UnknownTarget | Some row ↦ if list_any (has_area console row.area) plant.consoles then order_at n v b.moment (slice_get b.alarms n) else Err fault.NotYourArea ])
  by_row b plant console n v None = outside_target b (record { verb = v; target = Some n; plant = m })
  by_row b plant console n v (Some row) = by_area b n v (list_any (has_area console row.area) plant.consoles)

  -- a restart changes no alarm
  restart_rests : (b : PlainBank) (n : ℕ) (o : Option PlainAlarm) → slice_get b.alarms n ≡ o → after_event (bank_event.Order n verb.Restart) b ≡ b
  restart_rests b n None at = ap (λ (o : Option PlainAlarm). put b n (elim o [ None ↦ None | Some x ↦ Some (after_order verb.Restart b.moment x) ])) at
  restart_rests b n (Some a) at = step_is b n verb.Restart a (Err fault.WrongState) at refl

  restarted : (b : PlainBank) (n : ℕ) (listed flag : Bool) → Takes b (record { verb = verb.Restart; target = Some n; plant = m }) (if listed then (if flag then Ok (effect.Restarted n) else Err fault.NotFaulted) else Err fault.NotYourArea)
  restarted b n true true = record { may = refl; after = restart_rests b n (slice_get b.alarms n) refl }
  restarted b n true false = record { may = refl; after = restart_rests b n (slice_get b.alarms n) refl }
  restarted b n false flag = outside_area b (record { verb = verb.Restart; target = Some n; plant = m })

  by_flag : (b : PlainBank) (plant : PlainPlant) (console n : ℕ) (o : Option Bool)
      → Takes b (record { verb = verb.Restart; target = Some n; plant = m }) (elim o [ None ↦ Err fault.UnknownTarget | Some flag ↦ if list_any (is_console console) plant.consoles then (if flag then Ok (effect.Restarted n) else Err fault.NotFaulted) else Err fault.NotYourArea ])
  by_flag b plant console n None = outside_target b (record { verb = verb.Restart; target = Some n; plant = m })
  by_flag b plant console n (Some flag) = restarted b n (list_any (is_console console) plant.consoles) flag

  by_verb : (b : PlainBank) (plant : PlainPlant) (faulted : List Bool) (console n : ℕ) (v : Verb) → Takes b (record { verb = v; target = Some n; plant = m }) (order_outcome plant b.alarms faulted b.moment console (record { verb = v; target = Some n; plant = m }))
  by_verb b plant faulted console n verb.Ack = by_row b plant console n verb.Ack (slice_get plant.alarms n)
  by_verb b plant faulted console n verb.Reset = by_row b plant console n verb.Reset (slice_get plant.alarms n)
  by_verb b plant faulted console n (verb.Shelve d) = by_row b plant console n (verb.Shelve d) (slice_get plant.alarms n)
  by_verb b plant faulted console n verb.Unshelve = by_row b plant console n verb.Unshelve (slice_get plant.alarms n)
  by_verb b plant faulted console n verb.Remove = by_row b plant console n verb.Remove (slice_get plant.alarms n)
  by_verb b plant faulted console n verb.PutBack = by_row b plant console n verb.PutBack (slice_get plant.alarms n)
  by_verb b plant faulted console n verb.Restart = by_flag b plant console n (slice_get faulted n)

  by_target : (b : PlainBank) (plant : PlainPlant) (faulted : List Bool) (console : ℕ) (v : Verb) (target : Option ℕ) → Takes b (record { verb = v; target = target; plant = m }) (order_outcome plant b.alarms faulted b.moment console (record { verb = v; target = target; plant = m }))
  by_target b plant faulted console v None = outside_target b (record { verb = v; target = None; plant = m })
  by_target b plant faulted console v (Some n) = by_verb b plant faulted console n v

pub order_takes : (b : PlainBank) (plant : PlainPlant) (faulted : List Bool) (console : ℕ) (order : Order) → Takes b order (order_outcome plant b.alarms faulted b.moment console order)
order_takes b plant faulted console order = by_target order.plant b plant faulted console order.verb order.target

-- and so of one that is refused where its maker knew another number of reloads
unless_refused : (b : PlainBank) (order : Order) (present : Bool) (done : Result Effect OrderFault) → Takes b order done → Takes b order (if present then done else Err fault.OldPlant)
unless_refused b order true done takes = takes
unless_refused b order false done takes = outside_old b order

pub ordered_takes : (b : PlainBank) (plant : PlainPlant) (faulted : List Bool) (reloads console : ℕ) (order : Order) → Takes b order (unless_old reloads order (order_outcome plant b.alarms faulted b.moment console order))
ordered_takes b plant faulted reloads console order = unless_refused b order (order.plant == reloads) (order_outcome plant b.alarms faulted b.moment console order) (order_takes b plant faulted console order)
