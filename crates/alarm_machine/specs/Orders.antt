-- The texts of orders and of their refusals.
use Rattle.std.specs.Prelude.{Bool, true, false, ℕ, List, codes, Option, Some, None}
use Rattle.alarm_machine.specs.declared.states.Verb.{Verb}
use Rattle.alarm_machine.specs.declared.states.Verb.TheVariants as verb
use Rattle.alarm_machine.specs.declared.states.OrderFault.{OrderFault}
use Rattle.alarm_machine.specs.declared.states.OrderFault.TheVariants as fault

-- the text of an order: its command word
abbrev pub verb_text : Verb → List ℕ
verb_text verb.Ack = codes "ack"
verb_text verb.Reset = codes "reset"
verb_text (verb.Shelve d) = codes "shelve"
verb_text verb.Unshelve = codes "unshelve"
verb_text verb.Remove = codes "remove"
verb_text verb.PutBack = codes "return"
verb_text verb.Restart = codes "restart"

-- an order for a program, and not for an alarm
abbrev pub is_restart : Verb → Bool
is_restart verb.Restart = true
is_restart _ = false

-- the text of a refusal: its number
abbrev pub order_fault_text : OrderFault → List ℕ
order_fault_text fault.UnknownTarget = codes "O1"
order_fault_text fault.NotYourArea = codes "O2"
order_fault_text fault.WrongState = codes "O3"
order_fault_text fault.ShelveTime = codes "O4"
order_fault_text fault.NotFaulted = codes "O5"
order_fault_text fault.OldPlant = codes "O6"

-- the text of a reply: OK, or the number of the refusal
abbrev pub reply_text : Option OrderFault → List ℕ
reply_text None = codes "OK"
reply_text (Some fault) = order_fault_text fault
